use Rattle.std.proofs.Common.{not}
use Rattle.std.specs.Prelude.{nat_eq}
use denote.Param.{value_of, number}
use Rattle.sieve_core.proofs.NeighbourLemmas.{IsMeeting}
use Rattle.sieve_core.proofs.neighbours.meet_row.Given as goal

abbrev pub invariant-loop-i : goal.invariant-loop-i
invariant-loop-i g l = IsMeeting (not (nat_eq (value_of (number g.row.EIGHT)) 0)) l.regions l.table l.st l.fn.largest.items l.largest.items l.row l.initial.i l.above l.i
