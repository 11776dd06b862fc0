use Rattle.std.proofs.Common.{◌≤◌, ◌<◌, not}
use Rattle.std.specs.Prelude.{nat_eq}
use denote.Param.{value_of, number}
use Rattle.sieve_core.specs.Inner.Neighbours.{AreBest, HasMetAll, Improves}
use Rattle.sieve_core.proofs.neighbours.meet_above.Given as goal

-- the runs before this one have been met
abbrev pub invariant-loop-j : goal.invariant-loop-j
invariant-loop-j g l = record {
  best : AreBest l.regions l.largest.items;
  improves : Improves (not (nat_eq (value_of (number g.row.EIGHT)) 0)) l.regions l.fn.largest.items l.largest.items;
  met : HasMetAll (not (nat_eq (value_of (number g.row.EIGHT)) 0)) l.regions l.table l.st l.largest.items l.i (λ j a b. (l.from ≤ j) × (j < l.j));
}
