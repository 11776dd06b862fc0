use Rattle.std.proofs.Common.{◌<◌, not}
use Rattle.std.specs.Prelude.{nat_eq}
use denote.Param.{value_of, number}
use Rattle.sieve_core.specs.Inner.Neighbours.{AreBest, AreNeighbours, RowsHaveMet}
use Rattle.sieve_core.proofs.neighbours.largest_neighbours.Given as goal

-- the runs of the rows before this one have met theirs
abbrev pub invariant-loop-row : goal.invariant-loop-row
invariant-loop-row g l = record {
  best : AreBest l.regions l.largest.items;
  sound : AreNeighbours (not (nat_eq (value_of (number g.row.EIGHT)) 0)) l.regions l.largest.items;
  met : RowsHaveMet (not (nat_eq (value_of (number g.row.EIGHT)) 0)) l.regions l.table l.st l.largest.items (λ r. r < l.row);
}
