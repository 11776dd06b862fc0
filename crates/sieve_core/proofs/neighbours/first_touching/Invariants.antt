use Rattle.std.proofs.Common.{◌≡◌, ◌-◌, ◌+◌, ◌<◌, ◌≤◌, ℕ, Some, not}
use Rattle.std.specs.Prelude.{nat_eq, slice_get}
use denote.Param.{value_of, number}
use Rattle.region_label.specs.Run.{Run}
use Rattle.cell_base.specs.Steps.{step_reach}
use Rattle.sieve_core.proofs.neighbours.first_touching.Given as goal

-- the runs before this one end too far left
abbrev pub invariant-loop-at : goal.invariant-loop-at
invariant-loop-at g l = record {
  from : l.from ≤ l.at;
  to : l.at ≤ l.end;
  early : (j : ℕ) (a : Run) → l.from ≤ j → j < l.at → slice_get l.table.runs j ≡ Some a → a.to + step_reach (not (nat_eq (value_of (number g.row.EIGHT)) 0)) ≤ l.start;
}

abbrev pub decreases-loop-at : goal.decreases-loop-at
decreases-loop-at g l = l.end - l.at
