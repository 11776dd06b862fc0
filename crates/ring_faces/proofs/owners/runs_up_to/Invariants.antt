use Rattle.std.proofs.Common.{◌≡◌, ◌+◌, ◌-◌, ◌≤◌, ℕ, Some, length}
use Rattle.std.specs.Prelude.{slice_get}
use Rattle.cell_base.specs.Order.{IsBefore}
use Rattle.region_label.specs.Run.{Run, first_cell}
use Rattle.ring_faces.proofs.owners.runs_up_to.Given as goal

abbrev pub invariant-back : goal.invariant-back
invariant-back l = l.count ≤ length l.runs

abbrev pub decreases-back : goal.decreases-back
decreases-back l = l.count

-- the last of so many runs doesn't begin after the cell
abbrev pub invariant-on : goal.invariant-on
invariant-on l = record {
  within : l.count ≤ length l.runs;
  last : (i : ℕ) (run : Run) → i + 1 ≡ l.count → slice_get l.runs i ≡ Some run → ¬ IsBefore (l.row, l.col) (first_cell run);
}

abbrev pub decreases-on : goal.decreases-on
decreases-on l = length l.runs - l.count
