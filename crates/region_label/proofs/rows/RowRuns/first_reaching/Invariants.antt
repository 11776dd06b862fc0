use Rattle.std.proofs.Common.{◌≡◌, ◌<◌, ◌≤◌, ◌+◌, ◌-◌, ℕ, Some}
use Rattle.std.specs.Prelude.{slice_get, slice_index}
use Rattle.region_label.specs.Run.{Run}
use Rattle.region_label.proofs.rows.RowRuns.first_reaching.Given as goal

-- the runs that were passed over end before the column
abbrev pub invariant-runs : goal.invariant-runs
invariant-runs l = record {
  from : l.from ≤ l.at;
  to : l.at ≤ slice_index l.self.starts.items (l.row + 1);
  before : (j : ℕ) (b : Run) → slice_get l.self.runs.items j ≡ Some b → l.from ≤ j → j < l.at → b.to < l.col;
}

abbrev pub decreases-runs : goal.decreases-runs
decreases-runs l = slice_index l.self.starts.items (l.row + 1) - l.at
