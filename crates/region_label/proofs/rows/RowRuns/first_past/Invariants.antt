use Rattle.std.proofs.Common.{◌≡◌, ◌-◌, ◌+◌, ◌<◌, ◌≤◌, ℕ, Some}
use Rattle.std.specs.Prelude.{slice_get, slice_index}
use Rattle.region_label.specs.Run.{Run}
use Rattle.region_label.proofs.rows.RowRuns.first_past.Given as goal

-- the first lies between the two
abbrev pub invariant-loop-low : goal.invariant-loop-low
invariant-loop-low l = record {
  from : slice_index l.self.starts.items l.row ≤ l.low;
  between : l.low ≤ l.high;
  to : l.high ≤ slice_index l.self.starts.items (l.row + 1);
  before : (i : ℕ) (run : Run) → slice_get l.self.runs.items i ≡ Some run → slice_index l.self.starts.items l.row ≤ i → i < l.low → run.to ≤ l.col;
  past : (i : ℕ) (run : Run) → slice_get l.self.runs.items i ≡ Some run → l.high ≤ i → i < slice_index l.self.starts.items (l.row + 1) → l.col < run.to;
}

abbrev pub decreases-loop-low : goal.decreases-loop-low
decreases-loop-low l = l.high - l.low
