use Rattle.std.proofs.Common.{◌≡◌, ◌<◌, ◌≤◌, ◌+◌, ◌-◌, ℕ}
use Rattle.std.specs.Prelude.{slice_get, slice_index}
use Rattle.region_label.specs.Inner.Rows.{noted_units}
use Rattle.region_label.proofs.rows.RowRuns.first_alike.Given as goal

-- the runs that were passed over have other units
abbrev pub invariant-runs : goal.invariant-runs
invariant-runs l = record {
  from : l.from ≤ l.at;
  to : l.at ≤ slice_index l.self.starts.items (l.row + 1);
  before : (j : ℕ) → l.from ≤ j → j < l.at → ¬ (slice_get (noted_units l.self.notes.items) j ≡ slice_get (noted_units l.self.notes.items) l.run);
}

abbrev pub decreases-runs : goal.decreases-runs
decreases-runs l = slice_index l.self.starts.items (l.row + 1) - l.at
