use Rattle.std.proofs.Common.{◌≤◌}
use Rattle.region_label.specs.Inner.Notes.{AreNotedBefore}
use Rattle.region_label.specs.Inner.Table.{KeepsRows}
use Rattle.region_label.proofs.NotedLemmas.{StandsAt}
use Rattle.region_label.proofs.rows.RowRuns.note_row.Given as goal

abbrev pub invariant-runs : goal.invariant-runs
invariant-runs l = record {
  above : StandsAt l.self.runs.items l.self.starts.items l.row l.row_above l.run l.above;
  below : StandsAt l.self.runs.items l.self.starts.items l.row l.row_below l.run l.below;
  keeps : KeepsRows l.fn.self l.self;
  few : l.on ≤ l.run;
  noted : AreNotedBefore l.self l.run;
}
