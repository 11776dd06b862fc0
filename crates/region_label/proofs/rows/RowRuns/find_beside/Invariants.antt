use Rattle.std.proofs.Common.{◌≤◌}
use Rattle.std.specs.Prelude.{slice_index}
use Rattle.region_label.specs.Inner.Notes.{AreNotedBefore}
use Rattle.region_label.specs.Inner.Table.{KeepsRows}
use Rattle.region_label.proofs.rows.RowRuns.find_beside.Given as goal

abbrev pub invariant-loop-row : goal.invariant-loop-row
invariant-loop-row l = record {
  keeps : KeepsRows l.fn.self l.self;
  few : l.on ≤ slice_index l.self.starts.items l.row;
  noted : AreNotedBefore l.self (slice_index l.self.starts.items l.row);
}
