use Rattle.std.proofs.Common.{◌-◌, ◌+◌, ◌≤◌}
use Rattle.region_label.specs.Inner.Rows.{AreFound, AreStarts, noted_units}
use Rattle.region_label.specs.Inner.Table.{HasSize}
use Rattle.region_label.proofs.rows.RowRuns.push_row.Given as goal

-- the runs before this column are found
abbrev pub invariant-loop-col : goal.invariant-loop-col
invariant-loop-col g l = record {
  within : l.col ≤ l.cells.ncols;
  found : AreFound g.T.Cell.units_of l.cells l.valid l.self.runs.items (noted_units l.self.notes.items) (l.row, l.col);
  starts : AreStarts l.self.runs.items l.self.starts.items (l.row + 1);
  size : HasSize l.fn.self l.self;
}

abbrev pub decreases-loop-col : goal.decreases-loop-col
decreases-loop-col g l = l.cells.ncols - l.col
