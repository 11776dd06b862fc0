use Rattle.std.proofs.Common.{◌≡◌, length}
use Rattle.region_label.specs.Inner.Rows.{AreFound, AreStarts, noted_units}
use Rattle.region_label.proofs.rows.RowRuns.build.Given as goal

-- the runs of the rows before this one are found
abbrev pub invariant-loop-row : goal.invariant-loop-row
invariant-loop-row g l = record {
  ncols : l.rows.ncols ≡ l.cells.ncols;
  nrows : l.rows.nrows ≡ l.cells.nrows;
  found : AreFound g.T.Cell.units_of l.cells l.valid l.rows.runs.items (noted_units l.rows.notes.items) (l.row, 0);
  starts : AreStarts l.rows.runs.items l.rows.starts.items l.row;
  none : length l.rows.blocks.of.items ≡ 0;
}
