use Rattle.std.proofs.Common.{◌<◌}
use Rattle.asc_grid.specs.Appended.{Appends}
use Rattle.asc_grid.specs.Canonical.{spelled}
use Rattle.asc_grid.specs.Inner.Rest.{rows_rest}
use Rattle.asc_grid.proofs.write.append_rows.Given as goal

-- the rows so far were appended
abbrev pub invariant-loop-row : goal.invariant-loop-row
invariant-loop-row g l = record {
  col : l.col < l.cells.ncols;
  text : Appends l.initial.out.items l.out.items (rows_rest (spelled g.T.Cell.units_of g.T.Cell.PLACES) l.cells.rows l.fn.from.row l.fn.from.col) (rows_rest (spelled g.T.Cell.units_of g.T.Cell.PLACES) l.cells.rows l.row l.col);
}
