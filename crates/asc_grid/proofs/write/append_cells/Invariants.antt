use Rattle.std.proofs.Common.{◌≤◌, ◌-◌, drop, length}
use Rattle.asc_grid.specs.Appended.{Appends}
use Rattle.asc_grid.specs.Canonical.{spelled}
use Rattle.asc_grid.specs.Inner.Rest.{row_rest}
use Rattle.asc_grid.proofs.write.append_cells.Given as goal

-- the cells before the column were appended
abbrev pub invariant-loop-col : goal.invariant-loop-col
invariant-loop-col g l = record {
  within : l.col ≤ length l.row;
  begun : l.from ≤ l.col;
  first : l.col ≤ l.from → length l.out.items ≤ length l.initial.out.items;
  text : Appends l.initial.out.items l.out.items (row_rest (spelled g.T.Cell.units_of g.T.Cell.PLACES) (drop l.from l.row)) (row_rest (spelled g.T.Cell.units_of g.T.Cell.PLACES) (drop l.col l.row));
}

abbrev pub decreases-loop-col : goal.decreases-loop-col
decreases-loop-col g l = length l.row - l.col
