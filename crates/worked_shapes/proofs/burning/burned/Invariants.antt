use Rattle.std.proofs.Common.{◌≡◌}
use Rattle.worked_shapes.proofs.burning.burned.Given as goal

-- the grid is of the frame's size
abbrev pub invariant-loop-text : goal.invariant-loop-text
invariant-loop-text g l = record {
  cols : l.cells.ncols ≡ l.frame.ncols;
  rows : l.cells.nrows ≡ l.frame.nrows;
}
