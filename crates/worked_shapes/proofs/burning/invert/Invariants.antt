use Rattle.std.proofs.Common.{◌≡◌}
use Rattle.worked_shapes.proofs.burning.invert.Given as goal

-- the size stays
abbrev pub invariant-loop-row : goal.invariant-loop-row
invariant-loop-row l = record {
  cols : l.mask.ncols ≡ l.fn.mask.ncols;
  rows : l.mask.nrows ≡ l.fn.mask.nrows;
}

abbrev pub invariant-loop-col : goal.invariant-loop-col
invariant-loop-col l = record {
  cols : l.mask.ncols ≡ l.fn.mask.ncols;
  rows : l.mask.nrows ≡ l.fn.mask.nrows;
}
