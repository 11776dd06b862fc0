use Rattle.std.proofs.Common.{arith}
use Rattle.asc_grid.proofs.WriteLemmas.{rows_rest-start}
use Rattle.asc_grid.proofs.write.first_of.Goals as goal

pub returns-clause-next : goal.returns-clause-next
returns-clause-next g c = record {
  row = omega arith;
  col = c.ncols-ncols.ensures.shape.some_cols;
}

pub returns-clause-all : goal.returns-clause-all
returns-clause-all g c = rows_rest-start _ _ _ 0 c.ncols-ncols.ensures.shape.some_cols c.ncols-ncols.ensures.shape.width
