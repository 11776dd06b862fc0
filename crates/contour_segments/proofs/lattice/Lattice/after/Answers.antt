use Rattle.std.proofs.Common.{◌-◌, arith}
use Rattle.contour_segments.proofs.PlaceLemmas.{after_in_row, after_row}
use Rattle.contour_segments.proofs.lattice.Lattice.after.Goals as goal

pub returns-then-col-width : goal.returns-then-col-width
returns-then-col-width c = λ i at more. after_row (c.args.self.now.cells.now.nrows - 1) (c.args.self.now.cells.now.ncols - 1) i c.args.place.0 c.args.place.1 at (omega (arith, c.if-col-width.true, c.ncols-width.ensures.value)) more

pub returns-else-col-width : goal.returns-else-col-width
returns-else-col-width c = λ i at more. after_in_row (c.args.self.now.cells.now.nrows - 1) (c.args.self.now.cells.now.ncols - 1) i c.args.place.0 c.args.place.1 at (omega (arith, c.if-col-width.false, c.ncols-width.ensures.value, c.requires.col))
