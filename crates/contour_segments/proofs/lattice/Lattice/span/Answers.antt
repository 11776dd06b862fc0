use Rattle.std.proofs.Common.{◌≡◌, ◌-◌, ℕ, subst, arith}
use Rattle.contour_segments.specs.Inner.Blocks.{Covers}
use Rattle.contour_segments.proofs.PlaceLemmas.{stands}
use Rattle.contour_segments.proofs.ScanLemmas.{covers_more}
use Rattle.contour_segments.proofs.lattice.Lattice.span.Goals as goal

pub span_of_cell-requires-clause-row : goal.span_of_cell-requires-clause-row
span_of_cell-requires-clause-row c =
    let here = stands (c.args.self.now.cells.now.nrows - 1) (c.args.self.now.cells.now.ncols - 1) c.cells.counter c.cells.place (c.cells.invariant.at c.cells-test.true) in
    omega (arith, here.row)

pub span_of_cell-requires-clause-col : goal.span_of_cell-requires-clause-col
span_of_cell-requires-clause-col c =
    let here = stands (c.args.self.now.cells.now.nrows - 1) (c.args.self.now.cells.now.ncols - 1) c.cells.counter c.cells.place (c.cells.invariant.at c.cells-test.true) in
    omega (arith, here.col)

pub after-place-requires-clause-row : goal.after-place-requires-clause-row
after-place-requires-clause-row c =
    let here = stands (c.args.self.now.cells.now.nrows - 1) (c.args.self.now.cells.now.ncols - 1) c.cells.counter c.cells.place (c.cells.invariant.at c.cells-test.true) in
    omega (arith, here.row)

pub after-place-requires-clause-col : goal.after-place-requires-clause-col
after-place-requires-clause-col c =
    let here = stands (c.args.self.now.cells.now.nrows - 1) (c.args.self.now.cells.now.ncols - 1) c.cells.counter c.cells.place (c.cells.invariant.at c.cells-test.true) in
    omega (arith, here.col)

pub cells-preserved : goal.cells-preserved
cells-preserved c =
    let here = c.cells.invariant.at c.cells-test.true in
    record {
      at = λ more. c.after-place.ensures c.cells.counter here (omega (arith, more, c.requires.within));
      covers = covers_more c.args.self.now.cells.now c.args.self.now.valid.now c.cells.span c.span_of_cell.result c.with-span.result c.args.from c.cells.counter c.cells.place here c.with-span.ensures.one c.with-span.ensures.other c.span_of_cell.ensures c.cells.invariant.covers;
    }

pub returns : goal.returns
returns c =
    let end : c.cells.counter ≡ c.args.to = omega (arith, c.cells-test.false, c.cells.auto.counter-end, c.requires.some) in
    subst (λ (n : ℕ). Covers c.args.self.now.cells.now c.args.self.now.valid.now c.cells.span c.args.from n) end c.cells.invariant.covers
