use Rattle.std.proofs.Common.{◌-◌, ◌/◌, ◌%◌, ◌<◌, ℕ, sym, subst, arith}
use Rattle.std.proofs.Math.Nat.{div-le_self, mod-le}
use Rattle.contour_segments.specs.Inner.Blocks.{IsPlaceOf}
use Rattle.contour_segments.proofs.PlaceLemmas.{fewer, place_of, places_long, some_width}
use Rattle.contour_segments.proofs.lattice.Lattice.place.Goals as goal

pub nonzero_div-result : goal.nonzero_div-result
nonzero_div-result c =
    let nrows = c.args.self.now.cells.now.nrows in
    let ncols = c.args.self.now.cells.now.ncols in
    let some : 0 < ncols - 1 = some_width (nrows - 1) (ncols - 1) c.args.i (omega (arith, c.requires, places_long (nrows - 1) (ncols - 1))) in
    omega (arith, some, c.ncols.ensures.value)

pub overflow_cast-result : goal.overflow_cast-result
overflow_cast-result c =
    let nrows = c.args.self.now.cells.now.nrows in
    let ncols = c.args.self.now.cells.now.ncols in
    let few = fewer ncols nrows (nrows - 1) (ncols - 1) (omega arith) (omega arith) in
    omega (arith, few, c.requires, places_long (nrows - 1) (ncols - 1), c.ncols.ensures.shape.small, div-le_self c.args.i (c.ncols.result - 1))

pub nonzero_rem-result : goal.nonzero_rem-result
nonzero_rem-result c = nonzero_div-result c

pub overflow_cast-result-2 : goal.overflow_cast-result-2
overflow_cast-result-2 c =
    let nrows = c.args.self.now.cells.now.nrows in
    let ncols = c.args.self.now.cells.now.ncols in
    let few = fewer ncols nrows (nrows - 1) (ncols - 1) (omega arith) (omega arith) in
    omega (arith, few, c.requires, places_long (nrows - 1) (ncols - 1), c.ncols.ensures.shape.small, mod-le c.args.i (c.ncols.result - 1))

pub returns : goal.returns
returns c =
    let nrows = c.args.self.now.cells.now.nrows in
    let ncols = c.args.self.now.cells.now.ncols in
    let place : IsPlaceOf c.args.self.now.cells.now c.args.i (c.args.i / (ncols - 1), c.args.i % (ncols - 1)) = place_of (nrows - 1) (ncols - 1) c.args.i (omega (arith, c.requires, places_long (nrows - 1) (ncols - 1))) in
    subst (λ (n : ℕ). IsPlaceOf c.args.self.now.cells.now c.args.i (c.args.i / (n - 1), c.args.i % (n - 1))) (sym c.ncols.ensures.value) place
