use Rattle.std.proofs.Common.{◌≡◌, ℤ, ap, arith}
use Rattle.std.proofs.lemmas.Int.{ints}
use Rattle.geo_transform.specs.Corner.{centre2_of}
use Rattle.contour_chain.proofs.PointLemmas.{centre_small}
use Rattle.contour_chain.proofs.point.spots.Goals as goal

pub returns-clause-across : goal.returns-clause-across
returns-clause-across c =
    let frame = c.args.frame.now in
    let small = centre_small frame c.args.row c.args.col c.requires.elevation.is (omega (arith, c.requires.row, c.requires.elevation.nrows)) (omega (arith, c.requires.col, c.requires.elevation.ncols)) in
    let x : c.centre2-x.result.0 ≡ (centre2_of frame c.args.row c.args.col).0 = ap (λ (p : ℤ × ℤ). p.0) c.centre2-x.ensures in
    record { at = omega (arith, ints, x, small.0); micro = record { low = omega (arith, ints, c.units-value.ensures); high = omega (arith, ints, c.units-value.ensures) } }

pub returns-clause-up : goal.returns-clause-up
returns-clause-up c =
    let frame = c.args.frame.now in
    let small = centre_small frame c.args.row c.args.col c.requires.elevation.is (omega (arith, c.requires.row, c.requires.elevation.nrows)) (omega (arith, c.requires.col, c.requires.elevation.ncols)) in
    let y : c.centre2-x.result.1 ≡ (centre2_of frame c.args.row c.args.col).1 = ap (λ (p : ℤ × ℤ). p.1) c.centre2-x.ensures in
    record { at = omega (arith, ints, y, small.1); micro = record { low = omega (arith, ints, c.units-value.ensures); high = omega (arith, ints, c.units-value.ensures) } }
