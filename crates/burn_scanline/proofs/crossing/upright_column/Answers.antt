use Rattle.std.proofs.Common.{◌≡◌, ℤ, arith, ap}
use Rattle.std.proofs.lemmas.Int.{ints}
use Rattle.geo_transform.specs.Corner.{centre2_of}
use Rattle.burn_scanline.proofs.ColumnLemmas.{upright_is}
use Rattle.burn_scanline.proofs.crossing.upright_column.Goals as goal

pub returns : goal.returns
returns c =
    let left : c.centre-left.result.0 ≡ (centre2_of c.args.frame.now 0 0).0 = ap (λ (z : ℤ × ℤ). z.0) c.centre-left.ensures.value in
    upright_is c.args.frame.now c.args.x _ _ c.least_steps.result c.requires (omega (arith, ints, left, c.centre-left.ensures.x, c.units.ensures.value, c.units.ensures.range.low, c.units.ensures.range.high)) (omega (arith, ints, c.units-2.ensures.value, c.units-2.ensures.range.low, c.units-2.ensures.range.high)) c.least_steps.ensures
