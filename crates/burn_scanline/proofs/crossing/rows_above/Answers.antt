use Rattle.std.proofs.Common.{◌≡◌, ℤ, arith, ap}
use Rattle.std.proofs.lemmas.Int.{ints}
use Rattle.geo_transform.specs.Corner.{centre2_of}
use Rattle.burn_scanline.proofs.ColumnLemmas.{rows_are}
use Rattle.burn_scanline.proofs.crossing.rows_above.Goals as goal

pub returns : goal.returns
returns c =
    let top : c.centre-top.result.1 ≡ (centre2_of c.args.frame.now 0 0).1 = ap (λ (z : ℤ × ℤ). z.1) c.centre-top.ensures.value in
    rows_are c.args.frame.now c.args.y _ _ c.least_steps.result c.requires (omega (arith, ints, top, c.centre-top.ensures.y, c.units.ensures.value, c.units.ensures.range.low, c.units.ensures.range.high)) (omega (arith, ints, c.units-2.ensures.value, c.units-2.ensures.range.low, c.units-2.ensures.range.high)) c.least_steps.ensures
