use Rattle.std.proofs.Common.{◌≤◌, ◌*◌, ◌^◌, ℤ, ◌-ℤ◌, ◌*ℤ◌, pos, unsigned_abs, refl, ap, ◌∙◌, arith}
use Rattle.std.proofs.lemmas.Int.{ints}
use Rattle.burn_scanline.proofs.ColumnLemmas.{product_some, rise_some, same_narrow, slanted_is, times_same}
use Rattle.burn_scanline.proofs.crossing.slanted_column.Goals as goal

pub column-requires-clause-rises : goal.column-requires-clause-rises
column-requires-clause-rises c =
    let some = product_some (pos 2 *ℤ c.args.frame.now.cell) (c.args.high.y -ℤ c.args.low.y) (omega (arith, ints, c.requires.frame.some_size)) (rise_some c.args.frame.now c.args.low c.args.high c.args.row c.requires.beside) in
    rw (same_narrow c.twice.result c.twice.ensures.bound, c.twice.ensures.value, same_narrow c.past-2.result c.past-2.ensures.bound, c.past-2.ensures.value) some

pub returns : goal.returns
returns c =
    let frame = c.args.frame.now in
    let x : unsigned_abs c.centre-left.result.0 ≤ 4 * 10 ^ 18 = omega (arith, c.centre-left.ensures.x) in
    let y : unsigned_abs c.centre-left.result.1 ≤ 4 * 10 ^ 18 = omega (arith, c.centre-left.ensures.y) in
    let left = same_narrow c.centre-left.result.0 x ∙ ap (λ (z : ℤ × ℤ). z.0) c.centre-left.ensures.value in
    let height = same_narrow c.centre-left.result.1 y ∙ ap (λ (z : ℤ × ℤ). z.1) c.centre-left.ensures.value in
    let rise = same_narrow c.past-2.result c.past-2.ensures.bound ∙ c.past-2.ensures.value in
    let along = same_narrow c.past.result c.past.ensures.bound ∙ c.past.ensures.value in
    let above = same_narrow c.past_doubled.result c.past_doubled.ensures.bound ∙ c.past_doubled.ensures.value ∙ ap (λ (z : ℤ). z -ℤ pos 2 *ℤ c.args.low.y) height in
    let ahead = same_narrow c.past_doubled-2.result c.past_doubled-2.ensures.bound ∙ c.past_doubled-2.ensures.value ∙ ap (λ (z : ℤ). z -ℤ pos 2 *ℤ c.args.low.x) left in
    let step = same_narrow c.twice.result c.twice.ensures.bound ∙ c.twice.ensures.value in
    slanted_is frame c.args.low c.args.high c.args.row c.column.result _ _ _ c.requires.frame c.requires.beside
    (times_same _ _ _ _ _ along above refl) (times_same _ _ _ _ _ ahead rise refl) (times_same _ _ _ _ _ step rise refl) c.column.ensures
