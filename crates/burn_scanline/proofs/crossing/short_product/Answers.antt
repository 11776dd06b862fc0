use Rattle.std.proofs.Common.{◌≡◌, ◌≤◌, ◌^◌, ◌*ℤ◌, unsigned_abs, to_z, of_z, w64, ap, ◌∙◌, sym, subst, ℤ, arith}
use Rattle.burn_scanline.proofs.ColumnLemmas.{product_passed, same_narrow, short_bound}
use Rattle.burn_scanline.proofs.crossing.short_product.Goals as goal

whole : (a b : ℤ) → unsigned_abs a ≤ 2 ^ 30 → unsigned_abs b ≤ 2 ^ 30 → to_z w64 (of_z w64 (to_z w64 (of_z w64 a) *ℤ to_z w64 (of_z w64 b))) ≡ a *ℤ b
whole a b small_a small_b =
    let bound = short_bound a b small_a small_b in
    let product = product_passed a b (omega (arith, small_a)) (omega (arith, small_b)) in
    ap (λ (z : ℤ). to_z w64 (of_z w64 z)) product ∙ same_narrow (a *ℤ b) (omega (arith, bound))

pub returns-clause-value : goal.returns-clause-value
returns-clause-value c = whole c.args.a c.args.b c.requires.a c.requires.b

pub returns-clause-bound : goal.returns-clause-bound
returns-clause-bound c = subst (λ (z : ℤ). unsigned_abs z ≤ 2 ^ 60) (sym (whole c.args.a c.args.b c.requires.a c.requires.b)) (short_bound c.args.a c.args.b c.requires.a c.requires.b)
