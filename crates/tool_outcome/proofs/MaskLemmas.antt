-- A grid has one mask of valid cells.
use Rattle.std.proofs.Common.{◌≡◌, ◌∙◌, ◌↔◌, Bool, true, false, Option, Some, None, refl, sym, ap, arith}
use Rattle.std.proofs.lemmas.Option.{none-some, same_Some}
use Rattle.cell_base.specs.Raster.{AreAligned, Place, Raster, value_at}
use Rattle.cell_base.proofs.PlaceLemmas.{inside_from_value, same_raster, value_inside}
use Rattle.asc_grid.specs.declared.grid.Asc.{Asc}
use Rattle.tool_outcome.specs.Sieve.{IsMaskOf}

-- a truth value that is one exactly where the other is
same_truth : (a b : Bool) → (a ≡ true) ↔ (b ≡ true) → a ≡ b
same_truth true b both = sym (both.0 refl)
same_truth false true both = both.1 refl
same_truth false false both = refl

-- two masks of one grid are the same
masks_agree : {T : Type 0} (asc : Asc T) (a b : Raster Bool) → IsMaskOf asc a → IsMaskOf asc b → (p : Place) → value_at b p ≡ value_at a p
masks_agree {T} asc a b one two p = by_values (value_at a p) (value_at b p) refl refl
  where
    by_values : (x y : Option Bool) → value_at a p ≡ x → value_at b p ≡ y → y ≡ x
    by_values None None is_a is_b = refl
    by_values (Some v) (Some w) is_a is_b =
        let forth : w ≡ true → v ≡ true = λ marked. same_Some v true (sym is_a ∙ (one.1 p).1 ((two.1 p).0 (is_b ∙ ap Some marked))) in
        let back : v ≡ true → w ≡ true = λ marked. same_Some w true (sym is_b ∙ (two.1 p).1 ((one.1 p).0 (is_a ∙ ap Some marked))) in
        ap Some (same_truth w v (forth, back))
    by_values (Some v) None is_a is_b =
        let inside = inside_from_value a p v one.0.second is_a in
        let there = value_inside b p two.0.second (omega (arith, inside.0, one.0.nrows, two.0.nrows)) (omega (arith, inside.1, one.0.ncols, two.0.ncols)) in
        absurd (none-some there.0 (sym is_b ∙ there.1))
    by_values None (Some w) is_a is_b =
        let inside = inside_from_value b p w two.0.second is_b in
        let there = value_inside a p one.0.second (omega (arith, inside.0, one.0.nrows, two.0.nrows)) (omega (arith, inside.1, one.0.ncols, two.0.ncols)) in
        absurd (none-some there.0 (sym is_a ∙ there.1))

pub one_mask : {T : Type 0} (asc : Asc T) (a b : Raster Bool) → IsMaskOf asc a → IsMaskOf asc b → b ≡ a
one_mask asc a b one two =
    let aligned : AreAligned a b = record { first = one.0.second; second = two.0.second; ncols = two.0.ncols ∙ sym one.0.ncols; nrows = two.0.nrows ∙ sym one.0.nrows } in
    same_raster a b aligned (masks_agree asc a b one two)
