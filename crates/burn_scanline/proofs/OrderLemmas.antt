-- Features burned in their order, and the outside.
use Rattle.std.proofs.Common.{◌≡◌, ℤ, ◌<◌, inl, inr, Bool, true, false, not, List, [], ◌∷◌, ◌++◌, Some, refl, ap, sym, ◌∙◌, arith}
use Rattle.std.specs.Prelude.{if◌then◌else◌}
use Rattle.std.specs.List.{list_any}
use Rattle.std.proofs.lemmas.Bool.{cases_Bool}
use Rattle.cell_base.specs.Raster.{Place, Raster, value_at}
use Rattle.cell_base.proofs.PlaceLemmas.{inside_from_value, value_inside}
use Rattle.geo_transform.specs.declared.frame.Frame.{Frame}
use Rattle.burn_scanline.specs.Burned.{BurnedFeature, Burns, Cover, HoldsInside, HoldsOutside, HoldsValues, burned, inside_value, outside_value}
use Rattle.burn_scanline.specs.declared.burning.How.{How}

-- one feature more at the end
inside_more : (least greatest : ℤ) (how : How) (covers : Cover) (frame : Frame) (value : ℤ) (features : List BurnedFeature) (f : BurnedFeature) (p : Place) → inside_value least greatest how covers frame value (features ++ f ∷ []) p ≡ (if covers frame f.geometry p then burned least greatest how (inside_value least greatest how covers frame value features p) f.value else inside_value least greatest how covers frame value features p)
inside_more least greatest how covers frame value [] f p = refl
inside_more least greatest how covers frame value (e ∷ features) f p = inside_more least greatest how covers frame (if covers frame e.geometry p then burned least greatest how value e.value else value) features f p

-- what a step leaves, by what stood before
pub holds_step : {T : Type 0} (units_of : T → ℤ) (least greatest : ℤ) (how : How) (frame : Frame) (before after : Place → ℤ) (value : T) (covers set : Place → Bool) (old new : Raster T) → HoldsValues units_of frame before old → ((p : Place) → p.0 < frame.nrows → p.1 < frame.ncols → set p ≡ covers p) → ((p : Place) → after p ≡ (if covers p then burned least greatest how (before p) (units_of value) else before p)) → Burns units_of least greatest how value set old new → HoldsValues units_of frame after new
holds_step {T} units_of least greatest how frame before after value covers set old new holds same is burns = record {
  ncols = burns.ncols ∙ holds.ncols;
  nrows = burns.nrows ∙ holds.nrows;
  shape = burns.shape;
  values = λ p v at.
      let inside = inside_from_value new p v burns.shape at in
      let in_rows : p.0 < frame.nrows = omega (arith, inside.0, burns.nrows, holds.nrows) in
      let in_cols : p.1 < frame.ncols = omega (arith, inside.1, burns.ncols, holds.ncols) in
      let was = value_inside old p holds.shape (omega (arith, inside.0, burns.nrows)) (omega (arith, inside.1, burns.ncols)) in
      let held : units_of was.0 ≡ before p = holds.values p was.0 was.1 in
      elim (cases_Bool (covers p)) [
        | inl on ↦
            burns.on p was.0 v (same p in_rows in_cols ∙ on) was.1 at
            ∙ ap (λ (z : ℤ). burned least greatest how z (units_of value)) held
            ∙ sym (is p ∙ ap (λ (b : Bool). if b then burned least greatest how (before p) (units_of value) else before p) on)
        | inr off ↦
            let stays : value_at old p ≡ Some v = sym (burns.off p (same p in_rows in_cols ∙ off)) ∙ at in
            holds.values p v stays ∙ sym (is p ∙ ap (λ (b : Bool). if b then burned least greatest how (before p) (units_of value) else before p) off)
      ];
}

pub in_order : {T : Type 0} (units_of : T → ℤ) (least greatest : ℤ) (covers : Cover) (frame : Frame) (how : How) (initial : ℤ) (features : List BurnedFeature) (f : BurnedFeature) (value : T) (set : Place → Bool) (old new : Raster T) → HoldsInside units_of least greatest how covers frame initial features old → units_of value ≡ f.value → ((p : Place) → p.0 < frame.nrows → p.1 < frame.ncols → set p ≡ covers frame f.geometry p) → Burns units_of least greatest how value set old new → HoldsInside units_of least greatest how covers frame initial (features ++ f ∷ []) new
in_order units_of least greatest covers frame how initial features f value set old new holds is_value same burns =
    let before : Place → ℤ = inside_value least greatest how covers frame initial features in
    holds_step units_of least greatest how frame before (inside_value least greatest how covers frame initial (features ++ f ∷ [])) value (covers frame f.geometry) set old new holds same (λ p. inside_more least greatest how covers frame initial features f p ∙ ap (λ (z : ℤ). if covers frame f.geometry p then burned least greatest how (before p) z else before p) (sym is_value)) burns

swapped : (b : Bool) (x y : ℤ) → (if b then x else y) ≡ (if not b then y else x)
swapped true x y = refl
swapped false x y = refl

pub outside_holds : {T : Type 0} (units_of : T → ℤ) (least greatest : ℤ) (covers : Cover) (frame : Frame) (how : How) (initial : ℤ) (features : List BurnedFeature) (value : T) (set : Place → Bool) (old new : Raster T) → HoldsInside units_of least greatest how covers frame initial [] old → ((p : Place) → p.0 < frame.nrows → p.1 < frame.ncols → set p ≡ not (list_any (λ f. covers frame f.geometry p) features)) → Burns units_of least greatest how value set old new → HoldsOutside units_of least greatest how covers frame initial (units_of value) features new
outside_holds units_of least greatest covers frame how initial features value set old new holds same burns =
    holds_step units_of least greatest how frame (inside_value least greatest how covers frame initial []) (outside_value least greatest how covers frame initial (Some (units_of value)) features) value (λ p. not (list_any (λ f. covers frame f.geometry p) features)) set old new holds same (λ p. swapped (list_any (λ f. covers frame f.geometry p) features) initial (burned least greatest how initial (units_of value))) burns
