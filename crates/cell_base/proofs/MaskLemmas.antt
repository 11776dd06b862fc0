use Rattle.std.proofs.Common.{◌≡◌, ◌≢◌, ℕ, ◌+◌, ◌*◌, ◌<◌, ◌↔◌, inl, inr, Bool, true, false, Option, Some, replicate, refl, ap, sym, ◌∙◌, subst, arith}
use Rattle.std.specs.Prelude.{IsTrue}
use Rattle.std.proofs.lemmas.Bool.{false≢true}
use Rattle.std.proofs.lemmas.List.Elements.{All-replicate}
use Rattle.cell_base.specs.Raster.{Place, Raster, IsInside, IsRaster, SetsPlace, raster_of, value_at}
use Rattle.cell_base.specs.Order.{IsBefore}
use Rattle.cell_base.specs.Valid.{IsMarked, IsValid}
use Rattle.cell_base.proofs.PlaceLemmas.{inside_from_value, rows_hold}
use Rattle.cell_base.proofs.OrderLemmas.{at_row_end, before_next, none_before, same_or_other}

-- the mask is right before this place
pub record IsMasking {T : Type 0} (cells : Raster T) (nodata : Option T) (mask : Raster Bool) (place : Place) : Type 0 where
  pub cols : mask.ncols ≡ cells.ncols
  pub rows : mask.nrows ≡ cells.nrows
  pub inside : (p : Place) → IsMarked mask p → IsInside cells p
  pub done : (p : Place) → IsInside cells p → IsBefore p place → IsMarked mask p ↔ IsValid cells nodata p

pub mask_start : {T : Type 0} (cells : Raster T) (nodata : Option T) → IsMasking cells nodata (raster_of cells.ncols cells.nrows (replicate (cells.ncols * cells.nrows) false)) (0, 0)
mask_start cells nodata = record {
  cols = refl;
  rows = refl;
  inside = λ p marked. absurd (false≢true (sym (rows_hold (λ b. b ≡ false) cells.ncols cells.nrows (replicate (cells.ncols * cells.nrows) false) p.0 p.1 true (All-replicate (λ b. b ≡ false) (cells.ncols * cells.nrows) false refl) marked)));
  done = λ p inside before. absurd (none_before p before);
}

here_valid : {T : Type 0} (cells : Raster T) (nodata : Option T) (after : Raster Bool) (place : Place) (v : T) (b : Bool) → value_at cells place ≡ Some v → IsTrue b ↔ (nodata ≢ Some v) → value_at after place ≡ Some b → IsMarked after place ↔ IsValid cells nodata place
here_valid cells nodata after place v b value decides set = (
  λ marked.
      let is : Some b ≡ Some true = sym set ∙ marked in
      let holds : b ≡ true = cc in
      (v, value, decides.0 holds),
  λ valid.
      let both : Some v ≡ Some valid.0 = sym value ∙ valid.1 in
      let same : v ≡ valid.0 = cc in
      let holds : b ≡ true = decides.1 (λ is. valid.2 (is ∙ ap (λ w. Some w) same)) in
      set ∙ ap (λ c. Some c) holds,
)

pub mask_on : {T : Type 0} (cells : Raster T) (nodata : Option T) (mask after : Raster Bool) (row col : ℕ) (v : T) (b : Bool) → IsMasking cells nodata mask (row, col) → row < cells.nrows → col < cells.ncols → value_at cells (row, col) ≡ Some v → IsTrue b ↔ (nodata ≢ Some v) → SetsPlace mask after (row, col) b → IsMasking cells nodata after (row, col + 1)
mask_on cells nodata mask after row col v b masking in_row in_col value decides sets = record {
  cols = sets.ncols ∙ masking.cols;
  rows = sets.nrows ∙ masking.rows;
  inside = λ p marked. elim (same_or_other p (row, col)) [
    | inl same ↦ (omega (arith, ap (λ (q : Place). q.0) same), omega (arith, ap (λ (q : Place). q.1) same))
    | inr other ↦ masking.inside p (sym (sets.others p other) ∙ marked)
  ];
  done = λ p inside before. elim (same_or_other p (row, col)) [
    | inl same ↦ subst (λ (q : Place). IsMarked after q ↔ IsValid cells nodata q) (sym same) (here_valid cells nodata after (row, col) v b value decides sets.set)
    | inr other ↦ elim (before_next p row col before) [
      | inl old ↦
          let had = masking.done p inside old in
          (λ marked. had.0 (sym (sets.others p other) ∙ marked), λ valid. sets.others p other ∙ had.1 valid)
      | inr same ↦ absurd (other same)
    ]
  ];
}

pub mask_row : {T : Type 0} (cells : Raster T) (nodata : Option T) (mask : Raster Bool) (row : ℕ) → IsMasking cells nodata mask (row, cells.ncols) → IsMasking cells nodata mask (row + 1, 0)
mask_row cells nodata mask row masking = record {
  cols = masking.cols;
  rows = masking.rows;
  inside = masking.inside;
  done = λ p inside before. masking.done p inside (at_row_end p row cells.ncols inside.1 before);
}

pub mask_end : {T : Type 0} (cells : Raster T) (nodata : Option T) (mask : Raster Bool) → IsRaster cells → IsMasking cells nodata mask (cells.nrows, 0) → (p : Place) → IsMarked mask p ↔ IsValid cells nodata p
mask_end cells nodata mask shape masking p = (
  λ marked.
      let inside = masking.inside p marked in
      (masking.done p inside (inl inside.0)).0 marked,
  λ valid.
      let inside = inside_from_value cells p valid.0 shape valid.1 in
      (masking.done p inside (inl inside.0)).1 valid,
)
