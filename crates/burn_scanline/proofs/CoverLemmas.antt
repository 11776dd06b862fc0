-- A mask of covered cells.
use Rattle.std.proofs.Common.{◌≡◌, ℕ, ◌*◌, ◌<◌, ◌≤◌, inl, inr, Bool, false, Some, replicate, refl, ap, sym, ◌∙◌, arith}
use Rattle.std.proofs.lemmas.Bool.{cases_Bool}
use Rattle.std.proofs.lemmas.List.{length-replicate}
use Rattle.std.proofs.lemmas.List.Elements.{All-replicate}
use Rattle.cell_base.specs.Raster.{Place, Raster, IsRaster, most_cells, raster_of, value_at}
use Rattle.cell_base.proofs.PlaceLemmas.{rows_hold, value_inside}
use Rattle.cell_base.proofs.RasterLemmas.{raster_from_cells}
use Rattle.burn_scanline.specs.Change.{Marks}

pub filled_shape : {T : Type 0} (ncols nrows : ℕ) (v : T) → 0 < ncols → 0 < nrows → ncols * nrows ≤ most_cells → IsRaster (raster_of ncols nrows (replicate (ncols * nrows) v))
filled_shape ncols nrows v some_cols some_rows small = raster_from_cells ncols nrows (replicate (ncols * nrows) v) (record { some_cols = some_cols; some_rows = some_rows; small = small; count = length-replicate (ncols * nrows) v })

-- a set marked in a mask that was false
pub marked_set : (ncols nrows : ℕ) (set : Place → Bool) (old new : Raster Bool) → old ≡ raster_of ncols nrows (replicate (ncols * nrows) false) → 0 < ncols → 0 < nrows → ncols * nrows ≤ most_cells → Marks set old new → (p : Place) → p.0 < nrows → p.1 < ncols → value_at new p ≡ Some (set p)
marked_set ncols nrows set old new is some_cols some_rows small marks p in_rows in_cols =
    let made : Raster Bool = raster_of ncols nrows (replicate (ncols * nrows) false) in
    let was = value_inside made p (filled_shape ncols nrows false some_cols some_rows small) in_rows in_cols in
    let not_yet : was.0 ≡ false = rows_hold (λ b. b ≡ false) ncols nrows (replicate (ncols * nrows) false) p.0 p.1 was.0 (All-replicate (λ b. b ≡ false) (ncols * nrows) false refl) was.1 in
    let before : value_at old p ≡ Some was.0 = ap (λ (m : Raster Bool). value_at m p) is ∙ was.1 in
    let rows : new.nrows ≡ nrows = marks.nrows ∙ ap (λ (m : Raster Bool). m.nrows) is in
    let cols : new.ncols ≡ ncols = marks.ncols ∙ ap (λ (m : Raster Bool). m.ncols) is in
    let now = value_inside new p marks.shape (omega (arith, in_rows, rows)) (omega (arith, in_cols, cols)) in
    elim (cases_Bool (set p)) [
      | inl on ↦ now.1 ∙ ap (λ (b : Bool). Some b) (marks.on p was.0 now.0 on before now.1 ∙ sym on)
      | inr off ↦ marks.off p off ∙ before ∙ ap (λ (b : Bool). Some b) (not_yet ∙ sym off)
    ]
