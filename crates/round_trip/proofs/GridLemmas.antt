-- A grid is the one that its values make; and a cell that isn't valid holds the nodata value.
use Rattle.std.proofs.Common.{◌≡◌, ◌≢◌, ℕ, ℤ, zero, suc, ◌+◌, ◌<◌, ◌↔◌, ◌⊎◌, inl, inr, Bool, true, false, List, [], Option, Some, None, length, get_or, refl, sym, ap, ◌∙◌, arith}
use Rattle.std.specs.Prelude.{if◌then◌else◌, map, slice_get, unwrap_or}
use Rattle.std.specs.List.{range_with_len}
use Rattle.std.specs.Ordering.{int_eq}
use Rattle.std.proofs.lemmas.Int.{ints}
use Rattle.std.proofs.lemmas.List.FromFn.{fill_by_all}
use Rattle.std.proofs.lemmas.Option.{none-some, same_Some, slice_get-get_or, unwrap_or-slice_get}
use Rattle.cell_base.specs.Raster.{Place, Raster, IsInside, IsRaster, value_at}
use Rattle.cell_base.specs.Valid.{IsMarked, IsValid}
use Rattle.asc_grid.specs.declared.grid.Asc.{Asc}
use Rattle.tool_outcome.specs.Rasterize.{raster_by}
use Rattle.tool_outcome.specs.Sieve.{IsMaskOf}
use Rattle.round_trip.specs.Layer.{normal_value, normalised}

-- lists made of numbers agree where the functions do
map_range : {A : Type 0} (g h : ℕ → A) (a n : ℕ) → ((k : ℕ) → k < a + n → g k ≡ h k) → map g (range_with_len a n) ≡ map h (range_with_len a n)
map_range g h a zero same = refl
map_range g h a (suc n) same =
    let first : g a ≡ h a = same a (omega arith) in
    let rest : map g (range_with_len (a + 1) n) ≡ map h (range_with_len (a + 1) n) = map_range g h (a + 1) n (λ k below. same k (omega (arith, below))) in
    rw (first, rest) refl

-- grids of one size agree where their values do
pub raster_same : {T : Type 0} (ncols nrows : ℕ) (g h : Place → T) → ((r c : ℕ) → r < nrows → c < ncols → g (r, c) ≡ h (r, c))
    → raster_by ncols nrows g ≡ raster_by ncols nrows h
raster_same {T} ncols nrows g h same =
    let row : (Place → T) → ℕ → List T = λ at r. map (λ c. at (r, c)) (range_with_len 0 ncols) in
    let rows : map (row g) (range_with_len 0 nrows) ≡ map (row h) (range_with_len 0 nrows) =
    map_range (row g) (row h) 0 nrows (λ r in_row. map_range (λ c. g (r, c)) (λ c. h (r, c)) 0 ncols
    (λ c in_col. same r c (omega (arith, in_row)) (omega (arith, in_col)))) in
    ap (λ (rs : List (List T)). record { ncols = ncols; nrows = nrows; rows = rs }) rows

-- a grid is the one that its values make
pub raster_is : {T : Type 0} (g : Raster T) (d : T) (at : Place → T) → IsRaster g
    → ((p : Place) (x : T) → IsInside g p → value_at g p ≡ Some x → at p ≡ x) → raster_by g.ncols g.nrows at ≡ g
raster_is {T} g d at whole values =
    let row : ℕ → List T = λ r. map (λ c. at (r, c)) (range_with_len 0 g.ncols) in
    let one : (r : ℕ) → r < g.nrows → get_or g.rows r [] ≡ row r = λ r in_row.
    let cells : List T = get_or g.rows r [] in
    let long : length cells ≡ g.ncols = whole.width r [] (omega (arith, in_row, whole.height)) in
    fill_by_all (λ c. at (r, c)) cells g.ncols d long (λ c in_col.
    let here : value_at g (r, c) ≡ Some (get_or cells c d) =
    ap (λ (cs : List T). slice_get cs c) (unwrap_or-slice_get g.rows r []) ∙ slice_get-get_or cells c d (omega (arith, in_col, long)) in
    sym (values (r, c) (get_or cells c d) (in_row, in_col) here)) in
    let all : g.rows ≡ map row (range_with_len 0 g.nrows) = fill_by_all row g.rows g.nrows [] whole.height one in
    ap (λ (rows : List (List T)). record { ncols = g.ncols; nrows = g.nrows; rows = rows }) (sym all)

same_or_not : (m n : ℤ) → (m ≡ n) ⊎ (m ≢ n)
same_or_not m n = decide (int_eq m n) refl
  where
    decide : (b : Bool) → int_eq m n ≡ b → (m ≡ n) ⊎ (m ≢ n)
    decide true is = inl (grind (arith, ints))
    decide false is = inr (λ same. grind (arith, ints))

-- a cell that isn't valid has the nodata value
not_valid : (cells : Raster ℤ) (nodata : Option ℤ) (p : Place) (x : ℤ) → value_at cells p ≡ Some x → ¬ IsValid cells nodata p → nodata ≡ Some x
not_valid cells None p x is none = absurd (none (x, is, none-some x))
not_valid cells (Some n) p x is none = elim (same_or_not n x) [
  | inl same ↦ ap Some same
  | inr other ↦ absurd (none (x, is, λ same. other (same_Some n x same)))
]

-- with the nodata value in the cells that hold it already, the normalised grid is the grid
pub normalised_same : (asc : Asc ℤ) (valid : Raster Bool) (other : ℤ) → IsMaskOf asc valid → ((n : ℤ) → asc.nodata ≡ Some n → other ≡ n)
    → normalised asc.cells valid other ≡ asc.cells
normalised_same asc valid other mask fills = raster_is asc.cells other (normal_value asc.cells valid other) mask.0.first each
  where
    each : (p : Place) (x : ℤ) → IsInside asc.cells p → value_at asc.cells p ≡ Some x → normal_value asc.cells valid other p ≡ x
    each p x inside value = decide (value_at valid p) refl
      where
        by_mask : Option Bool → ℤ
        by_mask marks = if unwrap_or marks false then unwrap_or (value_at asc.cells p) other else other

        outside : ¬ IsMarked valid p → other ≡ x
        outside none = fills x (not_valid asc.cells asc.nodata p x value (λ is_valid. none ((mask.1 p).1 is_valid)))

        decide : (o : Option Bool) → value_at valid p ≡ o → by_mask (value_at valid p) ≡ x
        decide (Some true) marked = ap by_mask marked ∙ ap (λ (o : Option ℤ). unwrap_or o other) value
        decide (Some false) unmarked = ap by_mask unmarked ∙ outside (λ marked. absurd (cc (marked, unmarked)))
        decide None none = ap by_mask none ∙ outside (λ marked. absurd (cc (marked, none)))
