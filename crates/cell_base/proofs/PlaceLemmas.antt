use Rattle.std.proofs.Common.{◌≡◌, ℕ, zero, suc, ◌<◌, inl, inr, List, [], ◌∷◌, Some, length, take, drop, get_or, refl, ap, sym, ◌∙◌, arith}
use Rattle.std.specs.Prelude.{All, slice_get, unwrap_or}
use Rattle.std.proofs.lemmas.Bool.{cases_lt}
use Rattle.std.proofs.lemmas.List.{get_or_default, get_or_past, same_lists}
use Rattle.std.proofs.lemmas.List.Elements.{All-take, All-drop}
use Rattle.std.proofs.lemmas.Option.{same_Some, slice_get-get_or, slice_get_within, unwrap_or-slice_get, get_or_from_slice_get}
use Rattle.cell_base.specs.Raster.{Place, Raster, AreAligned, IsInside, IsRaster, rows_of, value_at}

no_value : {T : Type 0} (place : ℕ) (v : T) → slice_get {X = T} [] place ≡ Some v → ⊥
no_value place v is = cc

-- a place that has a value is inside
pub inside_from_value : {T : Type 0} (grid : Raster T) (p : Place) (v : T) → IsRaster grid → value_at grid p ≡ Some v → IsInside grid p
inside_from_value grid p v shape is =
    let at : slice_get (get_or grid.rows p.0 []) p.1 ≡ Some v = ap (λ row. slice_get row p.1) (sym (unwrap_or-slice_get grid.rows p.0 [])) ∙ is in
    elim (cases_lt p.0 (length grid.rows)) [
      | inl within ↦
          let in_row = slice_get_within (get_or grid.rows p.0 []) p.1 v at in
          (omega (arith, shape.height), omega (arith, in_row, shape.width p.0 [] within))
      | inr past ↦ absurd (no_value p.1 v (ap (λ row. slice_get row p.1) (sym (get_or_past grid.rows p.0 [] past)) ∙ at))
    ]

-- whatever holds of all cells of a list holds of the values of the grid that they make
pub rows_hold : {T : Type 0} (P : T → Type 0) (ncols nrows : ℕ) (cells : List T) (row col : ℕ) (v : T) → All P cells → slice_get (unwrap_or (slice_get (rows_of ncols nrows cells) row) []) col ≡ Some v → P v
rows_hold P ncols zero cells row col v all is = absurd (no_value col v is)
rows_hold P ncols (suc nrows) cells zero col v all is =
    let within = slice_get_within (take ncols cells) col v is in
    let value : get_or (take ncols cells) col v ≡ v = get_or_from_slice_get (take ncols cells) col v v is in
    rw value at (All-take P ncols cells all col v within)
rows_hold P ncols (suc nrows) cells (suc row) col v all is = rows_hold P ncols nrows (drop ncols cells) row col v (All-drop P ncols cells all) is

same_elements : {A : Type 0} (xs ys : List A) → length xs ≡ length ys → ((j : ℕ) → slice_get xs j ≡ slice_get ys j) → xs ≡ ys
same_elements xs ys long same = same_lists xs ys long (λ j d within. same_Some _ _ (sym (slice_get-get_or xs j d within) ∙ same j ∙ slice_get-get_or ys j d (omega (arith, within, long))))

row_at : {T : Type 0} (grid : Raster T) (k j : ℕ) (d : List T) → k < length grid.rows → slice_get (get_or grid.rows k d) j ≡ value_at grid (k, j)
row_at grid k j d within =
    ap (λ row. slice_get row j) (get_or_default grid.rows k d [] within ∙ sym (unwrap_or-slice_get grid.rows k []))

-- grids of one size with the same value at each place are the same
pub same_raster : {T : Type 0} (a b : Raster T) → AreAligned a b → ((p : Place) → value_at b p ≡ value_at a p) → b ≡ a
same_raster {T} a b aligned same =
    let height : length b.rows ≡ length a.rows = omega (arith, aligned.first.height, aligned.second.height, aligned.nrows) in
    let rows : b.rows ≡ a.rows = same_lists b.rows a.rows height (λ k d within.
    let in_a : k < length a.rows = omega (arith, within, height) in
    same_elements (get_or b.rows k d) (get_or a.rows k d) (aligned.second.width k d within ∙ aligned.ncols ∙ sym (aligned.first.width k d in_a)) (λ j. row_at b k j d within ∙ same (k, j) ∙ sym (row_at a k j d in_a))) in
    let make : ℕ → ℕ → List (List T) → Raster T = λ ncols nrows rows. record { ncols = ncols; nrows = nrows; rows = rows } in
    ap (λ (n : ℕ). make n b.nrows b.rows) aligned.ncols ∙ ap (λ (n : ℕ). make a.ncols n b.rows) aligned.nrows ∙ ap (make a.ncols a.nrows) rows

-- something stands at each index below the length
pub element_at : {A : Type 0} (xs : List A) (k : ℕ) → k < length xs → (x : A) × (slice_get xs k ≡ Some x)
element_at [] k within = absurd (omega arith)
element_at (x ∷ xs) zero within = (x, refl)
element_at (x ∷ xs) (suc k) within = element_at xs k (omega (arith, within))

-- a place inside has a value
pub value_inside : {T : Type 0} (grid : Raster T) (p : Place) → IsRaster grid → p.0 < grid.nrows → p.1 < grid.ncols → (v : T) × (value_at grid p ≡ Some v)
value_inside grid p shape in_row in_col =
    let within : p.0 < length grid.rows = omega (arith, in_row, shape.height) in
    let width : length (get_or grid.rows p.0 []) ≡ grid.ncols = shape.width p.0 [] within in
    let row : value_at grid p ≡ slice_get (get_or grid.rows p.0 []) p.1 = ap (λ row. slice_get row p.1) (unwrap_or-slice_get grid.rows p.0 []) in
    let value = element_at (get_or grid.rows p.0 []) p.1 (omega (arith, width, in_col)) in
    (value.0, row ∙ value.1)
