-- The rows of a flat list of cells.
use Rattle.std.proofs.Common.{◌≡◌, ◌≢◌, ℕ, zero, suc, ◌+◌, ◌*◌, ◌<◌, ◌≤◌, ◌⊎◌, inl, inr, List, [], Some, None, length, length-set, take, drop, set, arith, refl, sym, ap, ◌∙◌}
use Rattle.std.specs.Prelude.{slice_get, slice_set, unwrap_or}
use Rattle.std.proofs.lemmas.List.{drop-drop}
use Rattle.std.proofs.lemmas.Bool.{cases_lt}
use Rattle.std.proofs.lemmas.Nat.{same_from_place, rows}
use Rattle.std.proofs.lemmas.Grind.{common_steps}
use Rattle.std.proofs.lemmas.Option.{gets, get_or_from_slice_get, slice_get_past}
use Rattle.std.proofs.Math.Nat.{mul-le-mul_right}
use Rattle.cell_base.specs.Raster.{IsRaster, SetsPlace, raster_of, rows_of, value_at}
use Rattle.cell_base.specs.Inner.Cells.{HasCellForEachPlace}

pub slice_get-rows_of : {T : Type 0} (ncols nrows : ℕ) (cells : List T) (r : ℕ) → r < nrows → slice_get (rows_of ncols nrows cells) r ≡ Some (take ncols (drop (r * ncols) cells))
slice_get-rows_of ncols zero cells r within = absurd (omega (arith, within))
slice_get-rows_of ncols (suc n) cells zero within =
    let first : 0 ≡ 0 * ncols = omega arith in
    ap (λ k. Some (take ncols (drop k cells))) first
slice_get-rows_of ncols (suc n) cells (suc r) within =
    let further : ncols + r * ncols ≡ suc r * ncols = omega arith in
    slice_get-rows_of ncols n (drop ncols cells) r (omega (arith, within)) ∙ ap (λ xs. Some (take ncols xs)) (drop-drop (r * ncols) ncols cells ∙ ap (λ k. drop k cells) further)

pub length-rows_of : {T : Type 0} (ncols nrows : ℕ) (cells : List T) → length (rows_of ncols nrows cells) ≡ nrows
length-rows_of ncols zero cells = refl
length-rows_of ncols (suc n) cells = ap suc (length-rows_of ncols n (drop ncols cells))

-- what stands at a place, by its index in the flat list
pub value_at-raster_of : {T : Type 0} (ncols nrows : ℕ) (cells : List T) (r c : ℕ) → r < nrows → c < ncols → value_at (raster_of ncols nrows cells) (r, c) ≡ slice_get cells (r * ncols + c)
value_at-raster_of ncols nrows cells r c in_row in_col =
    rw (slice_get-rows_of ncols nrows cells r in_row) (grind (arith, common_steps, gets))

slice_get-take_past : {T : Type 0} (n : ℕ) (xs : List T) (c : ℕ) → n ≤ c → slice_get (take n xs) c ≡ None
slice_get-take_past n xs c past = slice_get_past (take n xs) c (grind (arith, common_steps))

-- nothing stands outside
pub value_at-outside : {T : Type 0} (ncols nrows : ℕ) (cells : List T) (r c : ℕ) → (nrows ≤ r) ⊎ (ncols ≤ c) → value_at (raster_of ncols nrows cells) (r, c) ≡ None
value_at-outside ncols nrows cells r c outside = elim (cases_lt r nrows) [
  | inl in_row ↦ elim outside [
    | inl below ↦ absurd (omega (arith, below, in_row))
    | inr past ↦ rw (slice_get-rows_of ncols nrows cells r in_row) (slice_get-take_past ncols (drop (r * ncols) cells) c past)
  ]
  | inr below ↦ ap (λ row. slice_get (unwrap_or row []) c) (slice_get_past (rows_of ncols nrows cells) r (omega (arith, below, length-rows_of ncols nrows cells)))
]

slice_get-set_same : {T : Type 0} (xs : List T) (i : ℕ) (v : T) → i < length xs → slice_get (set xs i v) i ≡ Some v
slice_get-set_same xs i v within = grind (arith, common_steps, gets)

slice_get-set_other : {T : Type 0} (xs : List T) (i j : ℕ) (v : T) → j ≢ i → slice_get (set xs i v) j ≡ slice_get xs j
slice_get-set_other xs i j v other = grind (arith, common_steps, gets)

length-row : {T : Type 0} (ncols nrows : ℕ) (cells : List T) (r : ℕ) → HasCellForEachPlace ncols nrows cells → r < nrows → length (take ncols (drop (r * ncols) cells)) ≡ ncols
length-row ncols nrows cells r full within =
    let more : suc r * ncols ≤ nrows * ncols = mul-le-mul_right ncols within in
    let enough : r * ncols + ncols ≤ length cells = omega (arith, full.count, more) in
    grind (arith, common_steps, enough)

-- a vector with a value for each cell makes a grid
pub raster_from_cells : {T : Type 0} (ncols nrows : ℕ) (cells : List T) → HasCellForEachPlace ncols nrows cells → IsRaster (raster_of ncols nrows cells)
raster_from_cells ncols nrows cells full = record {
  some_cols = full.some_cols;
  some_rows = full.some_rows;
  small = full.small;
  height = length-rows_of ncols nrows cells;
  width = λ k d within.
      let row : slice_get (rows_of ncols nrows cells) k ≡ Some (take ncols (drop (k * ncols) cells)) = slice_get-rows_of ncols nrows cells k (omega (arith, within, length-rows_of ncols nrows cells)) in
      rw (get_or_from_slice_get _ k _ d row) (length-row ncols nrows cells k full (omega (arith, within, length-rows_of ncols nrows cells)));
}

-- the value at a place, by whether the place is inside
abbrev IsLooked : {T : Type 0} → ℕ → ℕ → List T → List T → ℕ → ℕ → Type 0
IsLooked ncols nrows before after r c = value_at (raster_of ncols nrows after) (r, c) ≡ value_at (raster_of ncols nrows before) (r, c)

-- a write at a place's index sets that place alone
pub sets_place : {T : Type 0} (ncols nrows : ℕ) (cells : List T) (row col : ℕ) (v : T) → HasCellForEachPlace ncols nrows cells → row < nrows → col < ncols → SetsPlace (raster_of ncols nrows cells) (raster_of ncols nrows (slice_set cells (row * ncols + col) v)) (row, col) v
sets_place {T} ncols nrows cells row col v full in_row in_col =
    let after = set cells (row * ncols + col) v in
    let at : row * ncols + col < length cells = grind (arith, rows, full.count) in
    let inside : (r c : ℕ) → (r, c) ≢ (row, col) → r < nrows → c < ncols → IsLooked ncols nrows cells after r c = λ r c other in_r in_c.
    let elsewhere : r * ncols + c ≢ row * ncols + col = λ same.
    let both = same_from_place r c row col ncols in_c in_col same in
    other (cc (both.0, both.1)) in
    value_at-raster_of ncols nrows after r c in_r in_c ∙ slice_get-set_other cells (row * ncols + col) (r * ncols + c) v elsewhere ∙ sym (value_at-raster_of ncols nrows cells r c in_r in_c) in
    let outside : (r c : ℕ) → (nrows ≤ r) ⊎ (ncols ≤ c) → IsLooked ncols nrows cells after r c = λ r c out.
    value_at-outside ncols nrows after r c out ∙ sym (value_at-outside ncols nrows cells r c out) in
    record {
      ncols = refl;
      nrows = refl;
      shape = raster_from_cells ncols nrows after (record { some_cols = full.some_cols; some_rows = full.some_rows; small = full.small; count = length-set cells (row * ncols + col) v ∙ full.count });
      set = value_at-raster_of ncols nrows after row col in_row in_col ∙ slice_get-set_same cells (row * ncols + col) v at;
      others = λ q other. elim (cases_lt q.0 nrows) [
        | inl in_r ↦ elim (cases_lt q.1 ncols) [
          | inl in_c ↦ inside q.0 q.1 other in_r in_c
          | inr out ↦ outside q.0 q.1 (inr out)
        ]
        | inr out ↦ outside q.0 q.1 (inl out)
      ];
    }
