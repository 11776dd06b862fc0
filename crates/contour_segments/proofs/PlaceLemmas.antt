-- Where the lattice cells stand in their list.
use Rattle.std.proofs.Common.{◌≡◌, ℕ, zero, suc, ◌+◌, ◌*◌, ◌/◌, ◌%◌, ◌<◌, ◌≤◌, List, ◌++◌, Some, length, get_or, map, sym, ap, ◌∙◌, subst, arith}
use Rattle.std.specs.Prelude.{slice_get}
use Rattle.std.specs.List.{flat_map, range_with_len}
use Rattle.std.proofs.lemmas.List.{get_or-append-add, get_or_append_left, length-append}
use Rattle.std.proofs.lemmas.List.FromFn.{get_or-map-range_with_len, length-map-range_with_len}
use Rattle.std.proofs.lemmas.Nat.{div-add-mod'}
use Rattle.std.proofs.lemmas.Option.{slice_get-get_or, slice_get_within}
use Rattle.std.proofs.Math.Nat.{div-lt_iff_lt-mul, lt_of_mul-lt-mul_left, mul-le-mul_left, mul-le-mul_right}
use Rattle.cell_base.specs.Raster.{Place}
use Rattle.contour_segments.specs.Segments.{places_of}

abbrev row_of : ℕ → ℕ → List Place
row_of w r = map (λ c. (r, c)) (range_with_len 0 w)

rows_long : (a n w : ℕ) → length (flat_map (row_of w) (range_with_len a n)) ≡ n * w
rows_long a zero w = omega arith
rows_long a (suc n) w =
    let rest = rows_long (a + 1) n w in
    let row : length (row_of w a) ≡ w = length-map-range_with_len (λ c. (a, c)) 0 w in
    omega (arith, length-append (row_of w a) (flat_map (row_of w) (range_with_len (a + 1) n)), rest, row)

pub places_long : (n w : ℕ) → length (places_of n w) ≡ n * w
places_long n w = rows_long 0 n w

rows_at : (a n w r c : ℕ) (d : Place) → r < n → c < w → get_or (flat_map (row_of w) (range_with_len a n)) (r * w + c) d ≡ (a + r, c)
rows_at a zero w r c d in_row in_col = absurd (omega (arith, in_row))
rows_at a (suc n) w zero c d in_row in_col =
    let rest = flat_map (row_of w) (range_with_len (a + 1) n) in
    let long : length (row_of w a) ≡ w = length-map-range_with_len (λ c. (a, c)) 0 w in
    let at : 0 * w + c ≡ c = omega arith in
    let here : a ≡ a + 0 = omega arith in
    ap (λ (i : ℕ). get_or (row_of w a ++ rest) i d) at ∙ get_or_append_left (row_of w a) rest d c (omega (arith, long, in_col)) ∙ get_or-map-range_with_len (λ c. (a, c)) 0 w c c d in_col (omega arith) ∙ ap (λ (r : ℕ). (r, c)) here
rows_at a (suc n) w (suc r) c d in_row in_col =
    let rest = flat_map (row_of w) (range_with_len (a + 1) n) in
    let long : length (row_of w a) ≡ w = length-map-range_with_len (λ c. (a, c)) 0 w in
    let at : suc r * w + c ≡ length (row_of w a) + (r * w + c) = omega (arith, long) in
    let here : (a + 1) + r ≡ a + suc r = omega arith in
    ap (λ (i : ℕ). get_or (row_of w a ++ rest) i d) at ∙ get_or-append-add (row_of w a) rest (r * w + c) d ∙ rows_at (a + 1) n w r c d (omega (arith, in_row)) in_col ∙ ap (λ (r : ℕ). (r, c)) here

room : (n w r c : ℕ) → r < n → c < w → r * w + c < n * w
room n w r c in_row in_col = grind (arith, in_row, in_col)

pub place_at : (n w r c : ℕ) → r < n → c < w → slice_get (places_of n w) (r * w + c) ≡ Some (r, c)
place_at n w r c in_row in_col =
    let within : r * w + c < length (places_of n w) = omega (arith, places_long n w, room n w r c in_row in_col) in
    slice_get-get_or (places_of n w) (r * w + c) (0, 0) within ∙ ap Some (rows_at 0 n w r c (0, 0) in_row in_col ∙ ap (λ (k : ℕ). (k, c)) (omega arith))

pub some_width : (n w i : ℕ) → i < n * w → 0 < w
some_width n zero i within = absurd (omega (arith, within))
some_width n (suc w) i within = omega arith

record Within (n w i : ℕ) : Type 0 where
  row : i / w < n
  col : i % w < w

within_places : (n w i : ℕ) → i < n * w → Within n w i
within_places n w i within =
    let some = some_width n w i within in
    record { row = (div-lt_iff_lt-mul {k = w} {x = i} {y = n} some).1 within; col = omega (arith, some) }

-- the place of a number
pub place_of : (n w i : ℕ) → i < n * w → slice_get (places_of n w) i ≡ Some (i / w, i % w)
place_of n w i within =
    let is = within_places n w i within in
    ap (λ (k : ℕ). slice_get (places_of n w) k) (sym (div-add-mod' i w)) ∙ place_at n w (i / w) (i % w) is.row is.col

pub record Stands (n w i : ℕ) (place : Place) : Type 0 where
  pub row : place.0 < n
  pub col : place.1 < w
  pub at : i ≡ place.0 * w + place.1

pub stands : (n w i : ℕ) (place : Place) → slice_get (places_of n w) i ≡ Some place → Stands n w i place
stands n w i place is =
    let within : i < n * w = omega (arith, slice_get_within (places_of n w) i place is, places_long n w) in
    let here = within_places n w i within in
    let both : Some (i / w, i % w) ≡ Some place = sym (place_of n w i within) ∙ is in
    let same : (i / w, i % w) ≡ place = cc in
    subst (λ (p : Place). Stands n w i p) same (record { row = here.row; col = here.col; at = sym (div-add-mod' i w) })

rows_left : (n w r i : ℕ) → r * w ≤ i → i < n * w → r < n
rows_left n w r i low high =
    let less : w * r < w * n = omega (arith, low, high) in
    lt_of_mul-lt-mul_left w less

-- the next place is in the same row, or begins the next one
pub after_in_row : (n w i : ℕ) (r c : ℕ) → slice_get (places_of n w) i ≡ Some (r, c) → c + 1 < w → slice_get (places_of n w) (i + 1) ≡ Some (r, c + 1)
after_in_row n w i r c is more =
    let here = stands n w i (r, c) is in
    let at : i + 1 ≡ r * w + (c + 1) = omega (arith, here.at) in
    ap (λ (k : ℕ). slice_get (places_of n w) k) at ∙ place_at n w r (c + 1) here.row more

pub after_row : (n w i : ℕ) (r c : ℕ) → slice_get (places_of n w) i ≡ Some (r, c) → c + 1 ≡ w → i + 1 < length (places_of n w) → slice_get (places_of n w) (i + 1) ≡ Some (r + 1, 0)
after_row n w i r c is last less =
    let here = stands n w i (r, c) is in
    let at : i + 1 ≡ (r + 1) * w + 0 = omega (arith, here.at, last) in
    let within : i + 1 < n * w = omega (arith, less, places_long n w) in
    let row : r + 1 < n = rows_left n w (r + 1) (i + 1) (omega (arith, at)) within in
    ap (λ (k : ℕ). slice_get (places_of n w) k) at ∙ place_at n w (r + 1) 0 row (omega (arith, last))

-- fewer rows and columns have fewer cells
pub fewer : (ncols nrows n w : ℕ) → n ≤ nrows → w ≤ ncols → n * w ≤ ncols * nrows
fewer ncols nrows n w rows cols =
    let one : n * w ≤ nrows * w = mul-le-mul_right w rows in
    let two : nrows * w ≤ nrows * ncols = mul-le-mul_left nrows cols in
    omega (arith, one, two)
