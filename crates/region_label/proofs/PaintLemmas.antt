-- The numbers of cells, by the runs that they are in.
use Rattle.std.proofs.Common.{◌≡◌, ℕ, ◌*◌, ◌<◌, ◌≤◌, inl, inr, Bool, true, cond, List, [], Option, Some, None, map, length, get_or, refl, ap, sym, ◌∙◌, arith}
use Rattle.std.specs.Prelude.{◌==◌, ◌&&◌, nat_le, nat_lt, option_and_then, option_map, position, slice_get, unwrap_or}
use Rattle.std.specs.List.{position_or_len, range_with_len}
use Rattle.std.proofs.lemmas.Bool.{and_from, and_parts, cases_eq, cases_lt, eqb-true, eq-eqb, false_from_ne_true, leb-true, ltb-true}
use Rattle.std.proofs.lemmas.Bool.Decides.{nat_tests}
use Rattle.std.proofs.lemmas.List.Sums.{position_or_len_is}
use Rattle.std.proofs.lemmas.List.Quantifiers.{position-Some}
use Rattle.std.proofs.lemmas.List.FromFn.{get_or-range_with_len, length-map-range_with_len, length-range_with_len}
use Rattle.std.proofs.lemmas.Option.{get_or_from_slice_get, slice_get-get_or, slice_get-map, slice_get_within}
use Rattle.cell_base.specs.Raster.{Place, Raster, IsRaster, most_cells, value_at}
use Rattle.region_label.specs.Run.{Run, IsCellOf, IsRunBefore}
use Rattle.region_label.specs.RunTable.{TableOfRuns, number_at, regions_of}

no_run : Run
no_run = record { row = 0; from = 0; to = 0 }

-- whether a cell is one of the run
abbrev pub has_cell : Place → Run → Bool
has_cell p run = (run.row == p.0) && (nat_le run.from p.1 && nat_lt p.1 run.to)

has_cell_sound : (p : Place) (run : Run) → has_cell p run ≡ true → IsCellOf run p
has_cell_sound p run is =
    let one = and_parts (run.row == p.0) (nat_le run.from p.1 && nat_lt p.1 run.to) is in
    let two = and_parts (nat_le run.from p.1) (nat_lt p.1 run.to) one.1 in
    (sym (eqb-true run.row p.0 one.0), leb-true run.from p.1 two.0, ltb-true p.1 run.to two.1)

has_cell_complete : (p : Place) (run : Run) → IsCellOf run p → has_cell p run ≡ true
has_cell_complete p run is =
    let row : (run.row == p.0) ≡ true = eq-eqb run.row p.0 (sym is.0) in
    let from : nat_le run.from p.1 ≡ true = grind (arith, nat_tests, is.1) in
    let to : nat_lt p.1 run.to ≡ true = grind (arith, nat_tests, is.2) in
    and_from (run.row == p.0) (nat_le run.from p.1 && nat_lt p.1 run.to) row (and_from (nat_le run.from p.1) (nat_lt p.1 run.to) from to)

-- a cell is in one run
pub same_run : (runs : List Run) → ((i j : ℕ) (a b : Run) → i < j → slice_get runs i ≡ Some a → slice_get runs j ≡ Some b → IsRunBefore a b) → (i j : ℕ) (a b : Run) (p : Place) → slice_get runs i ≡ Some a → slice_get runs j ≡ Some b → IsCellOf a p → IsCellOf b p → i ≡ j
same_run runs order i j a b p at_a at_b in_a in_b = elim (cases_lt i j) [
  | inl less ↦ elim (order i j a b less at_a at_b) [
    | inl above ↦ absurd (omega (arith, above, in_a.0, in_b.0))
    | inr before ↦ absurd (omega (arith, before.1, in_a.2, in_b.1))
  ]
  | inr past ↦ elim (cases_eq i j) [
    | inl same ↦ same
    | inr other ↦ elim (order j i b a (omega arith) at_b at_a) [
      | inl above ↦ absurd (omega (arith, above, in_a.0, in_b.0))
      | inr before ↦ absurd (omega (arith, before.1, in_b.2, in_a.1))
    ]
  ]
]

-- the number of a cell is that of its run
pub number_in : (table : TableOfRuns) → ((i j : ℕ) (a b : Run) → i < j → slice_get table.runs i ≡ Some a → slice_get table.runs j ≡ Some b → IsRunBefore a b) → (i : ℕ) (run : Run) (p : Place) (o : Option ℕ) → slice_get table.runs i ≡ Some run → IsCellOf run p → slice_get table.components i ≡ Some o → number_at table p ≡ o
number_in table order i run p o at in_run is =
    let within = slice_get_within table.runs i run at in
    let first : position_or_len (has_cell p) table.runs ≡ i = position_or_len_is (has_cell p) table.runs i no_run (omega (arith, within)) (λ k less. false_from_ne_true (has_cell p (get_or table.runs k no_run)) (λ has.
    let there = slice_get-get_or table.runs k no_run (omega (arith, less, within)) in
    let same = same_run table.runs order k i (get_or table.runs k no_run) run p there at (has_cell_sound p (get_or table.runs k no_run) has) in_run in
    omega (arith, same, less))) (λ less. ap (has_cell p) (get_or_from_slice_get table.runs i run no_run at) ∙ has_cell_complete p run in_run) in
    let found : position (has_cell p) table.runs ≡ Some i = rw first (found_at i (length table.runs) within) in
    ap (λ (q : Option ℕ). unwrap_or (option_and_then (slice_get table.components) q) None) found ∙ ap (λ (q : Option (Option ℕ)). unwrap_or q None) is
  where
    found_at : (i n : ℕ) → i < n → cond (nat_lt i n) (Some i) None ≡ Some i
    found_at i n less =
        let test : nat_lt i n ≡ true = grind (arith, nat_tests) in
        rw test refl

-- a number is that of a run with the cell
pub number_of_run : (table : TableOfRuns) (p : Place) (k : ℕ) → number_at table p ≡ Some k → (i : ℕ) × (run : Run) × (slice_get table.runs i ≡ Some run) × IsCellOf run p × (slice_get table.components i ≡ Some (Some k))
number_of_run table p k is = by_position table p k (position (has_cell p) table.runs) refl is
  where
    by_number : (table : TableOfRuns) (p : Place) (k i : ℕ) (o : Option (Option ℕ)) → position (has_cell p) table.runs ≡ Some i → slice_get table.components i ≡ o → unwrap_or o None ≡ Some k → (j : ℕ) × (run : Run) × (slice_get table.runs j ≡ Some run) × IsCellOf run p × (slice_get table.components j ≡ Some (Some k))
    by_number table p k i None found at is = cc
    by_number table p k i (Some o) found at is =
        let there = position-Some (has_cell p) table.runs i no_run found in
        (i, get_or table.runs i no_run, slice_get-get_or table.runs i no_run there.0, has_cell_sound p (get_or table.runs i no_run) there.1, at ∙ ap (λ (q : Option ℕ). Some q) is)

    by_position : (table : TableOfRuns) (p : Place) (k : ℕ) (q : Option ℕ) → position (has_cell p) table.runs ≡ q → unwrap_or (option_and_then (slice_get table.components) q) None ≡ Some k → (j : ℕ) × (run : Run) × (slice_get table.runs j ≡ Some run) × IsCellOf run p × (slice_get table.components j ≡ Some (Some k))
    by_position table p k None found is = cc
    by_position table p k (Some i) found is = by_number table p k i (slice_get table.components i) found refl is

range_at : (n i : ℕ) → i < n → slice_get (range_with_len 0 n) i ≡ Some i
range_at n i less =
    let read : get_or (range_with_len 0 n) i 0 ≡ i = omega (arith, get_or-range_with_len 0 n i 0 less) in
    slice_get-get_or (range_with_len 0 n) i 0 (omega (arith, less, length-range_with_len 0 n)) ∙ ap (λ (m : ℕ). Some m) read

from_range : {X : Type 0} (f : ℕ → X) (n i : ℕ) → i < n → slice_get (map f (range_with_len 0 n)) i ≡ Some (f i)
from_range f n i less = slice_get-map f (range_with_len 0 n) i ∙ ap (option_map f) (range_at n i less)

-- a grid of what a function gives at each place
abbrev pub grid_by : {X : Type 0} → ℕ → ℕ → (Place → X) → Raster X
grid_by nrows ncols f = record { ncols = ncols; nrows = nrows; rows = map (λ r. map (λ c. f (r, c)) (range_with_len 0 ncols)) (range_with_len 0 nrows) }

pub grid_by_at : {X : Type 0} (nrows ncols : ℕ) (f : Place → X) (p : Place) → p.0 < nrows → p.1 < ncols → value_at (grid_by nrows ncols f) p ≡ Some (f p)
grid_by_at {X} nrows ncols f p in_row in_col =
    ap (λ (row : Option (List X)). slice_get (unwrap_or row []) p.1) (from_range (λ r. map (λ c. f (r, c)) (range_with_len 0 ncols)) nrows p.0 in_row)
    ∙ from_range (λ c. f (p.0, c)) ncols p.1 in_col

pub grid_by_shape : {X : Type 0} (nrows ncols : ℕ) (f : Place → X) → 0 < ncols → 0 < nrows → ncols * nrows ≤ most_cells → IsRaster (grid_by nrows ncols f)
grid_by_shape nrows ncols f some_cols some_rows small = record {
  some_cols = some_cols;
  some_rows = some_rows;
  small = small;
  height = length-map-range_with_len (λ r. map (λ c. f (r, c)) (range_with_len 0 ncols)) 0 nrows;
  width = λ k d within.
      let in_rows : k < nrows = omega (arith, within, length-map-range_with_len (λ r. map (λ c. f (r, c)) (range_with_len 0 ncols)) 0 nrows) in
      let row = get_or_from_slice_get (map (λ r. map (λ c. f (r, c)) (range_with_len 0 ncols)) (range_with_len 0 nrows)) k (map (λ c. f (k, c)) (range_with_len 0 ncols)) d (from_range (λ r. map (λ c. f (r, c)) (range_with_len 0 ncols)) nrows k in_rows) in
      ap length row ∙ length-map-range_with_len (λ c. f (k, c)) 0 ncols;
}

-- the painted number of a cell inside
pub painted : (table : TableOfRuns) (p : Place) → p.0 < table.nrows → p.1 < table.ncols → value_at (regions_of table).numbers p ≡ Some (number_at table p)
painted table p in_row in_col = grid_by_at table.nrows table.ncols (number_at table) p in_row in_col

-- the painted numbers are a grid
pub painted_shape : (table : TableOfRuns) → 0 < table.ncols → 0 < table.nrows → table.ncols * table.nrows ≤ most_cells → IsRaster (regions_of table).numbers
painted_shape table some_cols some_rows small = grid_by_shape table.nrows table.ncols (number_at table) some_cols some_rows small

-- a cell in no run has no number
pub number_out : (table : TableOfRuns) (p : Place) → ((i : ℕ) (run : Run) → slice_get table.runs i ≡ Some run → ¬ IsCellOf run p) → number_at table p ≡ None
number_out table p out = by_number (number_at table p) refl
  where
    by_number : (o : Option ℕ) → number_at table p ≡ o → o ≡ None
    by_number None is = refl
    by_number (Some k) is =
        let found = number_of_run table p k is in
        absurd (out found.0 found.1 found.2 found.3)
