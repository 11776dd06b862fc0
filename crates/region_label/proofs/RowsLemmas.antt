-- Runs found row by row.
use Rattle.std.proofs.Common.{◌≡◌, ℕ, ◌+◌, ◌-◌, ◌*◌, ◌<◌, ◌≤◌, ◌⊎◌, ◌↔◌, inl, inr, ℤ, Bool, true, List, [], ◌∷◌, ◌++◌, Some, length, length-append, refl, ap, sym, ◌∙◌, subst, arith}
use Rattle.std.specs.Prelude.{slice_get, slice_index, unwrap_or}
use Rattle.std.proofs.lemmas.Bool.{cases_eq, cases_lt}
use Rattle.std.proofs.lemmas.Option.{slice_get_within}
use Rattle.std.proofs.lemmas.Grind.{common_steps}
use Rattle.cell_base.specs.Raster.{Place, Raster, AreAligned, IsRaster, most_cells, value_at}
use Rattle.cell_base.specs.Valid.{IsMarked}
use Rattle.cell_base.specs.Order.{IsBefore}
use Rattle.cell_base.proofs.OrderLemmas.{at_row_end, before_next, none_before}
use Rattle.cell_base.proofs.PlaceLemmas.{inside_from_value}
use Rattle.region_label.specs.Component.{HasValue}
use Rattle.region_label.specs.Run.{Run, IsRunBefore, IsRunIn}
use Rattle.region_label.specs.Inner.Rows.{AreFound, AreInRows, AreStarts, EndsAt, EndsBefore}
use Rattle.region_label.proofs.ListLemmas.{at_push_cases, slice_get-push_last, slice_get-push_old}

-- the value at a place, by its row
pub value_in_row : {T : Type 0} (grid : Raster T) (row : ℕ) (cells : List T) → slice_get grid.rows row ≡ Some cells → (col : ℕ) → value_at grid (row, col) ≡ slice_get cells col
value_in_row grid row cells is col = ap (λ r. slice_get (unwrap_or r []) col) is

pub found_first : {T : Type 0} (units_of : T → ℤ) (cells : Raster T) (valid : Raster Bool) → AreAligned cells valid → AreFound units_of cells valid [] [] (0, 0)
found_first units_of cells valid mask = record {
  mask = mask;
  sized = refl;
  each = λ i run at. absurd (let none : slice_get [] i ≡ Some run = at in cc);
  every = λ value p has before. absurd (none_before p before);
  order = λ i j a b less at_a at_b. absurd (let none : slice_get [] i ≡ Some a = at_a in cc);
  before = λ i run at. absurd (let none : slice_get [] i ≡ Some run = at in cc);
  apart = λ value col next was now. omega arith;
  few = omega arith;
}

ends_later : (run : Run) (row col to : ℕ) → col ≤ to → EndsBefore run (row, col) → EndsBefore run (row, to)
ends_later run row col to less (inl above) = inl above
ends_later run row col to less (inr same) = inr (same.0, omega (arith, same.1))

-- a cell that isn't valid is passed over
pub found_invalid : {T : Type 0} (units_of : T → ℤ) (cells : Raster T) (valid : Raster Bool) (runs : List Run) (units : List ℤ) (row col : ℕ) → AreFound units_of cells valid runs units (row, col) → ¬ IsMarked valid (row, col) → AreFound units_of cells valid runs units (row, col + 1)
found_invalid units_of cells valid runs units row col found not_valid = record {
  mask = found.mask;
  sized = found.sized;
  each = found.each;
  every = λ value p has before. elim (before_next p row col before) [
    | inl old ↦ found.every value p has old
    | inr same ↦ absurd (not_valid (subst (λ (q : Place). IsMarked valid q) same has.0))
  ];
  order = found.order;
  before = λ i run at. ends_later run row col (col + 1) (omega arith) (found.before i run at);
  apart = λ value last next was now.
      let same : last ≡ col = omega arith in
      not_valid (subst (λ (c : ℕ). IsMarked valid (row, c)) same was.0);
  few = omega (arith, found.few);
}

before_to : (p : Place) (row col to : ℕ) → IsBefore p (row, to) → IsBefore p (row, col) ⊎ ((p.0 ≡ row) × (col ≤ p.1) × (p.1 < to))
before_to p row col to (inl above) = inl (inl above)
before_to p row col to (inr same) = elim (cases_lt p.1 col) [
  | inl less ↦ inl (inr (same.0, less))
  | inr past ↦ inr (same.0, past, same.1)
]

before_run : (old run : Run) (row col : ℕ) → EndsBefore old (row, col) → run.row ≡ row → run.from ≡ col → IsRunBefore old run
before_run old run row col (inl above) is_row is_col = inl (omega arith)
before_run old run row col (inr same) is_row is_col = inr (omega (arith, same.0), omega (arith, same.1))

-- the run that ends at a column is one
run_is : {T : Type 0} (units_of : T → ℤ) (cells : Raster T) (valid : Raster Bool) (runs : List Run) (units : List ℤ) (row col to : ℕ) (value : T) (values : List T) (marks : List Bool) → AreFound units_of cells valid runs units (row, col) → slice_get cells.rows row ≡ Some values → slice_get valid.rows row ≡ Some marks → slice_get values col ≡ Some value → EndsAt values marks col to → IsRunIn (HasValue cells valid (Some value)) (record { row = row; from = col; to = to })
run_is {T} units_of cells valid runs units row col to value values marks found in_cells in_valid is ends =
    let at_mark : (c : ℕ) → value_at valid (row, c) ≡ slice_get marks c = value_in_row valid row marks in_valid in
    let at_value : (c : ℕ) → value_at cells (row, c) ≡ slice_get values c = value_in_row cells row values in_cells in
    let here : HasValue cells valid (Some value) (row, col) = (at_mark col ∙ (ends.same col (omega arith) ends.some).0, at_value col ∙ is) in
    record {
      some = ends.some;
      cells = λ p in_run.
          let same = ends.same p.1 in_run.1 in_run.2 in
          let there : (value_at valid (row, p.1) ≡ Some true) × (value_at cells (row, p.1) ≡ Some value) = (at_mark p.1 ∙ same.0, at_value p.1 ∙ same.1 ∙ is) in
          subst (λ (r : ℕ). (value_at valid (r, p.1) ≡ Some true) × (value_at cells (r, p.1) ≡ Some value)) (sym in_run.0) there;
      left = λ last next has. found.apart value last next has here;
      right = λ has. ends.end (sym (at_mark to) ∙ has.0) (sym (at_value to) ∙ has.1 ∙ sym is);
    }

-- one run more
pub found_run : {T : Type 0} (units_of : T → ℤ) (cells : Raster T) (valid : Raster Bool) (runs : List Run) (units : List ℤ) (row col to : ℕ) (value : T) (unit : ℤ) (values : List T) (marks : List Bool) → unit ≡ units_of value → AreFound units_of cells valid runs units (row, col) → slice_get cells.rows row ≡ Some values → slice_get valid.rows row ≡ Some marks → slice_get values col ≡ Some value → EndsAt values marks col to → AreFound units_of cells valid (runs ++ record { row = row; from = col; to = to } ∷ []) (units ++ unit ∷ []) (row, to)
found_run {T} units_of cells valid runs units row col to value unit values marks same_unit found in_cells in_valid is ends =
    let new : Run = record { row = row; from = col; to = to } in
    let new_is : IsRunIn (HasValue cells valid (Some value)) new = run_is units_of cells valid runs units row col to value values marks found in_cells in_valid is ends in
    let at_mark : (c : ℕ) → value_at valid (row, c) ≡ slice_get marks c = value_in_row valid row marks in_valid in
    let at_value : (c : ℕ) → value_at cells (row, c) ≡ slice_get values c = value_in_row cells row values in_cells in
    record {
      mask = found.mask;
      sized = omega (arith, found.sized, length-append runs (new ∷ []), length-append units (unit ∷ []));
      each = λ i run at. elim (at_push_cases runs new i run at) [
        | inl old ↦
            let was = found.each i run old in
            (was.0, slice_get-push_old units unit i (slice_get_within units i (units_of was.0) was.1) ∙ was.1, was.2)
        | inr last ↦
            let unit_at : slice_get (units ++ unit ∷ []) i ≡ Some (units_of value) = ap (slice_get (units ++ unit ∷ [])) (last.0 ∙ sym found.sized) ∙ slice_get-push_last units unit ∙ ap Some same_unit in
            (value, unit_at, subst (λ (r : Run). IsRunIn (HasValue cells valid (Some value)) r) (sym last.1) new_is)
      ];
      every = λ v p has before. elim (before_to p row col to before) [
        | inl old ↦
            let was = found.every v p has old in
            (was.0, was.1, slice_get-push_old runs new was.0 (slice_get_within runs was.0 was.1 was.2) ∙ was.2, was.3)
        | inr in_run ↦ (length runs, new, slice_get-push_last runs new, (in_run.0, in_run.1, in_run.2))
      ];
      order = λ i j a b less at_a at_b. elim (at_push_cases runs new j b at_b) [
        | inl old_b ↦
            let in_runs : i < length runs = omega (arith, slice_get_within runs j b old_b) in
            found.order i j a b less (sym (slice_get-push_old runs new i in_runs) ∙ at_a) old_b
        | inr last ↦
            let in_runs : i < length runs = omega (arith, last.0) in
            let row_is : b.row ≡ row = ap (λ (r : Run). r.row) last.1 in
            let col_is : b.from ≡ col = ap (λ (r : Run). r.from) last.1 in
            before_run a b row col (found.before i a (sym (slice_get-push_old runs new i in_runs) ∙ at_a)) row_is col_is
      ];
      before = λ i run at. elim (at_push_cases runs new i run at) [
        | inl old ↦ ends_later run row col to (omega (arith, ends.some)) (found.before i run old)
        | inr last ↦
            let to_is : run.to ≡ to = ap (λ (r : Run). r.to) last.1 in
            inr (ap (λ (r : Run). r.row) last.1, omega arith)
      ];
      apart = λ v last next was now.
          let in_run = ends.same last (omega (arith, ends.some)) (omega arith) in
          let same : Some v ≡ Some value = sym was.1 ∙ at_value last ∙ in_run.1 ∙ is in
          ends.end (sym (at_mark to) ∙ now.0) (sym (at_value to) ∙ now.1 ∙ same ∙ sym is);
      few = omega (arith, found.few, ends.some, length-append runs (new ∷ []));
    }

pub in_cells : {T : Type 0} (cells : Raster T) (valid : Raster Bool) (p : Place) → AreAligned cells valid → IsMarked valid p → (p.0 < cells.nrows) × (p.1 < cells.ncols)
in_cells cells valid p mask marked =
    let inside = inside_from_value valid p true mask.second marked in
    (omega (arith, inside.0, mask.nrows), omega (arith, inside.1, mask.ncols))

-- at the end of a row
pub found_row : {T : Type 0} (units_of : T → ℤ) (cells : Raster T) (valid : Raster Bool) (runs : List Run) (units : List ℤ) (row : ℕ) → AreFound units_of cells valid runs units (row, cells.ncols) → AreFound units_of cells valid runs units (row + 1, 0)
found_row units_of cells valid runs units row found = record {
  mask = found.mask;
  sized = found.sized;
  each = found.each;
  every = λ value p has before. found.every value p has (at_row_end p row cells.ncols (in_cells cells valid p found.mask has.0).1 before);
  order = found.order;
  before = λ i run at. elim (found.before i run at) [ inl above ↦ inl (omega arith) | inr same ↦ inl (omega (arith, same.0)) ];
  apart = λ value col next was now. omega arith;
  few = omega (arith, found.few);
}

starts_at : (starts : List ℕ) (n r : ℕ) → (r < length starts) ⊎ (length starts ≤ r) → ((r < length starts) × (slice_index (starts ++ n ∷ []) r ≡ slice_index starts r)) ⊎ ((length starts ≤ r) × (slice_index (starts ++ n ∷ []) r ≤ n))
starts_at starts n r (inl old) = inl (old, grind (arith, common_steps))
starts_at starts n r (inr new) = inr (
  new,
  elim (cases_eq r (length starts)) [
    | inl last ↦ (let is : slice_index (starts ++ n ∷ []) r ≡ n = grind (arith, common_steps) in omega arith)
    | inr past ↦ (let is : slice_index (starts ++ n ∷ []) r ≡ 0 = grind (arith, common_steps) in omega arith)
  ],
)

last_start : (starts : List ℕ) (n r : ℕ) → r ≡ length starts → slice_index (starts ++ n ∷ []) r ≡ n
last_start starts n r is = grind (arith, common_steps)

pub starts_first : (runs : List Run) → AreStarts runs [] 0
starts_first runs = record {
  rows = refl;
  within = λ r. omega arith;
  below = λ r i run less at. absurd (omega arith);
}

-- the start of the next row, while all runs are in earlier rows
pub starts_row : (runs : List Run) (starts : List ℕ) (row : ℕ) → AreStarts runs starts row → ((i : ℕ) (run : Run) → slice_get runs i ≡ Some run → run.row < row) → AreStarts runs (starts ++ length runs ∷ []) (row + 1)
starts_row runs starts row are above = record {
  rows = omega (arith, are.rows, length-append starts (length runs ∷ []));
  within = λ r. elim (starts_at starts (length runs) r (cases_lt r (length starts))) [
    | inl old ↦ omega (arith, old.1, are.within r)
    | inr new ↦ new.1
  ];
  below = λ r i run less at. elim (cases_lt r row) [
    | inl old ↦
        let same : slice_index (starts ++ length runs ∷ []) r ≡ slice_index starts r = elim (starts_at starts (length runs) r (cases_lt r (length starts))) [
          | inl is ↦ is.1
          | inr new ↦ absurd (omega (arith, new.0, are.rows))
        ] in
        subst (λ (n : ℕ). (i < n) ↔ (run.row < r)) (sym same) (are.below r i run old at)
    | inr now ↦
        let is : slice_index (starts ++ length runs ∷ []) r ≡ length runs = last_start starts (length runs) r (omega (arith, are.rows)) in
        let upper = above i run at in
        let within = slice_get_within runs i run at in
        (λ h. omega (arith, upper), λ h. omega (arith, within, is))
  ];
}

-- a run in this row or a later one leaves the starts
pub starts_run : (runs : List Run) (run : Run) (starts : List ℕ) (row : ℕ) → AreStarts runs starts (row + 1) → row ≤ run.row → AreStarts (runs ++ run ∷ []) starts (row + 1)
starts_run runs run starts row are later = record {
  rows = are.rows;
  within = λ r. omega (arith, are.within r, length-append runs (run ∷ []));
  below = λ r i old less at. elim (at_push_cases runs run i old at) [
    | inl was ↦ are.below r i old less was
    | inr last ↦
        let row_is : old.row ≡ run.row = ap (λ (a : Run). a.row) last.1 in
        (λ h. absurd (omega (arith, h, last.0, are.within r)), λ h. absurd (omega (arith, h, row_is)))
  ];
}

above_row : {T : Type 0} (units_of : T → ℤ) (cells : Raster T) (valid : Raster Bool) (runs : List Run) (units : List ℤ) (row : ℕ) → AreFound units_of cells valid runs units (row, 0) → ((i : ℕ) (run : Run) → slice_get runs i ≡ Some run → run.row < row)
above_row units_of cells valid runs units row found i run at = elim (found.before i run at) [
  | inl above ↦ above
  | inr same ↦ absurd (omega (arith, same.1, (found.each i run at).2.some))
]

pub starts_found : {T : Type 0} (units_of : T → ℤ) (cells : Raster T) (valid : Raster Bool) (runs : List Run) (units : List ℤ) (starts : List ℕ) (row : ℕ) → AreFound units_of cells valid runs units (row, 0) → AreStarts runs starts row → AreStarts runs (starts ++ length runs ∷ []) (row + 1)
starts_found units_of cells valid runs units starts row found are = starts_row runs starts row are (above_row units_of cells valid runs units row found)

-- all rows are done
pub in_rows : {T : Type 0} (units_of : T → ℤ) (cells : Raster T) (valid : Raster Bool) (runs : List Run) (units : List ℤ) (starts : List ℕ) → AreFound units_of cells valid runs units (cells.nrows, 0) → AreStarts runs starts (cells.nrows + 1) → cells.ncols ≤ most_cells → cells.nrows ≤ most_cells → AreInRows cells.ncols cells.nrows runs units starts
in_rows units_of cells valid runs units starts found are narrow low = record {
  narrow = narrow;
  low = low;
  few = omega (arith, found.few, found.mask.first.small);
  sized = found.sized;
  inside = λ i run at.
      let is = (found.each i run at).2 in
      let last : (run.row < cells.nrows) × (run.to - 1 < cells.ncols) = in_cells cells valid (run.row, run.to - 1) found.mask (is.cells (run.row, run.to - 1) (refl, omega (arith, is.some), omega (arith, is.some))).0 in
      (last.0, is.some, omega (arith, last.1));
  order = found.order;
  rows = are.rows;
  within = are.within;
  below = λ r i run less at. are.below r i run (omega arith) at;
}

-- a grid has few columns
pub few_columns : {T : Type 0} (cells : Raster T) → IsRaster cells → cells.ncols ≤ most_cells
few_columns cells shape = omega (arith, shape.small, shape.some_rows, col_le cells.ncols cells.nrows shape.some_rows)
  where
    col_le : (ncols nrows : ℕ) → 0 < nrows → ncols ≤ ncols * nrows
    col_le ncols nrows some = grind arith

-- and few rows
pub few_rows : {T : Type 0} (cells : Raster T) → IsRaster cells → cells.nrows ≤ most_cells
few_rows cells shape = omega (arith, shape.small, shape.some_cols, row_le cells.ncols cells.nrows shape.some_cols)
  where
    row_le : (ncols nrows : ℕ) → 0 < ncols → nrows ≤ ncols * nrows
    row_le ncols nrows some = grind arith

-- all rows of the grid are done
pub rows_built : {T : Type 0} (units_of : T → ℤ) (cells : Raster T) (valid : Raster Bool) (ncols nrows : ℕ) (runs : List Run) (units : List ℤ) (starts : List ℕ) → ncols ≡ cells.ncols → nrows ≡ cells.nrows → AreFound units_of cells valid runs units (cells.nrows, 0) → AreStarts runs starts cells.nrows → AreInRows ncols nrows runs units (starts ++ length runs ∷ [])
rows_built units_of cells valid ncols nrows runs units starts cols rows found are =
    rw (cols, rows) (in_rows units_of cells valid runs units (starts ++ length runs ∷ []) found (starts_found units_of cells valid runs units starts cells.nrows found are) (few_columns cells found.mask.first) (few_rows cells found.mask.first))
