-- A grid and the grid of its units have the same components.
use Rattle.std.proofs.Common.{◌≡◌, ℕ, ◌<◌, ◌↔◌, inl, ℤ, Bool, List, [], ◌∷◌, Option, Some, None, map, length, get_or, refl, ap, sym, ◌∙◌, arith}
use Rattle.std.specs.Prelude.{option_map, slice_get, unwrap_or}
use Rattle.std.proofs.lemmas.List.{length-map}
use Rattle.std.proofs.lemmas.Option.{get_or_from_slice_get, same_Some, slice_get-get_or, slice_get-map}
use Rattle.cell_base.specs.Raster.{Place, Raster, IsRaster, value_at}
use Rattle.cell_base.specs.Order.{IsBefore}
use Rattle.cell_base.specs.Walk.{IsJoined, IsWalk, StepsInto}
use Rattle.region_label.specs.Component.{HasValue, InComponent, IsFirst}
use Rattle.region_label.specs.Labelling.{RegionTable, IsLabelling}
use Rattle.region_label.specs.Run.{Run, IsRunIn}
use Rattle.region_label.specs.RunTable.{IsFilled, IsTableOfCells, TableOfRuns, regions_of, units_grid}
use Rattle.region_label.specs.Inner.Table.{AreRowsOf, table_of}
use Rattle.region_label.specs.declared.rows.RowRuns.{RowRuns}
use Rattle.region_label.specs.declared.lists.RunLists.{RunLists}
use Rattle.region_label.proofs.CountLemmas.{count_same}
use Rattle.region_label.proofs.RowsLemmas.{in_cells}

-- units tell values apart
abbrev pub TellsApart : {T : Type 0} → (T → ℤ) → Type 0
TellsApart {T} units_of = (a b : T) → units_of a ≡ units_of b → a ≡ b

in_row : {T : Type 0} (units_of : T → ℤ) (o : Option (List T)) (c : ℕ) → slice_get (unwrap_or (option_map (map units_of) o) []) c ≡ option_map units_of (slice_get (unwrap_or o []) c)
in_row units_of None c = refl
in_row units_of (Some row) c = slice_get-map units_of row c

pub value_at-units_grid : {T : Type 0} (units_of : T → ℤ) (cells : Raster T) (p : Place) → value_at (units_grid units_of cells) p ≡ option_map units_of (value_at cells p)
value_at-units_grid units_of cells p = ap (λ row. slice_get (unwrap_or row []) p.1) (slice_get-map (map units_of) cells.rows p.0) ∙ in_row units_of (slice_get cells.rows p.0) p.1

same_option : {T : Type 0} (units_of : T → ℤ) → TellsApart units_of → (a b : Option T) → option_map units_of a ≡ option_map units_of b → a ≡ b
same_option units_of apart None None same = refl
same_option units_of apart None (Some b) same = cc
same_option units_of apart (Some a) None same = cc
same_option units_of apart (Some a) (Some b) same = ap (λ x. Some x) (apart a b (same_Some (units_of a) (units_of b) same))

-- the same cells have a value and its units
pub same_cells : {T : Type 0} (units_of : T → ℤ) (cells : Raster T) (valid : Raster Bool) (o : Option T) (p : Place) → TellsApart units_of → HasValue cells valid o p ↔ HasValue (units_grid units_of cells) valid (option_map units_of o) p
same_cells units_of cells valid o p apart = (
  λ has. (has.0, value_at-units_grid units_of cells p ∙ ap (option_map units_of) has.1),
  λ has. (has.0, same_option units_of apart (value_at cells p) o (sym (value_at-units_grid units_of cells p) ∙ has.1)),
)

pub run_of_units : {T : Type 0} (units_of : T → ℤ) (cells : Raster T) (valid : Raster Bool) (v : T) (run : Run) → TellsApart units_of → IsRunIn (HasValue cells valid (Some v)) run → IsRunIn (HasValue (units_grid units_of cells) valid (Some (units_of v))) run
run_of_units units_of cells valid v run apart is = record {
  some = is.some;
  cells = λ p in_run. (same_cells units_of cells valid (Some v) p apart).0 (is.cells p in_run);
  left = λ col next has. is.left col next ((same_cells units_of cells valid (Some v) (run.row, col) apart).1 has);
  right = λ has. is.right ((same_cells units_of cells valid (Some v) (run.row, run.to) apart).1 has);
}

pub units_shape : {T : Type 0} (units_of : T → ℤ) (cells : Raster T) → IsRaster cells → IsRaster (units_grid units_of cells)
units_shape units_of cells shape = record {
  some_cols = shape.some_cols;
  some_rows = shape.some_rows;
  small = shape.small;
  height = length-map cells.rows (map units_of) ∙ shape.height;
  width = λ k d within.
      let in_rows : k < length cells.rows = omega (arith, within, length-map cells.rows (map units_of)) in
      let row : slice_get (map (map units_of) cells.rows) k ≡ Some (map units_of (get_or cells.rows k [])) = slice_get-map (map units_of) cells.rows k ∙ ap (option_map (map units_of)) (slice_get-get_or cells.rows k [] in_rows) in
      ap length (get_or_from_slice_get (map (map units_of) cells.rows) k (map units_of (get_or cells.rows k [])) d row) ∙ length-map (get_or cells.rows k []) units_of ∙ shape.width k [] in_rows;
}

some_value : {T : Type 0} (units_of : T → ℤ) (o : Option T) (u : ℤ) → option_map units_of o ≡ Some u → (v : T) × (o ≡ Some v) × (units_of v ≡ u)
some_value units_of None u is = cc
some_value units_of (Some v) u is = (v, refl, same_Some (units_of v) u is)

-- the runs that were found are those of the units
pub table_of_units : {T : Type 0} (units_of : T → ℤ) (cells : Raster T) (valid : Raster Bool) (rows : RowRuns) (lists : RunLists) → TellsApart units_of → AreRowsOf units_of cells valid rows → IsTableOfCells (units_grid units_of cells) valid (table_of rows lists)
table_of_units {T} units_of cells valid rows lists apart of =
    let found = of.found in
    record {
      mask = record { first = units_shape units_of cells found.mask.first; second = found.mask.second; ncols = found.mask.ncols; nrows = found.mask.nrows };
      ncols = of.ncols;
      nrows = of.nrows;
      runs = record {
        each = λ i run at.
            let is = found.each i run at in
            (units_of is.0, run_of_units units_of cells valid is.0 run apart is.2);
        every = λ u p has.
            let value = some_value units_of (value_at cells p) u (sym (value_at-units_grid units_of cells p) ∙ has.1) in
            let inside = in_cells cells valid p found.mask has.0 in
            found.every value.0 p (has.0, value.1) (inl inside.0);
        order = found.order;
      };
      sized = found.sized;
      units = λ i run at.
          let is = found.each i run at in
          let first = is.2.cells (run.row, run.from) (refl, omega arith, is.2.some) in
          value_at-units_grid units_of cells (run.row, run.from) ∙ ap (option_map units_of) first.1 ∙ sym is.1;
    }

walk_within : (connectivity : Bool) (P Q : Place → Type 0) → ((p : Place) → P p → Q p) → (a b : Place) (walk : List Place) → IsWalk (StepsInto connectivity P) a walk b → IsWalk (StepsInto connectivity Q) a walk b
walk_within connectivity P Q wider a b [] walked = walked
walk_within connectivity P Q wider a b (c ∷ cs) walked = ((walked.0.0, wider c walked.0.1), walk_within connectivity P Q wider c b cs walked.1)

joined_within : (connectivity : Bool) (P Q : Place → Type 0) → ((p : Place) → P p → Q p) → (a b : Place) → IsJoined connectivity P a b → IsJoined connectivity Q a b
joined_within connectivity P Q wider a b joined = (wider a joined.0, joined.1, walk_within connectivity P Q wider a b joined.1 joined.2)

-- the components are the same
pub same_component : {T : Type 0} (units_of : T → ℤ) (connectivity : Bool) (cells : Raster T) (valid : Raster Bool) (a b : Place) → TellsApart units_of → InComponent connectivity cells valid a b ↔ InComponent connectivity (units_grid units_of cells) valid a b
same_component units_of connectivity cells valid a b apart =
    let here = value_at-units_grid units_of cells a in (
      λ joined. joined_within connectivity (HasValue cells valid (value_at cells a)) (HasValue (units_grid units_of cells) valid (value_at (units_grid units_of cells) a)) (λ p has.
          let is = (same_cells units_of cells valid (value_at cells a) p apart).0 has in
          (is.0, is.1 ∙ sym here)) a b joined,
      λ joined. joined_within connectivity (HasValue (units_grid units_of cells) valid (value_at (units_grid units_of cells) a)) (HasValue cells valid (value_at cells a)) (λ p has. (same_cells units_of cells valid (value_at cells a) p apart).1 (has.0, has.1 ∙ here)) a b joined,
    )

same_first : {T : Type 0} (units_of : T → ℤ) (connectivity : Bool) (cells : Raster T) (valid : Raster Bool) (a : Place) → TellsApart units_of → IsFirst connectivity cells valid a ↔ IsFirst connectivity (units_grid units_of cells) valid a
same_first units_of connectivity cells valid a apart = (
  λ is. record { marked = is.marked; least = λ b joined. is.least b ((same_component units_of connectivity cells valid a b apart).1 joined) },
  λ is. record { marked = is.marked; least = λ b joined. is.least b ((same_component units_of connectivity cells valid a b apart).0 joined) },
)

-- so a labelling of the units is one of the cells
pub labelling_of_units : {T : Type 0} (units_of : T → ℤ) (connectivity : Bool) (cells : Raster T) (valid : Raster Bool) (regions : RegionTable) → TellsApart units_of → IsRaster cells → IsLabelling connectivity (units_grid units_of cells) valid regions → IsLabelling connectivity cells valid regions
labelling_of_units units_of connectivity cells valid regions apart shape is = record {
  mask = record { first = shape; second = is.mask.second; ncols = is.mask.ncols; nrows = is.mask.nrows };
  numbers = record { first = shape; second = is.numbers.second; ncols = is.numbers.ncols; nrows = is.numbers.nrows };
  first = λ k a at. (same_first units_of connectivity cells valid a apart).1 (is.first k a at);
  number = λ k a at. count_same (λ b. IsFirst connectivity (units_grid units_of cells) valid b × IsBefore b a) (λ b. IsFirst connectivity cells valid b × IsBefore b a) k (λ b. (λ h. ((same_first units_of connectivity cells valid b apart).1 h.0, h.1), λ h. ((same_first units_of connectivity cells valid b apart).0 h.0, h.1))) (is.number k a at);
  every = λ a first. is.every a ((same_first units_of connectivity cells valid a apart).0 first);
  valid_cells = is.valid_cells;
  region = λ k a p at. (
    λ in_k. (same_component units_of connectivity cells valid a p apart).1 ((is.region k a p at).0 in_k),
    λ joined. (is.region k a p at).1 ((same_component units_of connectivity cells valid a p apart).0 joined),
  );
  known = is.known;
  sized = is.sized;
  size = λ k a n at at_n. count_same (InComponent connectivity (units_grid units_of cells) valid a) (InComponent connectivity cells valid a) n (λ p. ((same_component units_of connectivity cells valid a p apart).1, (same_component units_of connectivity cells valid a p apart).0)) (is.size k a n at at_n);
}

-- the table of the runs is the same whatever the components
pub refilled : (cells : Raster ℤ) (valid : Raster Bool) (rows : RowRuns) (old new : RunLists) → IsTableOfCells cells valid (table_of rows old) → IsTableOfCells cells valid (table_of rows new)
refilled cells valid rows old new is = record {
  mask = is.mask;
  ncols = is.ncols;
  nrows = is.nrows;
  runs = is.runs;
  sized = is.sized;
  units = is.units;
}

-- the cells have the shape of their units
pub shape_of_units : {T : Type 0} (units_of : T → ℤ) (cells : Raster T) → IsRaster (units_grid units_of cells) → IsRaster cells
shape_of_units units_of cells shape = record {
  some_cols = shape.some_cols;
  some_rows = shape.some_rows;
  small = shape.small;
  height = sym (length-map cells.rows (map units_of)) ∙ shape.height;
  width = λ k d within.
      let row : slice_get (map (map units_of) cells.rows) k ≡ Some (map units_of (get_or cells.rows k d)) = slice_get-map (map units_of) cells.rows k ∙ ap (option_map (map units_of)) (slice_get-get_or cells.rows k d within) in
      let read : get_or (map (map units_of) cells.rows) k [] ≡ map units_of (get_or cells.rows k d) = get_or_from_slice_get (map (map units_of) cells.rows) k (map units_of (get_or cells.rows k d)) [] row in
      sym (length-map (get_or cells.rows k d) units_of) ∙ ap length (sym read) ∙ shape.width k [] (omega (arith, within, length-map cells.rows (map units_of)));
}

-- a table that is filled for the units is filled for the cells
pub filled_of_units : {T : Type 0} (units_of : T → ℤ) (connectivity : Bool) (cells : Raster T) (valid : Raster Bool) (table : TableOfRuns) → TellsApart units_of → IsFilled connectivity (units_grid units_of cells) valid table → IsFilled connectivity cells valid table
filled_of_units units_of connectivity cells valid table apart is = record {
  labelling = labelling_of_units units_of connectivity cells valid (regions_of table) apart (shape_of_units units_of cells is.labelling.mask.first) is.labelling;
  runs = is.runs;
}
