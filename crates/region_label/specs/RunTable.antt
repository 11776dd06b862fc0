-- A table of the runs of a grid's cells, and of the components that they are in.
use Rattle.std.specs.Prelude.{◌≡◌, ℕ, ◌-◌, ◌<◌, ◌≤◌, ◌==◌, ◌&&◌, ◌↔◌, ℤ, Bool, List, [], Option, Some, None, map, length, nat_le, nat_lt, option_and_then, position, slice_get, slice_index, sum_by, unwrap_or}
use Rattle.std.specs.List.{range_with_len}
use Rattle.cell_base.specs.Raster.{Place, Raster, AreAligned, most_cells, value_at}
use Rattle.region_label.specs.Component.{HasValue}
use Rattle.region_label.specs.Count.{IsListOf}
use Rattle.region_label.specs.Labelling.{RegionTable, IsInRegion, IsLabelling}
use Rattle.region_label.specs.Run.{Run, AreRuns, IsRunBefore, first_cell}

-- the runs by row and column, with each the units of its cells' value, and its component by the last fill, if there
-- was one; and by component its runs, as indices into the list of runs, in the order in which they are handed out
pub record TableOfRuns : Type 0 where
  pub ncols : ℕ
  pub nrows : ℕ
  pub runs : List Run
  pub units : List ℤ
  pub components : List (Option ℕ)
  pub lists : List (List ℕ)

-- a grid with the units of each value
abbrev pub units_grid : {T : Type 0} → (T → ℤ) → Raster T → Raster ℤ
units_grid units_of cells = record { ncols = cells.ncols; nrows = cells.nrows; rows = map (map units_of) cells.rows }

-- the table has the runs of equal valid cells, where the cells are seen by their units
pub record IsTableOfCells (cells : Raster ℤ) (valid : Raster Bool) (table : TableOfRuns) : Type 0 where
  pub mask : AreAligned cells valid
  pub ncols : table.ncols ≡ cells.ncols
  pub nrows : table.nrows ≡ cells.nrows
  pub runs : AreRuns (λ units. HasValue cells valid (Some units)) table.runs
  pub sized : length table.units ≡ length table.runs
  pub units : (i : ℕ) (run : Run) → slice_get table.runs i ≡ Some run
      → value_at cells (first_cell run) ≡ slice_get table.units i

-- the table has the runs of these components, each with its number, and the list of each component has its runs, each
-- once
pub record IsTableOfRegions (regions : RegionTable) (table : TableOfRuns) : Type 0 where
  pub ncols : table.ncols ≡ regions.numbers.ncols
  pub nrows : table.nrows ≡ regions.numbers.nrows
  pub runs : AreRuns (IsInRegion regions) table.runs
  pub numbered : length table.components ≡ length table.runs
  pub number : (i k : ℕ) (run : Run) → slice_get table.runs i ≡ Some run
      → (slice_get table.components i ≡ Some (Some k)) ↔ IsInRegion regions k (first_cell run)
  pub known : (i k : ℕ) → slice_get table.components i ≡ Some (Some k) → k < length regions.firsts
  pub count : length table.lists ≡ length regions.firsts
  pub list : (k : ℕ) (list : List ℕ) → slice_get table.lists k ≡ Some list
      → IsListOf (λ i. slice_get table.components i ≡ Some (Some k)) list

-- a run of a table by its index
abbrev pub run_at : TableOfRuns → ℕ → Run
run_at table i = unwrap_or (slice_get table.runs i) (record { row = 0; from = 0; to = 0 })

-- the runs of a component
abbrev pub runs_of : TableOfRuns → ℕ → List Run
runs_of table k = map (run_at table) (unwrap_or (slice_get table.lists k) [])

-- the number of the run with this cell
abbrev pub number_at : TableOfRuns → Place → Option ℕ
number_at table p =
    let has_cell = λ (run : Run). (run.row == p.0) && (nat_le run.from p.1 && nat_lt p.1 run.to) in
    unwrap_or (option_and_then (slice_get table.components) (position has_cell table.runs)) None

-- the components as a table: the number of each cell, and by numbers the first cell of the first run and the number of
-- cells of all runs
abbrev pub regions_of : TableOfRuns → RegionTable
regions_of table = record {
  numbers = record {
    ncols = table.ncols;
    nrows = table.nrows;
    rows = map (λ r. map (λ c. number_at table (r, c)) (range_with_len 0 table.ncols)) (range_with_len 0 table.nrows);
  };
  firsts = map (λ list. first_cell (run_at table (slice_index list 0))) table.lists;
  sizes = map (λ list. sum_by (λ i. (run_at table i).to - (run_at table i).from) list) table.lists;
}

-- the table was filled at a connectivity: its components are those of the cells
pub record IsFilled {T : Type 0} (connectivity : Bool) (cells : Raster T) (valid : Raster Bool)
    (table : TableOfRuns) : Type 0 where
  pub labelling : IsLabelling connectivity cells valid (regions_of table)
  pub runs : IsTableOfRegions (regions_of table) table

-- the runs stay, whatever happens to the components
pub record KeepsRuns (old new : TableOfRuns) : Type 0 where
  pub ncols : new.ncols ≡ old.ncols
  pub nrows : new.nrows ≡ old.nrows
  pub runs : new.runs ≡ old.runs
  pub units : new.units ≡ old.units

-- the runs of a row begin at this index
abbrev pub BeginsRow : TableOfRuns → ℕ → ℕ → Type 0
BeginsRow table row start = (i : ℕ) (run : Run) → slice_get table.runs i ≡ Some run → (i < start) ↔ (run.row < row)

-- the runs of a table lie inside the grid, in order
pub record AreInside (table : TableOfRuns) : Type 0 where
  pub narrow : table.ncols ≤ most_cells
  pub inside : (i : ℕ) (run : Run) → slice_get table.runs i ≡ Some run
      → (run.row < table.nrows) × (run.from < run.to) × (run.to ≤ table.ncols)
  pub order : (i j : ℕ) (a b : Run) → i < j → slice_get table.runs i ≡ Some a → slice_get table.runs j ≡ Some b
      → IsRunBefore a b
