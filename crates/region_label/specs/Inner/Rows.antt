-- The runs of a grid by rows, and how far they have been found.
use Rattle.std.specs.Prelude.{◌≡◌, ◌≢◌, ℕ, ◌+◌, ◌*◌, ◌<◌, ◌≤◌, ◌⊎◌, ◌↔◌, ℤ, Bool, true, List, Some, length, map, slice_get, slice_index}
use Rattle.cell_base.specs.Raster.{Place, Raster, AreAligned, most_cells}
use Rattle.cell_base.specs.Order.{IsBefore}
use Rattle.region_label.specs.Component.{HasValue}
use Rattle.region_label.specs.Run.{Run, IsCellOf, IsRunBefore, IsRunIn}
use Rattle.region_label.specs.declared.rows.RunNote.{RunNote}

-- the units of the runs with these notes
abbrev pub noted_units : List RunNote → List ℤ
noted_units notes = map (λ note. note.units) notes

-- the runs lie inside, in order, and the starts tell where each row's runs begin and end
pub record AreInRows (ncols nrows : ℕ) (runs : List Run) (units : List ℤ) (starts : List ℕ) : Type 0 where
  pub narrow : ncols ≤ most_cells
  pub low : nrows ≤ most_cells
  pub few : length runs ≤ most_cells
  pub sized : length units ≡ length runs
  pub inside : (i : ℕ) (run : Run) → slice_get runs i ≡ Some run
      → (run.row < nrows) × (run.from < run.to) × (run.to ≤ ncols)
  pub order : (i j : ℕ) (a b : Run) → i < j → slice_get runs i ≡ Some a → slice_get runs j ≡ Some b → IsRunBefore a b
  pub rows : length starts ≡ nrows + 1
  pub within : (r : ℕ) → slice_index starts r ≤ length runs
  pub below : (r i : ℕ) (run : Run) → r ≤ nrows → slice_get runs i ≡ Some run
      → (i < slice_index starts r) ↔ (run.row < r)

-- the run ends before a place
abbrev pub EndsBefore : Run → Place → Type 0
EndsBefore run place = (run.row < place.0) ⊎ ((run.row ≡ place.0) × (run.to ≤ place.1))

-- the runs before a place have been found
pub record AreFound {T : Type 0} (units_of : T → ℤ) (cells : Raster T) (valid : Raster Bool) (runs : List Run)
    (units : List ℤ) (place : Place) : Type 0 where
  pub mask : AreAligned cells valid
  pub sized : length units ≡ length runs
  pub each : (i : ℕ) (run : Run) → slice_get runs i ≡ Some run
      → (value : T) × (slice_get units i ≡ Some (units_of value)) × IsRunIn (HasValue cells valid (Some value)) run
  pub every : (value : T) (p : Place) → HasValue cells valid (Some value) p → IsBefore p place
      → (i : ℕ) × (run : Run) × (slice_get runs i ≡ Some run) × IsCellOf run p
  pub order : (i j : ℕ) (a b : Run) → i < j → slice_get runs i ≡ Some a → slice_get runs j ≡ Some b → IsRunBefore a b
  pub before : (i : ℕ) (run : Run) → slice_get runs i ≡ Some run → EndsBefore run place
  -- no run goes on at the place
  pub apart : (value : T) (col : ℕ) → col + 1 ≡ place.1 → HasValue cells valid (Some value) (place.0, col)
      → ¬ HasValue cells valid (Some value) place
  pub few : length runs ≤ place.0 * cells.ncols + place.1

-- the starts of the rows before one, and of this row
pub record AreStarts (runs : List Run) (starts : List ℕ) (row : ℕ) : Type 0 where
  pub rows : length starts ≡ row
  pub within : (r : ℕ) → slice_index starts r ≤ length runs
  pub below : (r i : ℕ) (run : Run) → r < row → slice_get runs i ≡ Some run
      → (i < slice_index starts r) ↔ (run.row < r)

-- a cell that is valid
abbrev pub IsValidAt : List Bool → ℕ → Type 0
IsValidAt valid col = slice_get valid col ≡ Some true

-- the run that begins at a column of a row ends at another
pub record EndsAt {T : Type 0} (cells : List T) (valid : List Bool) (from to : ℕ) : Type 0 where
  pub some : from < to
  pub inside : to ≤ length cells
  pub same : (col : ℕ) → from ≤ col → col < to → IsValidAt valid col × (slice_get cells col ≡ slice_get cells from)
  pub end : IsValidAt valid to → slice_get cells to ≢ slice_get cells from

-- of the runs of a row, this is the first that ends past a column
pub record IsFirstPast (runs : List Run) (starts : List ℕ) (row col at : ℕ) : Type 0 where
  pub from : slice_index starts row ≤ at
  pub to : at ≤ slice_index starts (row + 1)
  pub before : (i : ℕ) (run : Run) → slice_get runs i ≡ Some run → slice_index starts row ≤ i → i < at → run.to ≤ col
  pub past : (i : ℕ) (run : Run) → slice_get runs i ≡ Some run → at ≤ i → i < slice_index starts (row + 1) → col < run.to
