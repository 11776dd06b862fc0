-- A grid of values as contracts see it, and its places.
use Rattle.std.specs.Prelude.{◌≡◌, ◌≢◌, ℕ, zero, suc, ◌*◌, ◌<◌, ◌≤◌, List, [], ◌∷◌, Option, Some, length, take, drop, slice_get, unwrap_or, All}
pub use Rattle.fixed_coord.specs.Limits.{most_cells}

-- a place of a grid: its row, counted from the top, and its column, counted from the left
abbrev pub Place : Type 0
Place = ℕ × ℕ

-- a grid's size, and its rows from the top
pub record Raster (T : Type 0) : Type 0 where
  pub ncols : ℕ
  pub nrows : ℕ
  pub rows : List (List T)

-- the value at a place, if the place is inside
abbrev pub value_at : {T : Type 0} → Raster T → Place → Option T
value_at grid place = slice_get (unwrap_or (slice_get grid.rows place.0) []) place.1

-- the place is inside
abbrev pub IsInside : {T : Type 0} → Raster T → Place → Type 0
IsInside grid place = (place.0 < grid.nrows) × (place.1 < grid.ncols)

-- as many rows as it says, each as long as it says, and neither none nor too many cells
pub record IsRaster {T : Type 0} (grid : Raster T) : Type 0 where
  pub some_cols : 0 < grid.ncols
  pub some_rows : 0 < grid.nrows
  pub small : grid.ncols * grid.nrows ≤ most_cells
  pub height : length grid.rows ≡ grid.nrows
  pub width : All (λ row. length row ≡ grid.ncols) grid.rows

-- two grids of one size
pub record AreAligned {A B : Type 0} (a : Raster A) (b : Raster B) : Type 0 where
  pub first : IsRaster a
  pub second : IsRaster b
  pub ncols : b.ncols ≡ a.ncols
  pub nrows : b.nrows ≡ a.nrows

-- the rows that a list of cells makes, row after row
abbrev pub rows_of : {T : Type 0} → ℕ → ℕ → List T → List (List T)
rows_of ncols zero cells = []
rows_of ncols (suc nrows) cells = take ncols cells ∷ rows_of ncols nrows (drop ncols cells)

-- the grid of that size that a list of cells makes
abbrev pub raster_of : {T : Type 0} → ℕ → ℕ → List T → Raster T
raster_of ncols nrows cells = record { ncols = ncols; nrows = nrows; rows = rows_of ncols nrows cells }

-- one place has this value, and every other the value that it had
pub record SetsPlace {T : Type 0} (old new : Raster T) (place : Place) (value : T) : Type 0 where
  pub ncols : new.ncols ≡ old.ncols
  pub nrows : new.nrows ≡ old.nrows
  pub shape : IsRaster new
  pub set : value_at new place ≡ Some value
  pub others : (q : Place) → q ≢ place → value_at new q ≡ value_at old q
