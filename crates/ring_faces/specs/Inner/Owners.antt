-- How many runs begin at a cell or before it.
use Rattle.std.specs.Prelude.{◌≡◌, ℕ, ◌+◌, ◌≤◌, List, Some, length, slice_get}
use Rattle.cell_base.specs.Raster.{Place}
use Rattle.cell_base.specs.Order.{IsBefore}
use Rattle.region_label.specs.Run.{Run, first_cell}

-- the last of so many runs doesn't begin after the place, and the next one does
pub record AreUpTo (runs : List Run) (place : Place) (count : ℕ) : Type 0 where
  pub within : count ≤ length runs
  pub last : (i : ℕ) (run : Run) → i + 1 ≡ count → slice_get runs i ≡ Some run → ¬ IsBefore place (first_cell run)
  pub next : (run : Run) → slice_get runs count ≡ Some run → IsBefore place (first_cell run)
