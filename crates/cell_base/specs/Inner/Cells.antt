-- The flat vector inside a grid.
use Rattle.std.specs.Prelude.{◌≡◌, ℕ, ◌*◌, ◌<◌, ◌≤◌, List, length}
use Rattle.cell_base.specs.Raster.{most_cells}

-- one value for each place of a grid of this size
pub record HasCellForEachPlace {T : Type 0} (ncols nrows : ℕ) (cells : List T) : Type 0 where
  pub some_cols : 0 < ncols
  pub some_rows : 0 < nrows
  pub small : ncols * nrows ≤ most_cells
  pub count : length cells ≡ ncols * nrows
