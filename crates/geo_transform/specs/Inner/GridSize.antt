-- How many columns and rows a grid may have.
use Rattle.std.specs.Prelude.{◌≡◌, ℕ, ◌*◌, ◌<◌, ◌≤◌, Some}
use Rattle.fixed_coord.specs.Limits.{most_cells}
use Rattle.geo_transform.specs.Layout.{Layout}
use Rattle.geo_transform.specs.Fault.{fault_of}
use Rattle.geo_transform.specs.declared.fault.FrameFault.{FrameFault}

-- there are cells, and not too many
pub record IsGridSize (ncols nrows : ℕ) : Type 0 where
  pub some_cols : 0 < ncols
  pub some_rows : 0 < nrows
  pub few_cells : ncols * nrows ≤ most_cells

-- the first fault of any layout of so many columns and rows
abbrev pub IsFaultOfSize : ℕ → ℕ → FrameFault → Type 0
IsFaultOfSize ncols nrows fault = (l : Layout) → l.ncols ≡ ncols → l.nrows ≡ nrows → fault_of l ≡ Some fault
