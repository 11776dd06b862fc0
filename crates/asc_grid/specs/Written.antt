-- A grid that can be written: one over a frame, of values of its type.
use Rattle.std.specs.Prelude.{◌≡◌, ℤ, ◌≤ℤ◌, IfSome, All}
use Rattle.cell_base.specs.Raster.{IsRaster}
use Rattle.geo_transform.specs.Frame.{IsFrame}
use Rattle.asc_grid.specs.declared.grid.Asc.{Asc}

-- the value has a number of units between these ends
pub record IsBetween {T : Type 0} (units : T → ℤ) (least greatest : ℤ) (value : T) : Type 0 where
  pub low : least ≤ℤ units value
  pub high : units value ≤ℤ greatest

pub record IsGrid {T : Type 0} (units : T → ℤ) (least greatest : ℤ) (asc : Asc T) : Type 0 where
  pub frame : IsFrame asc.frame
  pub raster : IsRaster asc.cells
  pub ncols : asc.cells.ncols ≡ asc.frame.ncols
  pub nrows : asc.cells.nrows ≡ asc.frame.nrows
  pub values : All (All (IsBetween units least greatest)) asc.cells.rows
  pub nodata : IfSome asc.nodata (IsBetween units least greatest)
