-- A grid of values and which of its cells are valid.
use Rattle.std.specs.Prelude.{ℤ, Bool}
use Rattle.cell_base.specs.Raster.{Raster}

pub record Elevation : Type 0 where
  pub cells : Raster ℤ
  pub valid : Raster Bool
