-- Where the writing of a grid stands.
use Rattle.std.specs.Prelude.{ℕ, ◌<◌, ◌≤◌, List}
use Rattle.cell_base.specs.Raster.{Raster}
use Rattle.asc_grid.specs.Inner.Rest.{rows_rest}
use Rattle.asc_grid.specs.declared.write.Next.{Next}

-- a cell of the grid, or the start of the row past the last one
pub record IsNext {T : Type 0} (cells : Raster T) (next : Next) : Type 0 where
  pub row : next.row ≤ cells.nrows
  pub col : next.col < cells.ncols

-- the rest of the grid's rows, from a cell on
abbrev pub rows_from : {T : Type 0} → (T → List ℕ) → Raster T → Next → List ℕ
rows_from spell cells next = rows_rest spell cells.rows next.row next.col
