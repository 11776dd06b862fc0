-- Pieces of what is burned or marked, and how a list of runs grows.
use Rattle.std.specs.Prelude.{◌≡◌, ℕ, ◌-◌, ◌==◌, ◌&&◌, Bool, List, Some, length, slice_get}
use Rattle.cell_base.specs.Raster.{Place}
use Rattle.burn_scanline.specs.Runs.{Run}

abbrev pub is_at : Place → Place → Bool
is_at a p = (a.0 == p.0) && (a.1 == p.1)

-- the place is in a row, and the set holds it
abbrev pub is_in_row : ℕ → (Place → Bool) → Place → Bool
is_in_row row set p = (row == p.0) && set p

-- the run begins where the last one of the list ends
pub record GoesOn (run : Run) (runs : List Run) : Type 0 where
  pub last : Run
  pub at : slice_get runs (length runs - 1) ≡ Some last
  pub row : last.row ≡ run.row
  pub touches : last.to ≡ run.from
