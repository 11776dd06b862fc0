-- Lists of runs of cells. This project's own.
use Rattle.std.specs.Prelude.{◌≡◌, ℕ, ◌<◌, ◌≤◌, ◌⊎◌, ◌==◌, ◌&&◌, ◌||◌, nat_le, nat_lt, Bool, List, Some, slice_get}
use Rattle.std.specs.List.{list_any}
use Rattle.cell_base.specs.Raster.{Place}
use Rattle.geo_transform.specs.declared.frame.Frame.{Frame}
use Rattle.wkt_text.specs.declared.geometry.Geometry.{Geometry}
use Rattle.burn_scanline.specs.Centre.{is_covered}
pub use Rattle.cell_base.specs.declared.run.Run.{Run}

-- the cell is one of the run
abbrev pub has_cell : Place → Run → Bool
has_cell p run = (run.row == p.0) && (nat_le run.from p.1 && nat_lt p.1 run.to)

-- the cell is in one of the runs
abbrev pub is_in_runs : List Run → Place → Bool
is_in_runs runs p = list_any (has_cell p) runs

-- the first run is in an earlier row, or in the same row with a cell between the two
abbrev pub IsApart : Run → Run → Type 0
IsApart a b = (a.row < b.row) ⊎ ((a.row ≡ b.row) × (a.to < b.from))

-- runs by row and column, of which none is empty, and no two have a cell in common or touch in a row
pub record AreApart (runs : List Run) : Type 0 where
  pub some : (i : ℕ) (run : Run) → slice_get runs i ≡ Some run → run.from < run.to
  pub order : (i j : ℕ) (a b : Run) → i < j → slice_get runs i ≡ Some a → slice_get runs j ≡ Some b → IsApart a b

-- all cells of the runs are in so many rows and columns
abbrev pub AreWithin : ℕ → ℕ → List Run → Type 0
AreWithin nrows ncols runs = (i : ℕ) (run : Run) → slice_get runs i ≡ Some run
    → (run.row < nrows) × (run.to ≤ ncols)

-- no run has a cell at this place or behind it, by row and column
abbrev pub EndBefore : Place → List Run → Type 0
EndBefore place runs = (i : ℕ) (run : Run) → slice_get runs i ≡ Some run
    → (run.row < place.0) ⊎ ((run.row ≡ place.0) × (run.to ≤ place.1))

-- the cells of a run were added, and nothing behind them
pub record AddsCells (run : Run) (old new : List Run) : Type 0 where
  pub cells : (p : Place) → is_in_runs new p ≡ (is_in_runs old p || has_cell p run)
  pub ends : run.from ≤ run.to → EndBefore (run.row, run.to) new
  pub within : (nrows ncols : ℕ) → AreWithin nrows ncols old → run.row < nrows → run.to ≤ ncols
      → AreWithin nrows ncols new

-- of a frame's cells those in the runs are the ones that a geometry covers by the centre rule
abbrev pub Covers : Frame → Geometry → List Run → Type 0
Covers frame g runs = (p : Place) → p.0 < frame.nrows → p.1 < frame.ncols
    → is_in_runs runs p ≡ is_covered frame g p
