-- How far the rows of a frame have been filled.
use Rattle.std.specs.Prelude.{◌≡◌, ℕ, ◌+◌, ◌%◌, ◌<◌, ◌≤◌, ◌==◌, ◌&&◌, ◌||◌, nat_le, nat_lt, Bool, List, All, count_by, length, slice_index, take, if◌then◌else◌}
use Rattle.cell_base.specs.Raster.{Place}
use Rattle.geo_transform.specs.Corner.{centre2_of}
use Rattle.geo_transform.specs.declared.frame.Frame.{Frame}
use Rattle.wkt_text.specs.declared.geometry.Geometry.{Geometry}
use Rattle.burn_scanline.specs.Centre.{counts, counts_up, doubled, is_covered}
use Rattle.burn_scanline.specs.Runs.{Run, AreWithin, EndBefore, is_in_runs}
use Rattle.burn_scanline.specs.EdgeTable.{SpannedEdge, edge_of}
use Rattle.burn_scanline.specs.Inner.Crossing.{IsActive}
use Rattle.burn_scanline.specs.declared.crossing.ActiveEdge.{ActiveEdge}

-- an edge of the table counts for a centre
abbrev pub counts_at : Frame → ℕ → ℕ → SpannedEdge → Bool
counts_at frame row col edge = counts (centre2_of frame row col) (edge_of edge)

-- an edge that was taken in has the row, and counts for a centre in it
abbrev pub passes : Frame → ℕ → ℕ → ActiveEdge → Bool
passes frame row col edge = nat_le row edge.last && counts_up (centre2_of frame row col) (doubled edge.low) (doubled edge.high)

-- each edge has the row
abbrev pub AreActive : Frame → ℕ → List ActiveEdge → Type 0
AreActive frame row active = All (IsActive frame row) active

-- from a row on, as many of these edges count as of those in the table that begin before another row
abbrev pub CountAlike : Frame → ℕ → ℕ → List SpannedEdge → List ActiveEdge → Type 0
CountAlike frame row entered edges active = (r col : ℕ) → row ≤ r → r < frame.nrows → col < frame.ncols
    → count_by (passes frame r col) active ≡ count_by (λ edge. nat_lt edge.first entered && counts_at frame r col edge) edges

-- the edges that begin before a row have been taken in, and those that ended before the other are gone
pub record AreTaken (frame : Frame) (row entered : ℕ) (edges : List SpannedEdge) (active : List ActiveEdge) : Type 0 where
  pub each : AreActive frame row active
  pub alike : CountAlike frame row entered edges active

abbrev pub IsSorted : List ℕ → Type 0
IsSorted columns = (i j : ℕ) → i ≤ j → j < length columns → slice_index columns i ≤ slice_index columns j

abbrev pub AreColumnsBelow : ℕ → List ℕ → Type 0
AreColumnsBelow ncols columns = (i : ℕ) → i < length columns → slice_index columns i ≤ ncols

-- the end of the run that begins at a column: the next column, or behind the last one the end of the row
abbrev pub end_of : ℕ → List ℕ → ℕ → ℕ
end_of ncols columns at = if nat_lt (at + 1) (length columns) then slice_index columns (at + 1) else ncols

-- the columns of the edges in a row: as many are at or left of a cell as edges count for its centre
pub record AreColumns (frame : Frame) (row : ℕ) (active : List ActiveEdge) (columns : List ℕ) : Type 0 where
  pub sorted : IsSorted columns
  pub within : AreColumnsBelow frame.ncols columns
  pub counts : (col : ℕ) → col < frame.ncols → count_by (λ x. nat_le x col) columns ≡ count_by (passes frame row col) active

abbrev pub is_odd : ℕ → Bool
is_odd n = (n % 2) == 1

-- an odd number of the columns is at or left of the place, which is in the row
abbrev pub is_filled : ℕ → ℕ → List ℕ → Place → Bool
is_filled row ncols columns p = (row == p.0) && (nat_lt p.1 ncols && is_odd (count_by (λ x. nat_le x p.1) columns))

-- the cells of a row were added, by the columns before one
pub record FillsTo (row ncols : ℕ) (columns : List ℕ) (at : ℕ) (old new : List Run) : Type 0 where
  pub even : at % 2 ≡ 0
  pub cells : (p : Place) → is_in_runs new p ≡ (is_in_runs old p || is_filled row ncols (take at columns) p)
  pub ends : at < length columns → EndBefore (row, slice_index columns at) new
  pub below : EndBefore (row + 1, 0) new
  pub within : (nrows : ℕ) → row < nrows → AreWithin nrows ncols old → AreWithin nrows ncols new

-- the cells of a row were added
pub record FillsRow (row ncols : ℕ) (columns : List ℕ) (old new : List Run) : Type 0 where
  pub cells : (p : Place) → is_in_runs new p ≡ (is_in_runs old p || is_filled row ncols columns p)
  pub ends : EndBefore (row + 1, 0) new
  pub within : (nrows : ℕ) → row < nrows → AreWithin nrows ncols old → AreWithin nrows ncols new

-- the covered cells of the rows before one are in the runs
pub record AreCovered (frame : Frame) (g : Geometry) (row : ℕ) (runs : List Run) : Type 0 where
  pub cells : (p : Place) → p.0 < frame.nrows → p.1 < frame.ncols → is_in_runs runs p ≡ (nat_lt p.0 row && is_covered frame g p)
  pub ends : EndBefore (row, 0) runs
  pub within : AreWithin frame.nrows frame.ncols runs
