-- Pieces of rows that may overlap. This project's own.
use Rattle.std.specs.Prelude.{◌≡◌, ℕ, ◌+◌, ◌*◌, ◌<◌, ◌≤◌, ◌^◌, ◌==◌, ◌||◌, if◌then◌else◌, max, All, Bool, true, List, Some, take, slice_get}
use Rattle.std.specs.List.{list_any}
use Rattle.std.specs.List.Sorted.{IsNonDecreasingBy}
use Rattle.cell_base.specs.Raster.{Place}
use Rattle.geo_transform.specs.declared.frame.Frame.{Frame}
use Rattle.wkt_text.specs.declared.geometry.Geometry.{Geometry}
use Rattle.burn_scanline.specs.Ring.{Edge}
use Rattle.burn_scanline.specs.EdgeTable.{edge_of}
use Rattle.burn_scanline.specs.declared.edge_rows.SpannedEdge.{SpannedEdge}
use Rattle.burn_scanline.specs.Runs.{Run, EndBefore, AreWithin, is_in_runs}
use Rattle.all_touched.specs.Touched.{is_met, is_touched}

-- pieces by row, then by first column
abbrev pub key_of : Run → ℕ
key_of piece = piece.row * 2 ^ 32 + piece.from

abbrev pub AreOrdered : List Run → Type 0
AreOrdered pieces = IsNonDecreasingBy key_of pieces

-- all pieces are in so many rows and columns
abbrev pub AreInside : ℕ → ℕ → List Run → Type 0
AreInside nrows ncols pieces = All (λ piece. (piece.row < nrows) × (piece.from ≤ ncols) × (piece.to ≤ ncols)) pieces

-- the same cells, and as far inside
pub record HasPieces (old new : List Run) : Type 0 where
  pub cells : (p : Place) → is_in_runs new p ≡ is_in_runs old p
  pub inside : (nrows ncols : ℕ) → AreInside nrows ncols old → AreInside nrows ncols new

-- cells of the frame were added
pub record Adds (frame : Frame) (set : Place → Bool) (old new : List Run) : Type 0 where
  pub cells : (p : Place) → p.0 < frame.nrows → p.1 < frame.ncols → is_in_runs new p ≡ (is_in_runs old p || set p)
  pub inside : AreInside frame.nrows frame.ncols old → AreInside frame.nrows frame.ncols new

-- the cells that an edge meets were added, and those that the edges of a table meet

abbrev pub AddsMet : Frame → Edge → List Run → List Run → Type 0
AddsMet frame edge old new = Adds frame (λ p. is_met frame edge p) old new

abbrev pub AddsTable : Frame → List SpannedEdge → List Run → List Run → Type 0
AddsTable frame table old new = Adds frame (λ p. list_any (λ edge. is_met frame (edge_of edge) p) table) old new

-- columns are small enough for a key
abbrev pub AreSmall : List Run → Type 0
AreSmall pieces = All (λ piece. piece.from < 2 ^ 32) pieces

-- the pieces have the cells that a geometry touches, in order
pub record AreGathered (frame : Frame) (g : Geometry) (pieces : List Run) : Type 0 where
  pub cells : (p : Place) → p.0 < frame.nrows → p.1 < frame.ncols → is_in_runs pieces p ≡ is_touched frame g p
  pub inside : AreInside frame.nrows frame.ncols pieces
  pub order : AreOrdered pieces

-- the first column of a piece that is not filled yet, where a row is filled up to a column
abbrev pub start_of : Run → ℕ → ℕ → ℕ
start_of piece row end = if piece.row == row then max piece.from end else piece.from

-- the runs have the cells of the pieces, and are as far inside
pub record Unites (pieces runs : List Run) : Type 0 where
  pub cells : (p : Place) → is_in_runs runs p ≡ is_in_runs pieces p
  pub within : (nrows ncols : ℕ) → AreInside nrows ncols pieces → AreWithin nrows ncols runs

-- the runs have the cells of the first pieces; they end before a place, up to which the last piece's row is filled
pub record AreUnited (pieces : List Run) (i row end : ℕ) (runs : List Run) : Type 0 where
  pub cells : (p : Place) → is_in_runs runs p ≡ is_in_runs (take i pieces) p
  pub ends : EndBefore (row, end) runs
  pub later : (j : ℕ) (piece : Run) → i ≤ j → slice_get pieces j ≡ Some piece → row ≤ piece.row
  pub filled : (j : ℕ) (piece : Run) (col : ℕ) → i ≤ j → slice_get pieces j ≡ Some piece → piece.row ≡ row → piece.from ≤ col
      → col < end → is_in_runs runs (row, col) ≡ true
  pub within : (nrows ncols : ℕ) → AreInside nrows ncols pieces → AreWithin nrows ncols runs × (end ≤ ncols)
