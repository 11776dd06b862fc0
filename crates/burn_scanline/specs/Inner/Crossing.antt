-- Where edges are among the centres of a frame.
use Rattle.std.specs.Prelude.{◌≡◌, ℕ, ◌+◌, ◌<◌, ◌≤◌, ℤ, ◌-ℤ◌, ◌*ℤ◌, pos, unsigned_abs, int_le, int_lt, nat_le, nat_lt, Bool, true, Some}
use Rattle.geo_transform.specs.Corner.{centre2_of, corner_of}
use Rattle.geo_transform.specs.declared.frame.Frame.{Frame}
use Rattle.wkt_text.specs.declared.geometry.Pt.{Pt}
use Rattle.burn_scanline.specs.Steps.{IsLeastSteps}
use Rattle.burn_scanline.specs.Centre.{counts, counts_up, doubled, is_between, is_left}
use Rattle.burn_scanline.specs.EdgeTable.{SpannedEdge}
use Rattle.burn_scanline.specs.declared.crossing.ActiveEdge.{ActiveEdge}
use Rattle.burn_scanline.specs.declared.edge_rows.SpanRule.{SpanRule}
use Rattle.burn_scanline.specs.declared.edge_rows.SpanRule.TheVariants.{Centre, Strip}
use Rattle.burn_scanline.specs.declared.crossing.Slant.{Slant}

-- no number of a slant is larger
pub record IsAtMost (n : ℕ) (slant : Slant) : Type 0 where
  pub along : unsigned_abs slant.along ≤ n
  pub rise : unsigned_abs slant.rise ≤ n
  pub above : unsigned_abs slant.above ≤ n
  pub ahead : unsigned_abs slant.ahead ≤ n
  pub step : unsigned_abs slant.step ≤ n

-- the first column whose centre is at the edge or right of it
abbrev pub HasColumn : Slant → ℕ → ℕ → Type 0
HasColumn slant ncols column = IsLeastSteps (slant.along *ℤ slant.above -ℤ slant.ahead *ℤ slant.rise) (slant.step *ℤ slant.rise) ncols column

-- the rows before one have their centres at this height or above, and the others don't
pub record AreRowsAbove (frame : Frame) (y : ℤ) (rows : ℕ) : Type 0 where
  pub within : rows ≤ frame.nrows
  pub at : (row : ℕ) → row < frame.nrows → int_le (pos 2 *ℤ y) (centre2_of frame row 0).1 ≡ nat_lt row rows

-- the rows from one on have the lower side of their cells below this height, and the rows before another have the upper
-- side of theirs above it
pub record AreStripRows (frame : Frame) (y : ℤ) (first end : ℕ) : Type 0 where
  pub within : end ≤ frame.nrows
  pub above : (row : ℕ) → row < frame.nrows → int_lt (corner_of frame (row + 1) 0).1 y ≡ nat_le first row
  pub below : (row : ℕ) → row < frame.nrows → int_lt y (corner_of frame row 0).1 ≡ nat_lt row end

-- from which row on, and before which, an edge has rows on account of an end at this height
abbrev pub AreRowsAt : SpanRule → Frame → ℤ → ℕ → ℕ → Type 0
AreRowsAt Centre frame y first end = AreRowsAbove frame y first × (end ≡ first)
AreRowsAt Strip frame y first end = AreStripRows frame y first end

-- in this row the centres from a column on are at the edge or right of it, and the others aren't
pub record IsColumnAt (frame : Frame) (low high : Pt) (row column : ℕ) : Type 0 where
  pub within : column ≤ frame.ncols
  pub at : (col : ℕ) → col < frame.ncols → is_left (centre2_of frame row col) (doubled low) (doubled high) ≡ nat_le column col

-- the edge from its lower end up is at the heights of the row's centres
abbrev pub is_beside : Frame → Pt → Pt → ℕ → Bool
is_beside frame low high row = is_between (centre2_of frame row 0) (doubled low) (doubled high)

-- an upright edge has this column in each of its rows
abbrev pub IsUprightAt : Frame → ℤ → ℕ → Type 0
IsUprightAt frame x column = (low high : Pt) (row : ℕ) → low.x ≡ x → high.x ≡ x → is_beside frame low high row ≡ true
    → IsColumnAt frame low high row column

-- from this row to its last one the edge is at the heights of the centres, and an upright one has its column
pub record IsActive (frame : Frame) (row : ℕ) (edge : ActiveEdge) : Type 0 where
  pub current : row ≤ edge.last
  pub within : edge.last < frame.nrows
  pub beside : (r : ℕ) → row ≤ r → r ≤ edge.last → is_beside frame edge.low edge.high r ≡ true
  pub upright : (column r : ℕ) → edge.upright ≡ Some column → row ≤ r → r ≤ edge.last
      → IsColumnAt frame edge.low edge.high r column

-- an edge of the table, by its lower and its upper end, counts where it counted, in the same rows
pub record IsTakenFrom (frame : Frame) (edge : SpannedEdge) (taken : ActiveEdge) : Type 0 where
  pub last : taken.last ≡ edge.last
  pub active : IsActive frame edge.first taken
  pub counts : (p : ℤ × ℤ) → counts_up p (doubled taken.low) (doubled taken.high) ≡ counts p (edge.start, edge.end)
