-- The cells of a row that an edge meets: one stretch. This project's own.
use Rattle.std.specs.Prelude.{◌≡◌, ℕ, ℤ, ◌+◌, ◌<◌, ◌≤◌, ◌&&◌, int_lt, nat_le, nat_lt, max, min, pos, Bool, List}
use Rattle.geo_transform.specs.Corner.{corner_of}
use Rattle.geo_transform.specs.declared.frame.Frame.{Frame}
use Rattle.burn_scanline.specs.Ring.{Edge}
use Rattle.all_touched.specs.declared.columns.Columns.{Columns}
use Rattle.all_touched.specs.declared.columns.RisingEdge.{RisingEdge}
use Rattle.all_touched.specs.Touched.{is_met, meets_column, turn_at}

-- the ends of a rising edge
abbrev pub ends_of : RisingEdge → Edge
ends_of edge = (edge.low, edge.high)

-- columns from the one on and before the other
abbrev pub is_from_to : ℕ → ℕ → ℕ → Bool
is_from_to from to col = nat_le from col && nat_lt col to

-- from this column on the right side of the cells is past a width
pub record IsFirstPast (frame : Frame) (x : ℤ) (from : ℕ) : Type 0 where
  pub within : from ≤ frame.ncols
  pub at : (col : ℕ) → col < frame.ncols → int_lt x (corner_of frame 0 (col + 1)).0 ≡ nat_le from col

-- so many columns have the left side of their cells before a width
pub record IsEndBefore (frame : Frame) (x : ℤ) (to : ℕ) : Type 0 where
  pub within : to ≤ frame.ncols
  pub at : (col : ℕ) → col < frame.ncols → int_lt (corner_of frame 0 col).0 x ≡ nat_lt col to

-- the columns that the widths of an edge meet
pub record IsAcross (frame : Frame) (edge : Edge) (from to : ℕ) : Type 0 where
  pub from_within : from ≤ frame.ncols
  pub to_within : to ≤ frame.ncols
  pub at : (col : ℕ) → col < frame.ncols → meets_column frame edge col ≡ is_from_to from to col

-- from this column on the right side of the cells is, at a height, strictly right of a rising line
pub record IsFirstRight (frame : Frame) (edge : Edge) (y : ℤ) (from : ℕ) : Type 0 where
  pub within : from ≤ frame.ncols
  pub at : (col : ℕ) → col < frame.ncols
      → int_lt (turn_at edge ((corner_of frame 0 (col + 1)).0, y)) (pos 0) ≡ nat_le from col

-- so many columns have the left side of their cells, at a height, strictly left of a rising line
pub record IsEndLeft (frame : Frame) (edge : Edge) (y : ℤ) (to : ℕ) : Type 0 where
  pub within : to ≤ frame.ncols
  pub at : (col : ℕ) → col < frame.ncols
      → int_lt (pos 0) (turn_at edge ((corner_of frame 0 col).0, y)) ≡ nat_lt col to

-- of columns those whose cells have, at one height, their left side strictly left of a rising line, and at another their
-- right side strictly right of it
pub record AreBeside (frame : Frame) (edge : Edge) (left right : ℤ) (all some : Columns) : Type 0 where
  pub first : ℕ
  pub end : ℕ
  pub past : IsFirstRight frame edge right first
  pub before : IsEndLeft frame edge left end
  pub from : some.from ≡ max all.from first
  pub to : some.to ≡ min all.to end

-- the cells of a row that an edge meets
pub record IsStretch (frame : Frame) (edge : Edge) (row from to : ℕ) : Type 0 where
  pub from_within : from ≤ frame.ncols
  pub to_within : to ≤ frame.ncols
  pub at : (col : ℕ) → col < frame.ncols → is_met frame edge (row, col) ≡ is_from_to from to col
