-- What holds of the segments of every level.
use Rattle.std.specs.Prelude.{◌≡◌, ◌≢◌, ℤ, ◌+◌, ◌<◌, Bool, true, false, AllPairs, Contains}
use Rattle.cell_base.specs.Raster.{Place, Raster}
use Rattle.contour_segments.specs.Segments.{cross_on, has_corners, is_high, segments_of}
use Rattle.contour_segments.specs.declared.segment.Segment.{Segment}
use Rattle.contour_segments.specs.declared.side.Side.{Side}
use Rattle.contour_segments.specs.declared.side.Side.TheVariants.{Top, Right, Bottom, Left}

-- at each crossing at most one segment of the level starts, and at most one ends
pub record CrossOnce (cells : Raster ℤ) (valid : Raster Bool) (level : ℤ) : Type 0 where
  pub starts : AllPairs (λ s t. s.from ≢ t.from) (segments_of cells valid level)
  pub ends : AllPairs (λ s t. s.to ≢ t.to) (segments_of cells valid level)

-- the corner on the right of one who comes into a lattice cell over a side, seen with y upwards, and the one on the
-- left
abbrev pub right_corner : Place → Side → Place
right_corner (r, c) Top = (r, c)
right_corner (r, c) Right = (r, c + 1)
right_corner (r, c) Bottom = (r + 1, c + 1)
right_corner (r, c) Left = (r + 1, c)

abbrev pub left_corner : Place → Side → Place
left_corner (r, c) Top = (r, c + 1)
left_corner (r, c) Right = (r + 1, c + 1)
left_corner (r, c) Bottom = (r + 1, c)
left_corner (r, c) Left = (r, c)

-- of the two corners of a side just the one is high: on the right of one who comes in, or on the left
abbrev pub IsHighRight : Raster ℤ → ℤ → Place → Side → Type 0
IsHighRight cells level place side = (is_high cells level (right_corner place side) ≡ true) × (is_high cells level (left_corner place side) ≡ false)

abbrev pub IsHighLeft : Raster ℤ → ℤ → Place → Side → Type 0
IsHighLeft cells level place side = (is_high cells level (left_corner place side) ≡ true) × (is_high cells level (right_corner place side) ≡ false)

-- a segment comes into its lattice cell over one side and goes out over another, with the high corners on its right:
-- who goes out has on the right what one who comes in has on the left
pub record KeepsHighRight (cells : Raster ℤ) (level : ℤ) (s : Segment) : Type 0 where
  pub comes_over : Side
  pub goes_over : Side
  pub from : s.from ≡ cross_on (s.row, s.col) comes_over
  pub to : s.to ≡ cross_on (s.row, s.col) goes_over
  pub comes : IsHighRight cells level (s.row, s.col) comes_over
  pub goes : IsHighLeft cells level (s.row, s.col) goes_over

-- a lattice cell of the grid whose corners are all valid
pub record IsLatticeCell (cells : Raster ℤ) (valid : Raster Bool) (place : Place) : Type 0 where
  pub row : place.0 + 1 < cells.nrows
  pub col : place.1 + 1 < cells.ncols
  pub corners : has_corners valid place ≡ true

-- over each side of a lattice cell of which just one corner is high a segment comes in, or goes out
pub record CrossesEach (cells : Raster ℤ) (valid : Raster Bool) (level : ℤ) (place : Place) (side : Side) : Type 0 where
  pub comes : IsHighRight cells level place side → (s : Segment) × Contains (segments_of cells valid level) s × (s.from ≡ cross_on place side)
  pub goes : IsHighLeft cells level place side → (s : Segment) × Contains (segments_of cells valid level) s × (s.to ≡ cross_on place side)
