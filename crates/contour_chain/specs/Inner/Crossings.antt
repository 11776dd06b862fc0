-- Crossings between a low and a high centre.
use Rattle.std.specs.Prelude.{◌≡◌, ◌≢◌, ℤ, ◌*◌, ◌≤◌, ◌<ℤ◌, ◌≤ℤ◌, int_le, unsigned_abs}
use Rattle.fixed_coord.specs.Coordinate.{farthest}
use Rattle.geo_transform.specs.Frame.{IsFrame}
use Rattle.geo_transform.specs.declared.frame.Frame.{Frame}
use Rattle.cell_base.specs.MicroCells.{IsMicro}
use Rattle.cell_base.specs.Raster.{IsInside, Place, Raster}
use Rattle.geo_transform.specs.Corner.{centre2_of}
use Rattle.contour_segments.specs.Segments.{is_high, value_of}
use Rattle.contour_segments.specs.declared.segment.Cross.{Cross}
use Rattle.contour_chain.specs.Points.{far_end, near_end}
use Rattle.contour_chain.specs.declared.point.Spot.{Spot}

-- a centre of a frame, with a value that a cell can have
pub record IsSpot (spot : Spot) : Type 0 where
  pub at : unsigned_abs spot.twice ≤ 2 * farthest
  pub micro : IsMicro spot.value

-- the first is low, and the second high
pub record IsSlope (level : ℤ) (low high : Spot) : Type 0 where
  pub low_spot : IsSpot low
  pub high_spot : IsSpot high
  pub low_is : low.value <ℤ level
  pub high_is : level ≤ℤ high.value

-- just one of the two is high
pub record AreApart (level : ℤ) (a b : Spot) : Type 0 where
  pub one : IsSpot a
  pub other : IsSpot b
  pub differs : int_le level a.value ≢ int_le level b.value

-- the crossing is on an edge of the lattice, and of its two centres just one is high
pub record Straddles (cells : Raster ℤ) (level : ℤ) (x : Cross) : Type 0 where
  pub near : IsInside cells (near_end x)
  pub far : IsInside cells (far_end x)
  pub differs : is_high cells level (near_end x) ≢ is_high cells level (far_end x)

-- the cells have the frame's size
pub record IsElevation (frame : Frame) (cells : Raster ℤ) : Type 0 where
  pub is : IsFrame frame
  pub ncols : cells.ncols ≡ frame.ncols
  pub nrows : cells.nrows ≡ frame.nrows

-- the centre of a cell along both axes
abbrev pub spots_at : Frame → Raster ℤ → Place → Spot × Spot
spots_at frame cells p = (record { twice = (centre2_of frame p.0 p.1).0; value = value_of cells p }, record { twice = (centre2_of frame p.0 p.1).1; value = value_of cells p })
