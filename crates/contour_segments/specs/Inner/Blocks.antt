-- Blocks of lattice cells, and the values round them.
use Rattle.std.specs.Prelude.{◌≡◌, ℕ, ℤ, ◌+◌, ◌*◌, ◌<◌, ◌≤◌, ◌≤ℤ◌, ◌<ℤ◌, Bool, true, List, [], ◌∷◌, Some, length, slice_get, take}
use Rattle.std.specs.List.{flat_map}
use Rattle.cell_base.specs.MicroCells.{IsMicro}
use Rattle.cell_base.specs.Raster.{AreAligned, Place, Raster}
use Rattle.contour_segments.specs.Segments.{has_corners, lattice_of, segments_in, value_of}
use Rattle.contour_segments.specs.declared.lattice.Corners.{Corners}
use Rattle.contour_segments.specs.declared.segment.Segment.{Segment}
use Rattle.contour_segments.specs.declared.side.Side.{Side}
use Rattle.contour_segments.specs.declared.side.Ways.{Ways}
use Rattle.contour_segments.specs.declared.side.Ways.TheVariants.{None, One, Two}
use Rattle.contour_segments.specs.declared.span.Span.{Span}

-- the pairs of sides
abbrev pub ways_listed : Ways → List (Side × Side)
ways_listed None = []
ways_listed (One a b) = (a, b) ∷ []
ways_listed (Two a b c d) = (a, b) ∷ (c, d) ∷ []

-- the values at the corners of a lattice cell
pub record AreCorners (cells : Raster ℤ) (place : Place) (corners : Corners) : Type 0 where
  pub nw : corners.nw ≡ value_of cells (place.0, place.1)
  pub ne : corners.ne ≡ value_of cells (place.0, place.1 + 1)
  pub se : corners.se ≡ value_of cells (place.0 + 1, place.1 + 1)
  pub sw : corners.sw ≡ value_of cells (place.0 + 1, place.1)

-- each is a value that a cell can have
pub record AreMicros (corners : Corners) : Type 0 where
  pub nw : IsMicro corners.nw
  pub ne : IsMicro corners.ne
  pub se : IsMicro corners.se
  pub sw : IsMicro corners.sw

-- the value lies between the ends
abbrev pub Holds : Span → ℤ → Type 0
Holds span value = (span.low ≤ℤ value) × (value ≤ℤ span.high)

-- the values of the corners do
pub record HoldsCorners (span : Span) (corners : Corners) : Type 0 where
  pub nw : Holds span corners.nw
  pub ne : Holds span corners.ne
  pub se : Holds span corners.se
  pub sw : Holds span corners.sw

-- the ends of the one lie within those of the other
pub record IsWider (narrow wide : Span) : Type 0 where
  pub low : wide.low ≤ℤ narrow.low
  pub high : narrow.high ≤ℤ wide.high

-- some values are below the level, and some are at least the level
abbrev pub Meets : Span → ℤ → Type 0
Meets span level = (span.low <ℤ level) × (level ≤ℤ span.high)

-- the corners of the lattice cell are not all valid, or their values lie between the ends
abbrev pub CoversCell : Raster ℤ → Raster Bool → Span → Place → Type 0
CoversCell cells valid span place = has_corners valid place ≡ true → (corners : Corners) → AreCorners cells place corners → HoldsCorners span corners

-- so do those of the lattice cells from one number up to another, which count row after row
abbrev pub Covers : Raster ℤ → Raster Bool → Span → ℕ → ℕ → Type 0
Covers cells valid span from to = (i : ℕ) (place : Place) → from ≤ i → i < to → slice_get (lattice_of cells) i ≡ Some place → CoversCell cells valid span place

-- the segments of the first lattice cells, so many
abbrev pub segments_to : Raster ℤ → Raster Bool → ℤ → ℕ → List Segment
segments_to cells valid level n = flat_map (segments_in cells valid level) (take n (lattice_of cells))

-- the spans of blocks, each of 64 lattice cells, which are all of them and no more
pub record AreSpans (cells : Raster ℤ) (valid : Raster Bool) (spans : List Span) : Type 0 where
  pub each : (i : ℕ) (span : Span) → slice_get spans i ≡ Some span → Covers cells valid span (i * 64) ((i + 1) * 64)
  pub some : (i : ℕ) → i < length spans → i * 64 < length (lattice_of cells)
  pub all : length (lattice_of cells) ≤ length spans * 64

-- the lattice cell of a number stands there
abbrev pub IsPlaceOf : Raster ℤ → ℕ → Place → Type 0
IsPlaceOf cells i place = slice_get (lattice_of cells) i ≡ Some place

-- the lattice cell of the next number
abbrev pub IsAfter : Raster ℤ → Place → Place → Type 0
IsAfter cells place next = (i : ℕ) → slice_get (lattice_of cells) i ≡ Some place → i + 1 < length (lattice_of cells) → slice_get (lattice_of cells) (i + 1) ≡ Some next

-- the ends of each lie within these
abbrev pub AllWithin : List Span → Span → Type 0
AllWithin spans all = (i : ℕ) (span : Span) → slice_get spans i ≡ Some span → IsWider span all

-- the groups of 64 blocks, which are all blocks
pub record AreGroups (blocks groups : List Span) : Type 0 where
  pub each : (g i : ℕ) (group block : Span) → slice_get groups g ≡ Some group → slice_get blocks i ≡ Some block → g * 64 ≤ i → i < (g + 1) * 64 → IsWider block group
  pub some : (g : ℕ) → g < length groups → g * 64 < length blocks
  pub all : length blocks ≤ length groups * 64

-- the grid and its mask are of one size, with blocks of 64 lattice cells and groups of 64 blocks
pub record IsTable (cells : Raster ℤ) (valid : Raster Bool) (blocks groups : List Span) : Type 0 where
  pub aligned : AreAligned cells valid
  pub in_blocks : AreSpans cells valid blocks
  pub in_groups : AreGroups blocks groups
