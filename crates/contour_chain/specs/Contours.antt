-- The contour lines of a level.
use Rattle.std.specs.Prelude.{◌≡◌, ℤ, Bool, List}
use Rattle.cell_base.specs.Raster.{Raster}
use Rattle.contour_segments.specs.Segments.{ComesBefore, segments_of}
use Rattle.contour_segments.specs.declared.segment.Cross.{Cross}
use Rattle.contour_segments.specs.declared.segment.Segment.{Segment}
use Rattle.contour_chain.specs.Lines.{AreLines, HaveOneListOfLines}

-- the crossings where a segment starts and ends
abbrev pub ends_of : Segment → Cross × Cross
ends_of s = (s.from, s.to)

-- the contour lines that segments make, in the order of row, column and turn
abbrev pub AreContours : List Segment → List (List Segment) → Type 0
AreContours segments lines = AreLines ends_of ComesBefore segments lines

-- the segments of a level make exactly one list of lines
abbrev pub HasOneListOfContours : Raster ℤ → Raster Bool → ℤ → Type 0
HasOneListOfContours cells valid level = HaveOneListOfLines ends_of ComesBefore (segments_of cells valid level)

-- the list is that of all segments of some grid at some level
pub record AreSegments (segments : List Segment) : Type 0 where
  pub cells : Raster ℤ
  pub valid : Raster Bool
  pub level : ℤ
  pub is : segments ≡ segments_of cells valid level
