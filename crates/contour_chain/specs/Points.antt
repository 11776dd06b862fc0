-- The points of a contour line. A crossing divides the way between the two centres linearly; rounding, and that
-- equal neighbours are written once, are this project's own.
use Rattle.std.specs.Prelude.{ℕ, ℤ, ◌+◌, ◌+ℤ◌, ◌-ℤ◌, ◌*ℤ◌, int_le, pos, unsigned_abs, Bool, ◌&&◌, if◌then◌else◌, List, [], ◌∷◌, Option, Some, None, map, Contains}
use Rattle.std.specs.Ordering.{int_eq}
use Rattle.fixed_coord.specs.Round.{round_half_away}
use Rattle.geo_transform.specs.Corner.{centre2_of}
use Rattle.geo_transform.specs.declared.frame.Frame.{Frame}
use Rattle.cell_base.specs.Raster.{Place, Raster}
use Rattle.contour_segments.specs.Segments.{segments_of, value_of}
use Rattle.contour_segments.specs.declared.segment.Cross.{Cross}
use Rattle.contour_segments.specs.declared.segment.Segment.{Segment}
use Rattle.wkt_text.specs.declared.geometry.Pt.{Pt}
use Rattle.wkt_text.specs.declared.geometry.Geometry.{Geometry}
use Rattle.wkt_text.specs.declared.geometry.Geometry.TheVariants.{LineString}
use Rattle.contour_chain.specs.Contours.{AreContours}
use Rattle.contour_chain.specs.declared.point.Spot.{Spot}

-- a crossing lies at the fraction (level - low) / (high - low) of the way from the low centre to the high one; of
-- centres their coordinate is given twice. This much stands above the bar, and this much below
abbrev pub above_bar : ℤ → Spot → Spot → ℤ
above_bar level low high = low.twice *ℤ (high.value -ℤ level) +ℤ high.twice *ℤ (level -ℤ low.value)

abbrev pub below_bar : Spot → Spot → ℕ
below_bar low high = unsigned_abs (pos 2 *ℤ (high.value -ℤ low.value))

-- its coordinate in units of 10^-10, rounded once, a half away from zero
abbrev pub part_way : ℤ → Spot → Spot → ℤ
part_way level low high = round_half_away (above_bar level low high) (below_bar low high)

-- the same for two centres of which one is high
abbrev pub between : ℤ → Spot → Spot → ℤ
between level a b = if int_le level a.value then part_way level b a else part_way level a b

-- the centres at the ends of a crossing's lattice edge
abbrev pub near_end : Cross → Place
near_end x = (x.row, x.col)

abbrev pub far_end : Cross → Place
far_end x = if x.down then (x.row + 1, x.col) else (x.row, x.col + 1)

-- the point of a crossing
abbrev pub point_at : Frame → Raster ℤ → ℤ → Cross → Pt
point_at frame cells level x =
    let p = near_end x in
    let q = far_end x in
    let a = centre2_of frame p.0 p.1 in
    let b = centre2_of frame q.0 q.1 in
    let v = value_of cells p in
    let w = value_of cells q in
    record {
      x = between level (record { twice = a.0; value = v }) (record { twice = b.0; value = w });
      y = between level (record { twice = a.1; value = v }) (record { twice = b.1; value = w });
    }

-- the crossings of a line: where it starts, and where each of its segments ends
abbrev pub crosses_of : List Segment → List Cross
crosses_of [] = []
crosses_of (s ∷ ss) = s.from ∷ map (λ t. t.to) (s ∷ ss)

abbrev pub is_same_point : Pt → Pt → Bool
is_same_point a b = int_eq a.x b.x && int_eq a.y b.y

-- these points behind another, without each that is the one before it
abbrev pub without_repeats : Pt → List Pt → List Pt
without_repeats last [] = []
without_repeats last (p ∷ ps) =
    let rest = without_repeats p ps in
    if is_same_point last p then rest else (p ∷ rest)

abbrev pub neighbours_once : List Pt → List Pt
neighbours_once [] = []
neighbours_once (p ∷ ps) = p ∷ without_repeats p ps

-- the points of a line
abbrev pub points_along : Frame → Raster ℤ → ℤ → List Segment → List Pt
points_along frame cells level line = neighbours_once (map (point_at frame cells level) (crosses_of line))

-- the line through these points; one point makes none
abbrev pub line_through : List Pt → Option Geometry
line_through [] = None
line_through (p ∷ []) = None
line_through (p ∷ q ∷ ps) = Some (LineString (p ∷ q ∷ ps))

-- a contour line of these cells at the level
pub record IsContourLine (cells : Raster ℤ) (level : ℤ) (line : List Segment) : Type 0 where
  pub valid : Raster Bool
  pub lines : List (List Segment)
  pub are : AreContours (segments_of cells valid level) lines
  pub has : Contains lines line
