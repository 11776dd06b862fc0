-- The polygons of all components by number. This project's own.
use Rattle.std.specs.Prelude.{◌≡◌, ℕ, ◌<◌, ◌≤◌, List, Some, All, length, slice_get}
use Rattle.cell_base.specs.Raster.{Place, IsRaster}
use Rattle.cell_base.specs.Steps.{four}
use Rattle.cell_base.specs.Walk.{IsConnected}
use Rattle.cell_base.specs.Order.{IsBefore}
use Rattle.region_label.specs.Labelling.{RegionTable, IsInRegion}
use Rattle.edge_trace.specs.Edge.{Corner}
use Rattle.ring_faces.specs.LatticePolygon.{Polygon, rings_of}
use Rattle.ring_faces.specs.CanonicalPolygon.{IsPolygonOf}
use Rattle.ring_faces.specs.declared.polygon.LatticePolygon.{LatticePolygon}

-- the components of a grid are joined by side steps, and each is known by its first cell: so are those of a
-- labelling under side steps
pub record AreJoinedBySides (regions : RegionTable) : Type 0 where
  pub shape : IsRaster regions.numbers
  pub joined : (k : ℕ) → IsConnected four (IsInRegion regions k)
  pub first : (k : ℕ) (a : Place) → slice_get regions.firsts k ≡ Some a → IsInRegion regions k a
  pub least : (k : ℕ) (a p : Place) → slice_get regions.firsts k ≡ Some a → IsInRegion regions k p
      → ¬ IsBefore p a
  pub known : (k : ℕ) (p : Place) → IsInRegion regions k p → k < length regions.firsts

-- a polygon as the code has it
abbrev pub polygon_of : LatticePolygon → Polygon
polygon_of polygon = record { shell = polygon.shell; holes = polygon.holes }

-- one polygon for each component, by its number: its only canonical one
pub record ArePolygonsOf (regions : RegionTable) (polygons : List Polygon) : Type 0 where
  pub count : length polygons ≡ length regions.firsts
  pub each : (k : ℕ) (polygon : Polygon) → slice_get polygons k ≡ Some polygon → IsPolygonOf regions k polygon

-- a corner of a grid with so many rows and columns
pub record IsCornerOf (nrows ncols : ℕ) (corner : Corner) : Type 0 where
  pub row : corner.0 ≤ nrows
  pub col : corner.1 ≤ ncols

-- each ring has at least four corners, all of them corners of the grid
pub record FitsGrid (nrows ncols : ℕ) (polygon : Polygon) : Type 0 where
  pub long : All (λ ring. 4 ≤ length ring) (rings_of polygon)
  pub corners : All (All (IsCornerOf nrows ncols)) (rings_of polygon)
