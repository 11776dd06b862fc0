-- The rows of a layer before they are written.
use Rattle.std.specs.Prelude.{◌≡◌, ℕ, ℤ, ◌<◌, ◌^◌, Bool, List, [], ◌∷◌, Option, Some, None, map, length, slice_get, unwrap_or, All}
use Rattle.std.specs.List.{zip}
use Rattle.cell_base.specs.Raster.{Raster}
use Rattle.cell_base.specs.Steps.{four}
use Rattle.geo_transform.specs.Frame.{IsFrame}
use Rattle.geo_transform.specs.declared.frame.Frame.{Frame}
use Rattle.asc_grid.specs.declared.grid.Asc.{Asc}
use Rattle.region_label.specs.Labelling.{RegionTable, IsLabelling}
use Rattle.region_parts.specs.Parts.{items_by}
use Rattle.ring_faces.specs.LatticePolygon.{Polygon}
use Rattle.ring_faces.specs.Faces.{ArePolygonsOf, FitsGrid}
use Rattle.tool_outcome.specs.Polygonize.{value_of}
use Rattle.tool_outcome.specs.Sieve.{IsMaskOf}

-- the polygon of this number
abbrev pub polygon_at : List Polygon → ℕ → Polygon
polygon_at polygons j = unwrap_or (slice_get polygons j) (record { shell = []; holes = [] })

-- the polygons of each component: its own one, or those of its parts
abbrev pub shapes_of : Option (List (List ℕ)) → List Polygon → List (List Polygon)
shapes_of None polygons = map (λ polygon. polygon ∷ []) polygons
shapes_of (Some parts) polygons = map (map (polygon_at polygons)) parts

-- each part is the number of a polygon
abbrev pub AreAmong : Option (List (List ℕ)) → List Polygon → Type 0
AreAmong parts polygons = (lists : List (List ℕ)) → parts ≡ Some lists → All (All (λ j. j < length polygons)) lists

-- values and polygons over a frame: as many values as shapes, and the polygons fit
pub record AreRowsOver (frame : Frame) (values : List ℤ) (parts : Option (List (List ℕ))) (polygons : List Polygon) : Type 0 where
  pub over : IsFrame frame
  pub sized : length values ≡ length (shapes_of parts polygons)
  pub few : length values < 2 ^ 32
  pub among : AreAmong parts polygons
  pub fit : All (FitsGrid frame.nrows frame.ncols) polygons

-- the values of the components of a grid, and their parts, by those under side steps
pub record AreComponents (connectivity : Bool) (cells : Raster ℤ) (valid : Raster Bool) (sides : RegionTable)
    (values : List ℤ) (parts : Option (List (List ℕ))) : Type 0 where
  pub regions : RegionTable
  pub labelled : IsLabelling connectivity cells valid regions
  pub few : length regions.firsts < 2 ^ 32
  pub values_are : values ≡ map (value_of cells) regions.firsts
  pub parts_are : (polygons : List Polygon) → length polygons ≡ length sides.firsts
      → (shapes_of parts polygons ≡ items_by regions (zip sides.firsts polygons)) × AreAmong parts polygons

-- the values and shapes are those of the components of a grid
pub record AreTraced (connectivity : Bool) (asc : Asc ℤ) (values : List ℤ) (parts : Option (List (List ℕ)))
    (polygons : List Polygon) : Type 0 where
  pub valid : Raster Bool
  pub sides : RegionTable
  pub regions : RegionTable
  pub mask : IsMaskOf asc valid
  pub by_sides : IsLabelling four asc.cells valid sides
  pub labelled : IsLabelling connectivity asc.cells valid regions
  pub drawn : ArePolygonsOf sides polygons
  pub values_are : values ≡ map (value_of asc.cells) regions.firsts
  pub shapes_are : shapes_of parts polygons ≡ items_by regions (zip sides.firsts polygons)
