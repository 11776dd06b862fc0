-- What gdal_polygonize writes. Source: its manual; the order of rings, points and rows is this project's own.
use Rattle.std.specs.Prelude.{◌≡◌, ℕ, ℤ, ◌++◌, Bool, List, [], ◌∷◌, map, take, codes, pos, unwrap_or}
use Rattle.std.specs.List.{zip}
use Rattle.rv_outside.specs.Files.{Files}
use Rattle.fixed_coord.specs.Shortest.{shortest}
use Rattle.cell_base.specs.Raster.{Place, Raster, value_at}
use Rattle.cell_base.specs.Steps.{four}
use Rattle.geo_transform.specs.Corner.{corner_of}
use Rattle.geo_transform.specs.declared.frame.Frame.{Frame}
use Rattle.asc_grid.specs.declared.grid.Asc.{Asc}
use Rattle.region_label.specs.Labelling.{RegionTable, IsLabelling}
use Rattle.edge_trace.specs.Edge.{Corner}
use Rattle.ring_faces.specs.Ring.{Ring}
use Rattle.ring_faces.specs.LatticePolygon.{Polygon, rings_of}
use Rattle.ring_faces.specs.Faces.{ArePolygonsOf}
use Rattle.region_parts.specs.Parts.{items_by}
use Rattle.wkt_text.specs.Spelling.{wkt}
use Rattle.wkt_text.specs.declared.geometry.Pt.{Pt}
use Rattle.wkt_text.specs.declared.geometry.Geometry.{Geometry}
use Rattle.wkt_text.specs.declared.geometry.Geometry.TheVariants as geometry
use Rattle.ogr_csv.specs.Rows.{text_of_rows}
use Rattle.tool_words.specs.Words.{Text}
use Rattle.tool_words.specs.declared.job.PolygonizeJob.{PolygonizeJob}
use Rattle.tool_outcome.specs.Answer.{Answer, AnswersBy}
use Rattle.tool_outcome.specs.Sieve.{IsMaskOf}
use Rattle.tool_outcome.specs.Source.{source_of}

-- the point of a corner
abbrev pub point_of : Frame → Corner → Pt
point_of frame corner = record { x = (corner_of frame corner.0 corner.1).0; y = (corner_of frame corner.0 corner.1).1 }

-- the points of a ring, the first again at the end
abbrev pub path_of : Frame → Ring → List Pt
path_of frame ring = map (point_of frame) (ring ++ take 1 ring)

-- the points of a polygon's rings, the shell first
abbrev pub paths_of : Frame → Polygon → List (List Pt)
paths_of frame polygon = map (path_of frame) (rings_of polygon)

-- the value of a component, by its first cell
abbrev pub value_of : Raster ℤ → Place → ℤ
value_of cells first = unwrap_or (value_at cells first) (pos 0)

-- the shape of a component: the polygon of its one part, or those of all its parts
abbrev pub shape_of : Frame → List Polygon → Geometry
shape_of frame (part ∷ []) = geometry.Polygon (paths_of frame part)
shape_of frame parts = geometry.MultiPolygon (map (paths_of frame) parts)

-- the fields of a component's row: its shape and its value
abbrev pub row_of : Frame → ℤ × List Polygon → List Text
row_of frame component = wkt (shape_of frame component.1) ∷ shortest component.0 0 ∷ []

-- the fields of the first row
abbrev pub header_row : Text → List Text
header_row field = codes "WKT" ∷ field ∷ []

-- the values and the parts of the components, by number: the parts are the polygons of the components under side steps
-- that lie in it, in order of their first cells
abbrev pub components_of : Raster ℤ → RegionTable → RegionTable → List Polygon → List (ℤ × List Polygon)
components_of cells regions sides polygons =
    zip (map (value_of cells) regions.firsts) (items_by regions (zip sides.firsts polygons))

-- the text of the layer: a header, and a row for each component
abbrev pub layer_text : Text → Frame → List (ℤ × List Polygon) → List ℕ
layer_text field frame components = text_of_rows (header_row field ∷ map (row_of frame) components)

-- the polygonize text of a grid: a row for each component of equal valid cells, under side steps or under `-8` under
-- all steps, in order of number, with the only canonical polygon of each of its parts under side steps
pub record IsPolygonizeText (job : PolygonizeJob) (asc : Asc ℤ) (text : List ℕ) : Type 0 where
  pub valid : Raster Bool
  pub sides : RegionTable
  pub regions : RegionTable
  pub polygons : List Polygon
  pub mask : IsMaskOf asc valid
  pub by_sides : IsLabelling four asc.cells valid sides
  pub labelled : IsLabelling job.eight asc.cells valid regions
  pub drawn : ArePolygonsOf sides polygons
  pub is : text ≡ layer_text job.field asc.frame (components_of asc.cells regions sides polygons)

-- the answer of gdal_polygonize
abbrev pub IsPolygonizeAnswer : PolygonizeJob → Files → Answer → Type 0
IsPolygonizeAnswer job files answer = AnswersBy (IsPolygonizeText job) (source_of (files job.source)) answer

-- a grid has at most one such text
abbrev pub HasOneLayer : PolygonizeJob → Asc ℤ → Type 0
HasOneLayer job asc = (a b : List ℕ) → IsPolygonizeText job asc a → IsPolygonizeText job asc b → a ≡ b
