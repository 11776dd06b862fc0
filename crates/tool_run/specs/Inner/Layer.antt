-- A layer that is written row by row.
use Rattle.std.specs.Prelude.{◌≡◌, ℕ, ℤ, ◌++◌, Bool, List, [], ◌∷◌, Some, map, drop, slice_get, if◌then◌else◌}
use Rattle.std.specs.List.{flat_map, zip}
use Rattle.ring_faces.specs.LatticePolygon.{Polygon}
use Rattle.wkt_text.specs.Spelling.{wkt}
use Rattle.wkt_text.specs.declared.geometry.Geometry.{Geometry}
use Rattle.wkt_text.specs.declared.geometry.Geometry.TheVariants as geometry
use Rattle.ogr_csv.specs.Rows.{line_of}
use Rattle.tool_words.specs.Words.{Text}
use Rattle.tool_run.specs.declared.polygons.Layer.{Layer}
use Rattle.tool_run.specs.Inner.Rows.{polygon_at, shapes_of}
use Rattle.tool_outcome.specs.Polygonize.{header_row, paths_of, row_of, shape_of}

-- the values and shapes of a layer's components
abbrev pub components_in : Layer → List (ℤ × List Polygon)
components_in layer = zip layer.values.items (shapes_of layer.parts layer.faces)

-- the shape of the component of this number
abbrev pub HasShape : Layer → ℕ → Geometry → Type 0
HasShape layer k shape = (parts : List Polygon) × (slice_get (shapes_of layer.parts layer.faces) k ≡ Some parts)
    × (shape ≡ shape_of layer.frame parts)

-- the shape of the polygon of this number, and that of the polygons of several
abbrev pub part_shape : Layer → ℕ → Geometry
part_shape layer j = geometry.Polygon (paths_of layer.frame (polygon_at layer.faces j))

abbrev pub parts_shape : Layer → List ℕ → Geometry
parts_shape layer numbers = geometry.MultiPolygon (map (λ j. paths_of layer.frame (polygon_at layer.faces j)) numbers)

-- its text
abbrev pub HasShapeText : Layer → ℕ → List ℕ → Type 0
HasShapeText layer k text = (shape : Geometry) × HasShape layer k shape × (text ≡ wkt shape)

-- the fields of the row of this number
pub record HasRow (layer : Layer) (k : ℕ) (shape value : List ℕ) : Type 0 where
  pub component : ℤ × List Polygon
  pub at : slice_get (components_in layer) k ≡ Some component
  pub row : shape ∷ value ∷ [] ≡ row_of layer.frame component

-- the text of the rows from one on
abbrev pub rows_left : Layer → ℕ → List ℕ
rows_left layer next = flat_map line_of (drop next (map (row_of layer.frame) (components_in layer)))

-- what is left of the layer's text: the header, where it is still to come, and the rows from one on
abbrev pub layer_left : Text → Layer → Bool → ℕ → List ℕ
layer_left field layer has_header next =
    (if has_header then line_of (header_row field) else []) ++ rows_left layer next
