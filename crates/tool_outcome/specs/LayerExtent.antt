-- The extent of a layer. This project's own.
use Rattle.std.specs.Prelude.{ℤ, List, [], ◌∷◌, Option, Some, None, fold, map}
use Rattle.std.specs.Int.{int_max, int_min}
use Rattle.std.specs.List.{flat_map}
use Rattle.geo_transform.specs.declared.extent.Extent.{Extent}
use Rattle.wkt_text.specs.declared.geometry.Pt.{Pt}
use Rattle.wkt_text.specs.declared.geometry.Geometry.{Geometry}
use Rattle.wkt_text.specs.declared.geometry.Geometry.TheVariants.{Point, LineString, Polygon, MultiPoint, MultiLineString, MultiPolygon}
use Rattle.ogr_csv.specs.declared.feature.Feature.{Feature}

-- all points of a list of paths
abbrev pub points_in : List (List Pt) → List Pt
points_in paths = flat_map (λ path. path) paths

-- all points of a geometry
abbrev pub points_of : Geometry → List Pt
points_of (Point path) = path
points_of (LineString path) = path
points_of (Polygon rings) = points_in rings
points_of (MultiPoint path) = path
points_of (MultiLineString paths) = points_in paths
points_of (MultiPolygon polygons) = flat_map points_in polygons

-- all points of a feature; without a geometry it has none
abbrev pub points_if : Option Geometry → List Pt
points_if None = []
points_if (Some g) = points_of g

-- all points of all features, also of those that are skipped
abbrev pub layer_points : List Feature → List Pt
layer_points features = flat_map (λ f. points_if f.geometry) features

abbrev pub least : ℤ → List ℤ → ℤ
least n ns = fold int_min n ns

abbrev pub greatest : ℤ → List ℤ → ℤ
greatest n ns = fold int_max n ns

-- the least extent that holds all points, if there is a point
abbrev pub extent_round : List Pt → Option Extent
extent_round [] = None
extent_round (p ∷ points) = Some (record {
  xmin = least p.x (map (λ q. q.x) points);
  ymin = least p.y (map (λ q. q.y) points);
  xmax = greatest p.x (map (λ q. q.x) points);
  ymax = greatest p.y (map (λ q. q.y) points);
})

-- the extent of a layer, if it has a point
abbrev pub layer_extent : List Feature → Option Extent
layer_extent features = extent_round (layer_points features)
