-- Geometries that can be written as WKT. Source: Simple Features, in this project's profile.
use Rattle.std.specs.Prelude.{◌≡◌, ◌≤◌, ◌<◌, ◌&&◌, Bool, false, List, [], ◌∷◌, length, All}
use Rattle.std.specs.Ordering.{int_eq}
use Rattle.fixed_coord.specs.Coordinate.{IsCoord}
use Rattle.wkt_text.specs.declared.geometry.Pt.{Pt}
use Rattle.wkt_text.specs.declared.geometry.Geometry.{Geometry}
use Rattle.wkt_text.specs.declared.geometry.Geometry.TheVariants.{Point, LineString, Polygon, MultiPoint, MultiLineString, MultiPolygon}

-- the last point of a path that begins with this one
abbrev pub last_from : Pt → List Pt → Pt
last_from p [] = p
last_from p (q ∷ path) = last_from q path

-- the last point equals the first
abbrev pub IsClosed : List Pt → Type 0
IsClosed [] = ⊥
IsClosed (p ∷ path) = p ≡ last_from p path

-- the same as a test
abbrev pub is_closed : List Pt → Bool
is_closed [] = false
is_closed (p ∷ path) = int_eq p.x (last_from p path).x && int_eq p.y (last_from p path).y

-- a ring: at least four points, the last equal to the first
pub record IsRing (path : List Pt) : Type 0 where
  pub long : 4 ≤ length path
  pub closed : IsClosed path

-- a polygon that isn't EMPTY: rings, at least one
pub record IsPolygon (rings : List (List Pt)) : Type 0 where
  pub some : 0 < length rings
  pub each : All IsRing rings

-- a point has at most one point, no member is an empty list, and the rings of polygons are rings
abbrev pub IsWritable : Geometry → Type 0
IsWritable (Point path) = length path ≤ 1
IsWritable (LineString path) = Unit {0}
IsWritable (Polygon rings) = All IsRing rings
IsWritable (MultiPoint path) = Unit {0}
IsWritable (MultiLineString paths) = All (λ path. 0 < length path) paths
IsWritable (MultiPolygon polygons) = All IsPolygon polygons

pub record IsPt (p : Pt) : Type 0 where
  pub x : IsCoord p.x
  pub y : IsCoord p.y

-- every number is one that a coordinate may have
abbrev pub HasCoords : Geometry → Type 0
HasCoords (Point path) = All IsPt path
HasCoords (LineString path) = All IsPt path
HasCoords (Polygon rings) = All (All IsPt) rings
HasCoords (MultiPoint path) = All IsPt path
HasCoords (MultiLineString paths) = All (All IsPt) paths
HasCoords (MultiPolygon polygons) = All (All (All IsPt)) polygons
