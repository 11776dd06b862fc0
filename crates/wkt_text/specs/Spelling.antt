-- The canonical spelling of a geometry. Source: Simple Features WKT; the spelling is this project's own.
use Rattle.std.specs.Prelude.{ℕ, List, [], ◌∷◌, ◌++◌, map, codes}
use Rattle.std.specs.List.{join_with_byte}
use Rattle.fixed_coord.specs.Coordinate.{coord_places}
use Rattle.fixed_coord.specs.Shortest.{shortest}
use Rattle.wkt_text.specs.declared.geometry.Pt.{Pt}
use Rattle.wkt_text.specs.declared.geometry.Geometry.{Geometry}
use Rattle.wkt_text.specs.declared.geometry.Geometry.TheVariants.{Point, LineString, Polygon, MultiPoint, MultiLineString, MultiPolygon}

-- x, a space and y
abbrev pub point_text : Pt → List ℕ
point_text p = shortest p.x coord_places ++ 32 ∷ shortest p.y coord_places

abbrev pub in_parentheses_text : List ℕ → List ℕ
in_parentheses_text text = 40 ∷ (text ++ 41 ∷ [])

-- the texts of members with a comma between each two, in parentheses
abbrev pub list_text : {A : Type 0} → (A → List ℕ) → List A → List ℕ
list_text text members = in_parentheses_text (join_with_byte 44 (map text members))

abbrev pub member_text : Pt → List ℕ
member_text p = in_parentheses_text (point_text p)

abbrev pub path_text : List Pt → List ℕ
path_text path = list_text point_text path

abbrev pub polygon_text : List (List Pt) → List ℕ
polygon_text rings = list_text path_text rings

-- the list's text, or EMPTY
abbrev pub body_text : {A : Type 0} → (A → List ℕ) → List A → List ℕ
body_text text [] = codes "EMPTY"
body_text text (member ∷ members) = list_text text (member ∷ members)

-- the kind in capitals, a space, and EMPTY or the body
abbrev pub wkt : Geometry → List ℕ
wkt (Point path) = codes "POINT " ++ body_text point_text path
wkt (LineString path) = codes "LINESTRING " ++ body_text point_text path
wkt (Polygon rings) = codes "POLYGON " ++ body_text path_text rings
wkt (MultiPoint path) = codes "MULTIPOINT " ++ body_text member_text path
wkt (MultiLineString paths) = codes "MULTILINESTRING " ++ body_text path_text paths
wkt (MultiPolygon polygons) = codes "MULTIPOLYGON " ++ body_text polygon_text polygons
