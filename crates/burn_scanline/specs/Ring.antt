-- The edges of a geometry's rings. Source: the rings of Simple Features; that an open ring is closed is this project's
-- own.
use Rattle.std.specs.Prelude.{List, [], ◌∷◌}
use Rattle.std.specs.List.{flat_map}
use Rattle.wkt_text.specs.Geometry.{last_from}
use Rattle.wkt_text.specs.declared.geometry.Pt.{Pt}
use Rattle.wkt_text.specs.declared.geometry.Geometry.{Geometry}
use Rattle.wkt_text.specs.declared.geometry.Geometry.TheVariants.{Point, LineString, Polygon, MultiPoint, MultiLineString, MultiPolygon}

-- an edge, by its start and its end
abbrev pub Edge : Type 0
Edge = Pt × Pt

-- the edges from a point to the first of a list, and on from each to the next
abbrev pub edges_through : Pt → List Pt → List Edge
edges_through p [] = []
edges_through p (q ∷ path) = (p, q) ∷ edges_through q path

-- the edges of a ring: from its last point to its first, and from each point to the next. Where the last point repeats
-- the first, the edge between the two has no length
abbrev pub edges_of : List Pt → List Edge
edges_of [] = []
edges_of (p ∷ path) = edges_through (last_from p path) (p ∷ path)

-- the rings of a polygon, or those of each polygon of several; points and lines have none
abbrev pub rings_of : Geometry → List (List Pt)
rings_of (Point path) = []
rings_of (LineString path) = []
rings_of (Polygon rings) = rings
rings_of (MultiPoint path) = []
rings_of (MultiLineString paths) = []
rings_of (MultiPolygon polygons) = flat_map (λ rings. rings) polygons

abbrev pub all_edges : Geometry → List Edge
all_edges g = flat_map edges_of (rings_of g)
