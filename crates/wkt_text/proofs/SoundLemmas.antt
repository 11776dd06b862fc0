-- Geometries that can be written, with numbers that coordinates may have.
use Rattle.std.proofs.Common.{◌<◌, ◌≤◌, List, length}
use Rattle.std.specs.Prelude.{All}
use Rattle.wkt_text.specs.Geometry.{IsClosed, IsRing, IsPolygon, IsPt, IsWritable, HasCoords}
use Rattle.wkt_text.specs.declared.geometry.Pt.{Pt}
use Rattle.wkt_text.specs.declared.geometry.Geometry.{Geometry}
use Rattle.wkt_text.specs.declared.geometry.Geometry.TheVariants.{Point, LineString, Polygon, MultiPoint, MultiLineString, MultiPolygon}
use Rattle.wkt_text.proofs.EachLemmas.{Each, each_of_all, each_both}

-- members, at least one, and P holds of each
pub record IsList {A : Type 0} (P : A → Type 0) (xs : List A) : Type 0 where
  pub some : 0 < length xs
  pub each : Each P xs

pub record IsSoundRing (path : List Pt) : Type 0 where
  pub long : 4 ≤ length path
  pub closed : IsClosed path
  pub each : Each IsPt path

-- it can be written, and each number is one of a coordinate
abbrev pub IsSound : Geometry → Type 0
IsSound (Point path) = (length path ≤ 1) × Each IsPt path
IsSound (LineString path) = Each IsPt path
IsSound (Polygon rings) = Each IsSoundRing rings
IsSound (MultiPoint path) = Each IsPt path
IsSound (MultiLineString paths) = Each (IsList IsPt) paths
IsSound (MultiPolygon polygons) = Each (IsList IsSoundRing) polygons

points_sound : (path : List Pt) → All IsPt path → Each IsPt path
points_sound path all = each_of_all IsPt path all

ring_sound : (path : List Pt) → IsRing path → All IsPt path → IsSoundRing path
ring_sound path is all = record { long = is.long; closed = is.closed; each = points_sound path all }

rings_sound : (rings : List (List Pt)) → All IsRing rings → All (All IsPt) rings → Each IsSoundRing rings
rings_sound rings is all =
    each_both IsRing (All IsPt) IsSoundRing rings ring_sound (each_of_all IsRing rings is) (each_of_all (All IsPt) rings all)

path_sound : (path : List Pt) → 0 < length path → All IsPt path → IsList IsPt path
path_sound path some all = record { some = some; each = points_sound path all }

polygon_sound : (rings : List (List Pt)) → IsPolygon rings → All (All IsPt) rings → IsList IsSoundRing rings
polygon_sound rings is all = record { some = is.some; each = rings_sound rings is.each all }

pub sound : (g : Geometry) → IsWritable g → HasCoords g → IsSound g
sound (Point path) is all = (is, points_sound path all)
sound (LineString path) is all = points_sound path all
sound (Polygon rings) is all = rings_sound rings is all
sound (MultiPoint path) is all = points_sound path all
sound (MultiLineString paths) is all =
    each_both (λ path. 0 < length path) (All IsPt) (IsList IsPt) paths path_sound
    (each_of_all (λ path. 0 < length path) paths is) (each_of_all (All IsPt) paths all)
sound (MultiPolygon polygons) is all =
    each_both IsPolygon (All (All IsPt)) (IsList IsSoundRing) polygons polygon_sound
    (each_of_all IsPolygon polygons is) (each_of_all (All (All IsPt)) polygons all)
