-- Worked texts, computed at each check.
use Rattle.std.proofs.Common.{◌≡◌, ◌∷◌, [], Ok, Err, pos, refl}
use Rattle.std.specs.Prelude.{codes, ℕ, ◌*◌}
use Rattle.std.specs.Fmt.{digits}
use Rattle.wkt_text.specs.declared.fault.WktKind.TheVariants.{UnknownKind, Dimension, Syntax, BadNumber, OutOfRange, ShortRing, OpenRing}
use Rattle.wkt_text.specs.declared.geometry.Pt.{Pt}
use Rattle.wkt_text.specs.declared.geometry.Geometry.TheVariants.{Point, Polygon, MultiPoint, MultiLineString, MultiPolygon}
use Rattle.wkt_text.specs.Grammar.{geometry_of}
use Rattle.wkt_text.specs.Spelling.{wkt}

-- whole coordinates
abbrev at : ℕ → ℕ → Pt
at x y = record { x = pos (x * 10000000000); y = pos (y * 10000000000) }

abbrev one_and_a_half : Pt
one_and_a_half = record { x = pos 15000000000; y = pos 20000000000 }

point_read : geometry_of (codes " point( +1.50  2e0 ) ") ≡ Ok (Point (one_and_a_half ∷ []))
point_read = refl

point_written : wkt (Point (one_and_a_half ∷ [])) ≡ codes "POINT (1.5 2)"
unfolding digits
point_written = refl

multipoint_read : geometry_of (codes "multipoint(1 2,(3 4))") ≡ Ok (MultiPoint (at 1 2 ∷ at 3 4 ∷ []))
multipoint_read = refl

multipoint_written : wkt (MultiPoint (at 1 2 ∷ at 3 4 ∷ [])) ≡ codes "MULTIPOINT ((1 2),(3 4))"
unfolding digits
multipoint_written = refl

empty_read : geometry_of (codes "Polygon empty") ≡ Ok (Polygon [])
empty_read = refl

empty_written : wkt (Polygon []) ≡ codes "POLYGON EMPTY"
unfolding digits
empty_written = refl

no_byte : geometry_of (codes "") ≡ Err (UnknownKind, 1)
no_byte = refl

circle : geometry_of (codes "CIRCLE (1 2)") ≡ Err (UnknownKind, 1)
circle = refl

point_z : geometry_of (codes "POINT Z (1 2 3)") ≡ Err (Dimension, 7)
point_z = refl

three_numbers : geometry_of (codes "POINT (1 2 3)") ≡ Err (Dimension, 12)
three_numbers = refl

no_number : geometry_of (codes "POINT (1 x)") ≡ Err (BadNumber, 10)
no_number = refl

too_far : geometry_of (codes "POINT (1 50000000)") ≡ Err (OutOfRange, 10)
too_far = refl

not_ended : geometry_of (codes "POINT (1 2") ≡ Err (Syntax, 11)
not_ended = refl

behind_empty : geometry_of (codes "POINT EMPTY ()") ≡ Err (Syntax, 13)
behind_empty = refl

short_ring : geometry_of (codes "POLYGON ((0 0,1 0,0 0))") ≡ Err (ShortRing, 22)
short_ring = refl

open_ring : geometry_of (codes "POLYGON ((0 0,1 0,1 1,0 1))") ≡ Err (OpenRing, 26)
open_ring = refl

-- further texts

polygon_read : geometry_of (codes "POLYGON ((0 0,9 0,9 9,0 0), ( 1 1 , 2 1 , 2 2 , 1 1 ))") ≡ Ok (Polygon ((at 0 0 ∷ at 9 0 ∷ at 9 9 ∷ at 0 0 ∷ []) ∷ (at 1 1 ∷ at 2 1 ∷ at 2 2 ∷ at 1 1 ∷ []) ∷ []))
polygon_read = refl

polygon_written : wkt (Polygon ((at 0 0 ∷ at 9 0 ∷ at 9 9 ∷ at 0 0 ∷ []) ∷ (at 1 1 ∷ at 2 1 ∷ at 2 2 ∷ at 1 1 ∷ []) ∷ [])) ≡ codes "POLYGON ((0 0,9 0,9 9,0 0),(1 1,2 1,2 2,1 1))"
unfolding digits
polygon_written = refl

multipolygon_read : geometry_of (codes "MULTIPOLYGON (((0 0,9 0,9 9,0 0),(1 1,2 1,2 2,1 1)),((3 3,4 3,4 4,3 3)))") ≡ Ok (MultiPolygon (((at 0 0 ∷ at 9 0 ∷ at 9 9 ∷ at 0 0 ∷ []) ∷ (at 1 1 ∷ at 2 1 ∷ at 2 2 ∷ at 1 1 ∷ []) ∷ []) ∷ ((at 3 3 ∷ at 4 3 ∷ at 4 4 ∷ at 3 3 ∷ []) ∷ []) ∷ []))
multipolygon_read = refl

multipolygon_written : wkt (MultiPolygon (((at 0 0 ∷ at 9 0 ∷ at 9 9 ∷ at 0 0 ∷ []) ∷ (at 1 1 ∷ at 2 1 ∷ at 2 2 ∷ at 1 1 ∷ []) ∷ []) ∷ ((at 3 3 ∷ at 4 3 ∷ at 4 4 ∷ at 3 3 ∷ []) ∷ []) ∷ [])) ≡ codes "MULTIPOLYGON (((0 0,9 0,9 9,0 0),(1 1,2 1,2 2,1 1)),((3 3,4 3,4 4,3 3)))"
unfolding digits
multipolygon_written = refl

multiline_read : geometry_of (codes "multiLineString((1 2),(3 4,5 6))") ≡ Ok (MultiLineString ((at 1 2 ∷ []) ∷ (at 3 4 ∷ at 5 6 ∷ []) ∷ []))
multiline_read = refl

multiline_written : wkt (MultiLineString ((at 1 2 ∷ []) ∷ (at 3 4 ∷ at 5 6 ∷ []) ∷ [])) ≡ codes "MULTILINESTRING ((1 2),(3 4,5 6))"
unfolding digits
multiline_written = refl

blanks : geometry_of (codes "  \t ") ≡ Err (UnknownKind, 5)
blanks = refl

mark_first : geometry_of (codes "(1 2)") ≡ Err (UnknownKind, 1)
mark_first = refl

kind_alone : geometry_of (codes "POINT") ≡ Err (Syntax, 6)
kind_alone = refl

kind_joined : geometry_of (codes "POINTZ (1 2 3)") ≡ Err (UnknownKind, 1)
kind_joined = refl

no_body : geometry_of (codes "POINT 1 2") ≡ Err (Syntax, 7)
no_body = refl

inner_empty : geometry_of (codes "MULTIPOINT (EMPTY)") ≡ Err (BadNumber, 13)
inner_empty = refl

inner_empty_polygon : geometry_of (codes "MULTIPOLYGON (EMPTY)") ≡ Err (Syntax, 15)
inner_empty_polygon = refl

empty_list : geometry_of (codes "LINESTRING ()") ≡ Err (Syntax, 13)
empty_list = refl

two_points : geometry_of (codes "POINT (1 2, 3 4)") ≡ Err (Syntax, 11)
two_points = refl

one_number : geometry_of (codes "POINT (1)") ≡ Err (Syntax, 9)
one_number = refl

third_word : geometry_of (codes "POINT (1 2 x)") ≡ Err (Syntax, 12)
third_word = refl

third_far : geometry_of (codes "POINT (1 2 1e99)") ≡ Err (Dimension, 12)
third_far = refl

behind_member : geometry_of (codes "MULTIPOINT ((1 2) 3)") ≡ Err (Syntax, 19)
behind_member = refl

comma_last : geometry_of (codes "LINESTRING (1 2,)") ≡ Err (Syntax, 17)
comma_last = refl

behind_geometry : geometry_of (codes "POINT (1 2) 3") ≡ Err (Syntax, 13)
behind_geometry = refl

z_empty : geometry_of (codes "POINT zm EMPTY") ≡ Err (Dimension, 7)
z_empty = refl

empty_z : geometry_of (codes "POINT EMPTY Z") ≡ Err (Syntax, 13)
empty_z = refl

ring_not_ended : geometry_of (codes "POLYGON ((0 0,1 0,0 0") ≡ Err (Syntax, 22)
ring_not_ended = refl

short_before_later : geometry_of (codes "POLYGON ((0 0,1 0,0 0),(x") ≡ Err (ShortRing, 22)
short_before_later = refl

third_in_ring : geometry_of (codes "POLYGON ((0 0 0") ≡ Err (Dimension, 15)
third_in_ring = refl
