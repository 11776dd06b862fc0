-- The geometry of a geometry's canonical spelling is it.
use Rattle.std.proofs.Common.{◌≡◌, ℕ, ◌+◌, length, List, [], ◌∷◌, arith, refl, sym, ap, ◌∙◌, Ok, append-nil}
use Rattle.wkt_text.specs.Tokens.{tokens_of, tokens_from}
use Rattle.wkt_text.specs.Geometry.{IsWritable, HasCoords}
use Rattle.wkt_text.specs.declared.geometry.Geometry.{Geometry}
use Rattle.wkt_text.specs.declared.geometry.Geometry.TheVariants.{Point, LineString, Polygon, MultiPoint, MultiLineString, MultiPolygon}
use Rattle.wkt_text.proofs.SoundLemmas.{IsSound, sound}
use Rattle.wkt_text.specs.Parser.{Parser, followed_by, list_of}
use Rattle.wkt_text.specs.Grammar.{one_point, path, polygon, member_point, made, kind_and_body, ending, located, geometry_of}
use Rattle.wkt_text.specs.Spelling.{list_text, member_text, path_text, polygon_text, wkt}
use Rattle.wkt_text.proofs.ReadLemmas.{Reads}
use Rattle.wkt_text.proofs.ShapeLemmas.{points_read, rings_read, path_of_one_read, multipoint_read, paths_read, polygons_read}

-- what the last tokens of a text are read as
last_read : {A : Type 0} (parser : Parser A) (spelling : List ℕ) (value : A) → Reads parser spelling value → (make : A → Geometry) (offset : ℕ)
    → made make (parser (tokens_from offset spelling)) ≡ Ok (make value, [])
last_read parser spelling value reads make offset =
    let all = reads offset [] in
    ap (λ bytes. made make (parser (tokens_from offset bytes))) (sym (append-nil spelling)) ∙ ap (made make) all.1

whole_read : (text : List ℕ) (g : Geometry) → kind_and_body (tokens_of text) ≡ Ok (g, []) → geometry_of text ≡ Ok g
whole_read text g e = ap (λ answer. located (length text + 1) (followed_by answer ending)) e

read_sound : (g : Geometry) → IsSound g → geometry_of (wkt g) ≡ Ok g
read_sound (Point []) is = refl
read_sound (Point (p ∷ [])) is =
    whole_read (wkt (Point (p ∷ []))) (Point (p ∷ [])) (last_read one_point (member_text p) (p ∷ []) (path_of_one_read p is.1.0) Point 7)
read_sound (Point (p ∷ q ∷ points)) is = absurd (omega (arith, is.0))
read_sound (LineString []) is = refl
read_sound (LineString (p ∷ points)) is =
    whole_read (wkt (LineString (p ∷ points))) (LineString (p ∷ points)) (last_read path (path_text (p ∷ points)) (p ∷ points) (points_read (p ∷ points) (omega arith) is) LineString 12)
read_sound (Polygon []) is = refl
read_sound (Polygon (r ∷ rings)) is =
    whole_read (wkt (Polygon (r ∷ rings))) (Polygon (r ∷ rings)) (last_read polygon (polygon_text (r ∷ rings)) (r ∷ rings) (rings_read (r ∷ rings) (omega arith) is) Polygon 9)
read_sound (MultiPoint []) is = refl
read_sound (MultiPoint (p ∷ points)) is =
    whole_read (wkt (MultiPoint (p ∷ points))) (MultiPoint (p ∷ points)) (last_read (list_of member_point) (list_text member_text (p ∷ points)) (p ∷ points) (multipoint_read (p ∷ points) (omega arith) is) MultiPoint 12)
read_sound (MultiLineString []) is = refl
read_sound (MultiLineString (first ∷ paths)) is =
    whole_read (wkt (MultiLineString (first ∷ paths))) (MultiLineString (first ∷ paths)) (last_read (list_of path) (list_text path_text (first ∷ paths)) (first ∷ paths) (paths_read (first ∷ paths) (omega arith) is) MultiLineString 17)
read_sound (MultiPolygon []) is = refl
read_sound (MultiPolygon (rings ∷ polygons)) is =
    whole_read (wkt (MultiPolygon (rings ∷ polygons))) (MultiPolygon (rings ∷ polygons)) (last_read (list_of polygon) (list_text polygon_text (rings ∷ polygons)) (rings ∷ polygons) (polygons_read (rings ∷ polygons) (omega arith) is) MultiPolygon 14)

pub geometry_of-wkt : (g : Geometry) → IsWritable g → HasCoords g → geometry_of (wkt g) ≡ Ok g
geometry_of-wkt g is all = read_sound g (sound g is all)
