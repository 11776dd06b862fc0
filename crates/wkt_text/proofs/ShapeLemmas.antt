-- Paths, rings and polygons are read as they are spelled.
use Rattle.std.proofs.Common.{◌≡◌, ◌+◌, ℕ, ℤ, ◌<◌, true, false, ◌&&◌, List, [], ◌∷◌, length, arith, refl, sym, ap, ◌∙◌, Ok, append_assoc}
use Rattle.std.specs.Prelude.{map, nat_lt}
use Rattle.std.specs.List.{join_with_byte}
use Rattle.std.specs.Ordering.{int_eq}
use Rattle.std.proofs.lemmas.Bool.Decides.{nat_tests}
use Rattle.std.proofs.lemmas.Int.{ints}
use Rattle.wkt_text.specs.Tokens.{tokens_from}
use Rattle.wkt_text.specs.Geometry.{IsPt, IsClosed, is_closed}
use Rattle.wkt_text.specs.declared.geometry.Pt.{Pt}
use Rattle.wkt_text.proofs.EachLemmas.{Each}
use Rattle.wkt_text.proofs.SoundLemmas.{IsList, IsSoundRing}
use Rattle.wkt_text.specs.Parser.{Parser, gives, followed_by, in_parentheses, list_of}
use Rattle.wkt_text.specs.Grammar.{point, one_point, path, ring_end, ring, polygon, member_point}
use Rattle.wkt_text.specs.Spelling.{point_text, list_text, member_text, path_text, polygon_text}
use Rattle.wkt_text.proofs.ReadLemmas.{Reads, ReadsInside, AreRead, reads_inside, point_read, parentheses_read, listed_read, list_read}

-- what each member's condition shows of its reading
each_read : {A : Type 0} (P : A → Type 0) (member : Parser A) (spelled : A → List ℕ) → ((x : A) → P x → ReadsInside member (spelled x) x)
    → (xs : List A) → Each P xs → AreRead member spelled xs
each_read P member spelled reads [] each = tt
each_read P member spelled reads (x ∷ xs) each = (reads x each.0, each_read P member spelled reads xs each.1)

pub list_of_read : {A : Type 0} (P : A → Type 0) (member : Parser A) (spelled : A → List ℕ) → ((x : A) → P x → ReadsInside member (spelled x) x)
    → (xs : List A) → 0 < length xs → Each P xs → Reads (list_of member) (list_text spelled xs) xs
list_of_read P member spelled reads xs some each = list_read member spelled xs some (each_read P member spelled reads xs each)

pub points_read : (points : List Pt) → 0 < length points → Each IsPt points → Reads path (path_text points) points
points_read points some each = list_of_read IsPt point point_text point_read points some each

same_number : (v : ℤ) → int_eq v v ≡ true
same_number v = grind (arith, ints)

closed_test : (points : List Pt) → IsClosed points → is_closed points ≡ true
closed_test [] is = absurd is
closed_test (p ∷ points) is = ap (λ (q : Pt). int_eq p.x q.x && int_eq p.y q.y) (sym is) ∙ rw (same_number p.x, same_number p.y) refl

ring_end_read : (points : List Pt) → IsSoundRing points → (offset : ℕ) (text : List ℕ) → ring_end points (tokens_from offset (41 ∷ text)) ≡ Ok (points, tokens_from (offset + 1) text)
ring_end_read points is offset text =
    let long : nat_lt (length points) 4 ≡ false = grind (arith, nat_tests, is.long) in
    let closed : is_closed points ≡ true = closed_test points is.closed in
    rw (long, closed) refl

pub ring_read : (points : List Pt) → IsSoundRing points → Reads ring (path_text points) points
ring_read points is offset text =
    let bytes : List ℕ = join_with_byte 44 (map point_text points) in
    let inside = listed_read point point_text points (omega (arith, is.long)) (each_read IsPt point point_text point_read points is.each) (offset + 1) text in (
      inside.0 + 1,
      ap (λ bytes. ring (tokens_from offset (40 ∷ bytes))) (append_assoc bytes (41 ∷ []) text) ∙ ap (λ answer. followed_by answer ring_end) inside.1 ∙ ring_end_read points is inside.0 text,
    )

pub rings_read : (rings : List (List Pt)) → 0 < length rings → Each IsSoundRing rings → Reads polygon (polygon_text rings) rings
rings_read rings some each = list_of_read IsSoundRing ring path_text (λ points is. reads_inside ring (path_text points) points (ring_read points is)) rings some each

pub paths_read : (paths : List (List Pt)) → 0 < length paths → Each (IsList IsPt) paths → Reads (list_of path) (list_text path_text paths) paths
paths_read paths some each =
    list_of_read (IsList IsPt) path path_text (λ points is. reads_inside path (path_text points) points (points_read points is.some is.each)) paths some each

pub polygons_read : (polygons : List (List (List Pt))) → 0 < length polygons → Each (IsList IsSoundRing) polygons → Reads (list_of polygon) (list_text polygon_text polygons) polygons
polygons_read polygons some each =
    list_of_read (IsList IsSoundRing) polygon polygon_text (λ rings is. reads_inside polygon (polygon_text rings) rings (rings_read rings is.some is.each)) polygons some each

one_point_read : (p : Pt) → IsPt p → Reads (in_parentheses point) (member_text p) p
one_point_read p is = parentheses_read point (point_text p) p (λ offset text. point_read p is offset true text)

pub path_of_one_read : (p : Pt) → IsPt p → Reads one_point (member_text p) (p ∷ [])
path_of_one_read p is offset text =
    let inside = one_point_read p is offset text in
    (inside.0, ap (λ answer. followed_by answer (λ p rest. gives (p ∷ []) rest)) inside.1)

member_read : (p : Pt) → IsPt p → Reads member_point (member_text p) p
member_read p is offset text = one_point_read p is offset text

pub multipoint_read : (points : List Pt) → 0 < length points → Each IsPt points → Reads (list_of member_point) (list_text member_text points) points
multipoint_read points some each =
    list_of_read IsPt member_point member_text (λ p is. reads_inside member_point (member_text p) p (member_read p is)) points some each
