-- A geometry that is read can be written.
use Rattle.std.proofs.Common.{◌≡◌, ℕ, ℤ, zero, suc, ◌<◌, ◌≤◌, Bool, true, false, if◌then◌else◌, List, [], ◌∷◌, length, arith, refl, ap, ◌∙◌, subst, Ok, Err}
use Rattle.std.specs.Prelude.{nat_lt}
use Rattle.std.specs.Ordering.{int_eq}
use Rattle.std.proofs.lemmas.Bool.{false≢true, and_parts}
use Rattle.std.proofs.lemmas.Bool.Decides.{nat_tests}
use Rattle.std.proofs.lemmas.Int.{ints}
use Rattle.wkt_text.specs.declared.fault.WktKind.TheVariants.{ShortRing, OpenRing}
use Rattle.wkt_text.specs.declared.geometry.Pt.{Pt}
use Rattle.wkt_text.specs.declared.geometry.Geometry.{Geometry}
use Rattle.wkt_text.specs.declared.geometry.Geometry.TheVariants as geometry
use Rattle.wkt_text.specs.declared.kind.Kind.{Kind}
use Rattle.wkt_text.specs.declared.kind.Kind.TheVariants.{Point, LineString, Polygon, MultiPoint, MultiLineString, MultiPolygon}
use Rattle.wkt_text.specs.Tokens.{Token, Opening, Closing, Comma, Word}
use Rattle.wkt_text.specs.Geometry.{IsClosed, IsRing, IsPolygon, IsWritable, is_closed, last_from}
use Rattle.wkt_text.specs.Parser.{Answer, Parser, gives, refuses, followed_by, opening, closing, closed, in_parentheses, and_further, members, listed, list_of}
use Rattle.wkt_text.specs.Grammar.{point, one_point, path, ring_end, ring, polygon, member_point, kind, empty, empty_word, made, body, empty_or_body, kind_and_body, ending, whole}
use Rattle.wkt_text.proofs.EachLemmas.{all_of_each, each_more}
use Rattle.wkt_text.proofs.SoundLemmas.{IsList}

-- what is read meets the condition
abbrev Gives : {A : Type 0} → (A → Type 0) → Answer A → Type 0
Gives P (Err offence) = Unit {0}
Gives P (Ok read) = P read.0

followed_gives : {A B : Type 0} (P : A → Type 0) (Q : B → Type 0) (answer : Answer A) (next : A → Parser B) → Gives P answer
    → ((value : A) (rest : List Token) → P value → Gives Q (next value rest)) → Gives Q (followed_by answer next)
followed_gives P Q (Err offence) next is more = tt
followed_gives P Q (Ok read) next is more = more read.0 read.1 is

-- no condition
abbrev Anything : {A : Type 0} → A → Type 0
Anything value = Unit {0}

any : {A : Type 0} (answer : Answer A) → Gives Anything answer
any (Err offence) = tt
any (Ok read) = tt

closed_gives : {A : Type 0} (P : A → Type 0) (value : A) (tokens : List Token) → P value → Gives P (closed value tokens)
closed_gives P value tokens is =
    followed_gives Anything P (closing tokens) (λ _ rest. gives value rest) (any (closing tokens)) (λ _ _ _. is)

parentheses_gives : {A : Type 0} (P : A → Type 0) (inner : Parser A) → ((tokens : List Token) → Gives P (inner tokens)) → (tokens : List Token) → Gives P (in_parentheses inner tokens)
parentheses_gives P inner is tokens =
    followed_gives Anything P (opening tokens) (λ _ rest. followed_by (inner rest) closed) (any (opening tokens))
    (λ _ rest _. followed_gives P P (inner rest) closed (is rest) (λ value behind good. closed_gives P value behind good))

further_gives : {A : Type 0} (P : A → Type 0) (further : Parser (List A)) → ((tokens : List Token) → Gives (IsList P) (further tokens)) → (member : A) → P member → (tokens : List Token)
    → Gives (IsList P) (and_further further member tokens)
further_gives P further is member good [] = record { some = omega arith; each = (good, tt) }
further_gives P further is member good (Opening offset ∷ rest) = record { some = omega arith; each = (good, tt) }
further_gives P further is member good (Closing offset ∷ rest) = record { some = omega arith; each = (good, tt) }
further_gives P further is member good (Comma offset ∷ rest) =
    followed_gives (IsList P) (IsList P) (further rest) (λ members behind. gives (member ∷ members) behind) (is rest)
    (λ members behind all. record { some = omega arith; each = (good, all.each) })
further_gives P further is member good (Word offset word ∷ rest) = record { some = omega arith; each = (good, tt) }

members_gives : {A : Type 0} (P : A → Type 0) (member : Parser A) → ((tokens : List Token) → Gives P (member tokens)) → (most : ℕ) (tokens : List Token) → Gives (IsList P) (members most member tokens)
members_gives P member is zero tokens = tt
members_gives P member is (suc most) tokens =
    followed_gives P (IsList P) (member tokens) (and_further (members most member)) (is tokens)
    (λ value rest good. further_gives P (members most member) (members_gives P member is most) value good rest)

listed_gives : {A : Type 0} (P : A → Type 0) (member : Parser A) → ((tokens : List Token) → Gives P (member tokens)) → (tokens : List Token) → Gives (IsList P) (listed member tokens)
listed_gives P member is tokens = members_gives P member is (length tokens) tokens

list_gives : {A : Type 0} (P : A → Type 0) (member : Parser A) → ((tokens : List Token) → Gives P (member tokens)) → (tokens : List Token) → Gives (IsList P) (list_of member tokens)
list_gives P member is tokens = parentheses_gives (IsList P) (listed member) (listed_gives P member is) tokens

same_numbers : (v w : ℤ) → int_eq v w ≡ true → v ≡ w
same_numbers v w e = grind (arith, ints, e)

same_points : (p q : Pt) → int_eq p.x q.x ≡ true → int_eq p.y q.y ≡ true → p ≡ q
same_points p q x y =
    ap (λ v. record { x = v; y = p.y }) (same_numbers p.x q.x x) ∙ ap (λ v. record { x = q.x; y = v }) (same_numbers p.y q.y y)

from_closed : (points : List Pt) → is_closed points ≡ true → IsClosed points
from_closed [] e = false≢true e
from_closed (p ∷ points) e =
    let last : Pt = last_from p points in
    let both : (int_eq p.x last.x ≡ true) × (int_eq p.y last.y ≡ true) = and_parts (int_eq p.x last.x) (int_eq p.y last.y) e in
    same_points p last both.0 both.1

test_gives : (points : List Pt) (short closed : Bool) (offset : ℕ) (rest : List Token) → nat_lt (length points) 4 ≡ short → is_closed points ≡ closed
    → Gives IsRing (if short then refuses ShortRing (Closing offset ∷ rest) else if closed then gives points rest else refuses OpenRing (Closing offset ∷ rest))
test_gives points true closed offset rest e f = tt
test_gives points false true offset rest e f = record { long = grind (arith, nat_tests, e); closed = from_closed points f }
test_gives points false false offset rest e f = tt

ring_end_gives : (points : List Pt) (tokens : List Token) → Gives IsRing (ring_end points tokens)
ring_end_gives points [] = tt
ring_end_gives points (Opening offset ∷ rest) = tt
ring_end_gives points (Closing offset ∷ rest) = test_gives points (nat_lt (length points) 4) (is_closed points) offset rest refl refl
ring_end_gives points (Comma offset ∷ rest) = tt
ring_end_gives points (Word offset word ∷ rest) = tt

ring_gives : (tokens : List Token) → Gives IsRing (ring tokens)
ring_gives tokens =
    followed_gives Anything IsRing (opening tokens) (λ _ inner. followed_by (listed point inner) ring_end) (any (opening tokens))
    (λ _ inner _. followed_gives Anything IsRing (listed point inner) ring_end (any (listed point inner)) (λ points rest _. ring_end_gives points rest))

polygon_gives : (tokens : List Token) → Gives (IsList IsRing) (polygon tokens)
polygon_gives tokens = list_gives IsRing ring ring_gives tokens

path_gives : (tokens : List Token) → Gives (IsList Anything) (path tokens)
path_gives tokens = list_gives Anything point (λ tokens. any (point tokens)) tokens

rings_writable : (rings : List (List Pt)) → IsList IsRing rings → IsPolygon rings
rings_writable rings is = record { some = is.some; each = all_of_each IsRing rings is.each }

one_point_gives : (tokens : List Token) → Gives (λ path. length path ≤ 1) (one_point tokens)
one_point_gives tokens =
    followed_gives Anything (λ path. length path ≤ 1) (in_parentheses point tokens) (λ p rest. gives (p ∷ []) rest) (any (in_parentheses point tokens)) (λ p rest _. omega arith)

made_gives : {A : Type 0} (P : A → Type 0) (make : A → Geometry) (answer : Answer A) → Gives P answer → ((value : A) → P value → IsWritable (make value)) → Gives IsWritable (made make answer)
made_gives P make answer is good = followed_gives P IsWritable answer (λ value rest. gives (make value) rest) is (λ value rest. good value)

body_gives : (kind : Kind) (tokens : List Token) → Gives IsWritable (body kind tokens)
body_gives Point tokens =
    made_gives (λ path. length path ≤ 1) geometry.Point (one_point tokens) (one_point_gives tokens) (λ path few. few)
body_gives LineString tokens = made_gives Anything geometry.LineString (path tokens) (any (path tokens)) (λ points _. tt)
body_gives Polygon tokens =
    made_gives (IsList IsRing) geometry.Polygon (polygon tokens) (polygon_gives tokens) (λ rings is. (rings_writable rings is).each)
body_gives MultiPoint tokens =
    made_gives Anything geometry.MultiPoint (list_of member_point tokens) (any (list_of member_point tokens)) (λ points _. tt)
body_gives MultiLineString tokens =
    made_gives (IsList (IsList Anything)) geometry.MultiLineString (list_of path tokens) (list_gives (IsList Anything) path path_gives tokens)
    (λ paths is. all_of_each (λ path. 0 < length path) paths (each_more (IsList Anything) (λ path. 0 < length path) paths (λ path is. is.some) is.each))
body_gives MultiPolygon tokens =
    made_gives (IsList (IsList IsRing)) geometry.MultiPolygon (list_of polygon tokens) (list_gives (IsList IsRing) polygon polygon_gives tokens)
    (λ polygons is. all_of_each IsPolygon polygons (each_more (IsList IsRing) IsPolygon polygons rings_writable is.each))

empty_writable : (kind : Kind) → IsWritable (empty kind)
empty_writable Point = omega arith
empty_writable LineString = tt
empty_writable Polygon = all_of_each IsRing [] tt
empty_writable MultiPoint = tt
empty_writable MultiLineString = all_of_each (λ path. 0 < length path) [] tt
empty_writable MultiPolygon = all_of_each IsPolygon [] tt

empty_or_body_gives : (kind : Kind) (none : Bool) (tokens : List Token) → Gives IsWritable (empty_or_body kind none tokens)
empty_or_body_gives kind true tokens = empty_writable kind
empty_or_body_gives kind false tokens = body_gives kind tokens

geometry_gives : (tokens : List Token) → Gives IsWritable (kind_and_body tokens)
geometry_gives tokens =
    followed_gives Anything IsWritable (kind tokens) (λ kind rest. followed_by (empty_word rest) (empty_or_body kind)) (any (kind tokens))
    (λ kind rest _.
    followed_gives Anything IsWritable (empty_word rest) (empty_or_body kind) (any (empty_word rest)) (λ none behind _. empty_or_body_gives kind none behind))

ending_gives : (g : Geometry) → IsWritable g → (tokens : List Token) → Gives IsWritable (ending g tokens)
ending_gives g is [] = is
ending_gives g is (token ∷ rest) = tt

pub whole_writable : (tokens : List Token) (g : Geometry) (rest : List Token) → whole tokens ≡ Ok (g, rest) → IsWritable g
whole_writable tokens g rest e =
    subst (Gives IsWritable) e
    (followed_gives IsWritable IsWritable (kind_and_body tokens) ending (geometry_gives tokens) (λ value rest is. ending_gives value is rest))
