-- Each parser reads at least one token, so the bound on the members of a list is never met.
use Rattle.std.proofs.Common.{◌≡◌, ℕ, ℤ, zero, suc, ◌<◌, ◌≤◌, Bool, true, false, if◌then◌else◌, List, [], ◌∷◌, length, arith, refl, sym, ap, ◌∙◌, Result, Ok, Err}
use Rattle.std.specs.Prelude.{nat_lt}
use Rattle.std.specs.Option.{is_some}
use Rattle.fixed_coord.specs.declared.fault.NumberFault.{NumberFault}
use Rattle.fixed_coord.specs.declared.fault.NumberFault.TheVariants.{NotNumber, NotWhole, OutOfRange as TooFar}
use Rattle.fixed_coord.specs.Number.{parts_of}
use Rattle.fixed_coord.specs.Coordinate.{coord_of}
use Rattle.wkt_text.specs.declared.fault.WktKind.TheVariants.{Syntax, Dimension, ShortRing, OpenRing}
use Rattle.wkt_text.specs.Tokens.{Token, Opening, Closing, Comma, Word}
use Rattle.wkt_text.specs.Geometry.{is_closed}
use Rattle.wkt_text.specs.declared.geometry.Pt.{Pt}
use Rattle.wkt_text.specs.Parser.{Answer, Parser, gives, refuses, followed_by, opening, closing, in_parentheses, and_further, members, listed, list_of, HasNoBound}
use Rattle.wkt_text.specs.Grammar.{units_of, coordinate, no_third, point, path, ring_end, ring, polygon, member_point}
use Rattle.wkt_text.specs.Inner.Listed.{LeavesFewer, ReadsSome}

followed_fewer : {A B : Type 0} (m n : ℕ) (answer : Answer A) (next : A → Parser B) → LeavesFewer m answer
    → ((value : A) (rest : List Token) → length rest < m → LeavesFewer n (next value rest)) → LeavesFewer n (followed_by answer next)
followed_fewer m n (Err offence) next less more = tt
followed_fewer m n (Ok read) next less more = more read.0 read.1 less

fewer_weaker : {A : Type 0} (m n : ℕ) (answer : Answer A) → m ≤ n → LeavesFewer m answer → LeavesFewer n answer
fewer_weaker m n (Err offence) le less = tt
fewer_weaker m n (Ok read) le less = omega (arith, le, less)

opening_some : (tokens : List Token) → LeavesFewer (length tokens) (opening tokens)
opening_some [] = tt
opening_some (Opening offset ∷ rest) = omega arith
opening_some (Closing offset ∷ rest) = tt
opening_some (Comma offset ∷ rest) = tt
opening_some (Word offset word ∷ rest) = tt

closing_some : (tokens : List Token) → LeavesFewer (length tokens) (closing tokens)
closing_some [] = tt
closing_some (Opening offset ∷ rest) = tt
closing_some (Closing offset ∷ rest) = omega arith
closing_some (Comma offset ∷ rest) = tt
closing_some (Word offset word ∷ rest) = tt

-- a parser that may read nothing
abbrev MayRead : {A : Type 0} → Parser A → Type 0
MayRead parser = (tokens : List Token) → LeavesFewer (suc (length tokens)) (parser tokens)

parentheses_some : {A : Type 0} (inner : Parser A) → MayRead inner → (tokens : List Token) → LeavesFewer (length tokens) (in_parentheses inner tokens)
parentheses_some inner may tokens =
    followed_fewer (length tokens) (length tokens) (opening tokens) (λ _ rest. followed_by (inner rest) (λ value behind. followed_by (closing behind) (λ _ last. gives value last))) (opening_some tokens)
    (λ _ rest less.
    followed_fewer (suc (length rest)) (length tokens) (inner rest) (λ value behind. followed_by (closing behind) (λ _ last. gives value last)) (may rest)
    (λ value behind less2.
    followed_fewer (length behind) (length tokens) (closing behind) (λ _ last. gives value last) (closing_some behind) (λ _ last less3. omega (arith, less, less2, less3))))

and_further_may : {A : Type 0} (further : Parser (List A)) → MayRead further → (member : A) → MayRead (and_further further member)
and_further_may further may member [] = omega arith
and_further_may further may member (Opening offset ∷ rest) = omega arith
and_further_may further may member (Closing offset ∷ rest) = omega arith
and_further_may further may member (Comma offset ∷ rest) =
    followed_fewer (suc (length rest)) (suc (suc (length rest))) (further rest) (λ members behind. gives (member ∷ members) behind) (may rest) (λ members behind less. omega (arith, less))
and_further_may further may member (Word offset word ∷ rest) = omega arith

members_may : {A : Type 0} (member : Parser A) → ReadsSome member → (most : ℕ) → MayRead (members most member)
members_may member reads zero tokens = tt
members_may member reads (suc most) tokens =
    followed_fewer (length tokens) (suc (length tokens)) (member tokens) (and_further (members most member)) (reads.some tokens)
    (λ value rest less. fewer_weaker (suc (length rest)) (suc (length tokens)) (and_further (members most member) value rest) (omega (arith, less)) (and_further_may (members most member) (members_may member reads most) value rest))

list_some : {A : Type 0} (member : Parser A) → ReadsSome member → ReadsSome (list_of member)
list_some member reads = record { none = refl; some = parentheses_some (listed member) (λ tokens. members_may member reads (length tokens) tokens) }

units_some : (answer : Result ℤ NumberFault) (token : Token) (rest : List Token) → LeavesFewer (suc (length rest)) (units_of answer token rest)
units_some (Ok units) token rest = omega arith
units_some (Err TooFar) token rest = tt
units_some (Err NotNumber) token rest = tt
units_some (Err NotWhole) token rest = tt

coordinate_some : (tokens : List Token) → LeavesFewer (length tokens) (coordinate tokens)
coordinate_some [] = tt
coordinate_some (Opening offset ∷ rest) = tt
coordinate_some (Closing offset ∷ rest) = tt
coordinate_some (Comma offset ∷ rest) = tt
coordinate_some (Word offset word ∷ rest) = units_some (coord_of word) (Word offset word) rest

third_may : (p : Pt) (number : Bool) (tokens : List Token) → LeavesFewer (suc (length tokens)) ((if number then refuses Dimension else gives p) tokens)
third_may p true tokens = tt
third_may p false tokens = omega arith

no_third_may : (p : Pt) → MayRead (no_third p)
no_third_may p [] = omega arith
no_third_may p (Opening offset ∷ rest) = omega arith
no_third_may p (Closing offset ∷ rest) = omega arith
no_third_may p (Comma offset ∷ rest) = omega arith
no_third_may p (Word offset word ∷ rest) = third_may p (is_some (parts_of word)) (Word offset word ∷ rest)

point_tokens : (tokens : List Token) → LeavesFewer (length tokens) (point tokens)
point_tokens tokens =
    followed_fewer (length tokens) (length tokens) (coordinate tokens) (λ x behind. followed_by (coordinate behind) (λ y rest. no_third (record { x = x; y = y }) rest)) (coordinate_some tokens)
    (λ x behind less.
    followed_fewer (length behind) (length tokens) (coordinate behind) (λ y rest. no_third (record { x = x; y = y }) rest) (coordinate_some behind)
    (λ y rest less2. fewer_weaker (suc (length rest)) (length tokens) (no_third (record { x = x; y = y }) rest) (omega (arith, less, less2)) (no_third_may (record { x = x; y = y }) rest)))

pub point_some : ReadsSome point
point_some = record { none = refl; some = point_tokens }

pub path_some : ReadsSome path
path_some = list_some point point_some

test_fewer : (points : List Pt) (short closed : Bool) (offset : ℕ) (rest : List Token)
    → LeavesFewer (suc (length rest)) (if short then refuses ShortRing (Closing offset ∷ rest) else if closed then gives points rest else refuses OpenRing (Closing offset ∷ rest))
test_fewer points true closed offset rest = tt
test_fewer points false true offset rest = omega arith
test_fewer points false false offset rest = tt

ring_end_fewer : (points : List Pt) (tokens : List Token) → LeavesFewer (length tokens) (ring_end points tokens)
ring_end_fewer points [] = tt
ring_end_fewer points (Opening offset ∷ rest) = tt
ring_end_fewer points (Closing offset ∷ rest) = test_fewer points (nat_lt (length points) 4) (is_closed points) offset rest
ring_end_fewer points (Comma offset ∷ rest) = tt
ring_end_fewer points (Word offset word ∷ rest) = tt

ring_tokens : (tokens : List Token) → LeavesFewer (length tokens) (ring tokens)
ring_tokens tokens =
    followed_fewer (length tokens) (length tokens) (opening tokens) (λ _ inner. followed_by (listed point inner) ring_end) (opening_some tokens)
    (λ _ inner less.
    followed_fewer (suc (length inner)) (length tokens) (listed point inner) ring_end (members_may point point_some (length inner) inner)
    (λ points rest less2. fewer_weaker (length rest) (length tokens) (ring_end points rest) (omega (arith, less, less2)) (ring_end_fewer points rest)))

pub ring_some : ReadsSome ring
ring_some = record { none = refl; some = ring_tokens }

pub polygon_some : ReadsSome polygon
polygon_some = list_some ring ring_some

member_tokens : (tokens : List Token) → LeavesFewer (length tokens) (member_point tokens)
member_tokens [] = tt
member_tokens (Opening offset ∷ rest) = parentheses_some point (λ tokens. fewer_weaker (length tokens) (suc (length tokens)) (point tokens) (omega arith) (point_tokens tokens)) (Opening offset ∷ rest)
member_tokens (Closing offset ∷ rest) = tt
member_tokens (Comma offset ∷ rest) = tt
member_tokens (Word offset word ∷ rest) = point_tokens (Word offset word ∷ rest)

pub member_some : ReadsSome member_point
member_some = record { none = refl; some = member_tokens }

-- two bounds that are not met
further_same : {A : Type 0} (f g : Parser (List A)) (member : A) (rest : List Token) → ((tokens : List Token) → length tokens < length rest → f tokens ≡ g tokens) → and_further f member rest ≡ and_further g member rest
further_same f g member [] same = refl
further_same f g member (Opening offset ∷ rest) same = refl
further_same f g member (Closing offset ∷ rest) same = refl
further_same f g member (Comma offset ∷ rest) same = ap (λ answer. followed_by answer (λ members behind. gives (member ∷ members) behind)) (same rest (omega arith))
further_same f g member (Word offset word ∷ rest) same = refl

followed_same : {A B : Type 0} (n : ℕ) (answer : Answer A) (f g : A → Parser B) → LeavesFewer n answer → ((value : A) (rest : List Token) → length rest < n → f value rest ≡ g value rest) → followed_by answer f ≡ followed_by answer g
followed_same n (Err offence) f g less same = refl
followed_same n (Ok read) f g less same = same read.0 read.1 less

none_listed : {A : Type 0} (member : Parser A) → ReadsSome member → (most : ℕ) → members most member [] ≡ Err (Syntax, [])
none_listed member reads zero = refl
none_listed member reads (suc most) = ap (λ answer. followed_by answer (and_further (members most member))) reads.none

members_same : {A : Type 0} (member : Parser A) → ReadsSome member → (m n : ℕ) (tokens : List Token) → length tokens ≤ m → length tokens ≤ n → members m member tokens ≡ members n member tokens
members_same member reads m n [] few few2 = none_listed member reads m ∙ sym (none_listed member reads n)
members_same member reads zero n (token ∷ tokens) few few2 = absurd (omega (arith, few))
members_same member reads (suc m) zero (token ∷ tokens) few few2 = absurd (omega (arith, few2))
members_same member reads (suc m) (suc n) (token ∷ tokens) few few2 =
    followed_same (length (token ∷ tokens)) (member (token ∷ tokens)) (and_further (members m member)) (and_further (members n member)) (reads.some (token ∷ tokens))
    (λ value rest less. further_same (members m member) (members n member) value rest (λ inner less2. members_same member reads m n inner (omega (arith, few, less, less2)) (omega (arith, few2, less, less2))))

step_same : {A : Type 0} (member : Parser A) → ReadsSome member → (tokens : List Token) → members (suc (length tokens)) member tokens ≡ followed_by (member tokens) (and_further (listed member))
step_same member reads tokens =
    followed_same (length tokens) (member tokens) (and_further (members (length tokens) member)) (and_further (listed member)) (reads.some tokens)
    (λ value rest less. further_same (members (length tokens) member) (listed member) value rest (λ inner less2. members_same member reads (length tokens) (length inner) inner (omega (arith, less, less2)) (omega arith)))

pub listed_step : {A : Type 0} (member : Parser A) → ReadsSome member → HasNoBound member
listed_step member reads tokens = members_same member reads (length tokens) (suc (length tokens)) tokens (omega arith) (omega arith) ∙ step_same member reads tokens
