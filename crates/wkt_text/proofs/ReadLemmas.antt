-- Each parser reads what is spelled for it.
use Rattle.std.proofs.Common.{◌≡◌, ℕ, ℤ, zero, suc, ◌+◌, ◌<◌, ◌≤◌, Bool, true, false, List, [], ◌∷◌, ◌++◌, length, arith, refl, ap, ◌∙◌, Ok, append_assoc}
use Rattle.std.specs.Prelude.{map}
use Rattle.std.specs.List.{join_with_byte}
use Rattle.fixed_coord.specs.Coordinate.{IsCoord, coord_places}
use Rattle.fixed_coord.specs.Shortest.{shortest}
use Rattle.wkt_text.specs.Tokens.{Word, begins_with_word, tokens_from}
use Rattle.wkt_text.specs.Geometry.{IsPt}
use Rattle.wkt_text.specs.declared.geometry.Pt.{Pt}
use Rattle.wkt_text.proofs.EachLemmas.{Each}
use Rattle.wkt_text.specs.Parser.{Parser, gives, followed_by, in_parentheses, closing, and_further, members, listed, list_of}
use Rattle.wkt_text.specs.Grammar.{units_of, coordinate, no_third, point}
use Rattle.wkt_text.specs.Spelling.{point_text, in_parentheses_text, list_text}
use Rattle.wkt_text.proofs.TokenLemmas.{word_token, front_longer}
use Rattle.wkt_text.proofs.NumberLemmas.{IsWord, shortest_word, coord_small, coord_reads}

-- a comma or a closing parenthesis
abbrev pub end_byte : Bool → ℕ
end_byte true = 41
end_byte false = 44

-- what the parser reads of the spelling is the value, whatever text stands behind it
abbrev pub Reads : {A : Type 0} → Parser A → List ℕ → A → Type 0
Reads parser spelling value = (offset : ℕ) (text : List ℕ) → (after : ℕ) × (parser (tokens_from offset (spelling ++ text)) ≡ Ok (value, tokens_from after text))

-- the same where a comma or a closing parenthesis stands behind it
abbrev pub ReadsInside : {A : Type 0} → Parser A → List ℕ → A → Type 0
ReadsInside parser spelling value =
    (offset : ℕ) (last : Bool) (text : List ℕ) → (after : ℕ) × (parser (tokens_from offset (spelling ++ end_byte last ∷ text)) ≡ Ok (value, tokens_from after (end_byte last ∷ text)))

pub reads_inside : {A : Type 0} (parser : Parser A) (spelling : List ℕ) (value : A) → Reads parser spelling value → ReadsInside parser spelling value
reads_inside parser spelling value reads offset last text = reads offset (end_byte last ∷ text)

-- a coordinate, where no word begins behind it
coordinate_read : (v : ℤ) → IsCoord v → (offset : ℕ) (text : List ℕ) → begins_with_word text ≡ false
    → (after : ℕ) × (coordinate (tokens_from offset (shortest v coord_places ++ text)) ≡ Ok (v, tokens_from after text))
coordinate_read v is offset text ends =
    let word : IsWord (shortest v coord_places) = shortest_word v coord_places (coord_small v is) in
    let token = word_token (shortest v coord_places) text offset word.some word.letters ends in (
      token.0,
      ap coordinate token.1
          ∙ ap (λ answer. units_of answer (Word offset (shortest v coord_places)) (tokens_from token.0 text)) (coord_reads v is),
    )

no_third_read : (p : Pt) (offset : ℕ) (last : Bool) (text : List ℕ) → no_third p (tokens_from offset (end_byte last ∷ text)) ≡ Ok (p, tokens_from offset (end_byte last ∷ text))
no_third_read p offset true text = refl
no_third_read p offset false text = refl

no_word : (last : Bool) (text : List ℕ) → begins_with_word (end_byte last ∷ text) ≡ false
no_word true text = refl
no_word false text = refl

pub point_read : (p : Pt) → IsPt p → ReadsInside point (point_text p) p
point_read p is offset last text =
    let behind : List ℕ = 32 ∷ (shortest p.y coord_places ++ end_byte last ∷ text) in
    let x = coordinate_read p.x is.x offset behind refl in
    let y = coordinate_read p.y is.y (x.0 + 1) (end_byte last ∷ text) (no_word last text) in (
      y.0,
      ap (λ bytes. point (tokens_from offset bytes)) (append_assoc (shortest p.x coord_places) (32 ∷ shortest p.y coord_places) (end_byte last ∷ text))
          ∙ ap (λ answer. followed_by answer (λ x behind. followed_by (coordinate behind) (λ y rest. no_third (record { x = x; y = y }) rest))) x.1
          ∙ ap (λ answer. followed_by answer (λ y rest. no_third (record { x = p.x; y = y }) rest)) y.1
          ∙ no_third_read p y.0 last text,
    )

-- parentheses round it
pub parentheses_read : {A : Type 0} (inner : Parser A) (spelling : List ℕ) (value : A)
    → ((offset : ℕ) (text : List ℕ) → (after : ℕ) × (inner (tokens_from offset (spelling ++ 41 ∷ text)) ≡ Ok (value, tokens_from after (41 ∷ text))))
    → Reads (in_parentheses inner) (in_parentheses_text spelling) value
parentheses_read inner spelling value reads offset text =
    let inside = reads (offset + 1) text in (
      inside.0 + 1,
      ap (λ bytes. in_parentheses inner (tokens_from offset (40 ∷ bytes))) (append_assoc spelling (41 ∷ []) text)
          ∙ ap (λ answer. followed_by answer (λ value behind. followed_by (closing behind) (λ _ last. gives value last))) inside.1,
    )

-- each member is read
abbrev pub AreRead : {A : Type 0} → Parser A → (A → List ℕ) → List A → Type 0
AreRead member text xs = Each (λ x. ReadsInside member (text x) x) xs

members_read : {A : Type 0} (member : Parser A) (spelled : A → List ℕ) (xs : List A) → 0 < length xs → AreRead member spelled xs
    → (most : ℕ) → length xs ≤ most → (offset : ℕ) (text : List ℕ)
    → (after : ℕ) × (members most member (tokens_from offset (join_with_byte 44 (map spelled xs) ++ 41 ∷ text)) ≡ Ok (xs, tokens_from after (41 ∷ text)))
members_read member spelled [] some reads most few offset text = absurd (omega (arith, some))
members_read member spelled (x ∷ xs) some reads zero few offset text = absurd (omega (arith, few))
members_read member spelled (x ∷ []) some reads (suc most) few offset text =
    let first = reads.0 offset true text in
    (first.0, ap (λ answer. followed_by answer (and_further (members most member))) first.1)
members_read member spelled (x ∷ y ∷ xs) some reads (suc most) few offset text =
    let rest : List ℕ = join_with_byte 44 (map spelled (y ∷ xs)) in
    let first = reads.0 offset false (rest ++ 41 ∷ text) in
    let more = members_read member spelled (y ∷ xs) (omega arith) reads.1 most (omega (arith, few)) (first.0 + 1) text in (
      more.0,
      ap (λ bytes. members (suc most) member (tokens_from offset bytes)) (append_assoc (spelled x) (44 ∷ rest) (41 ∷ text))
          ∙ ap (λ answer. followed_by answer (and_further (members most member))) first.1
          ∙ ap (λ answer. followed_by answer (λ members behind. gives (x ∷ members) behind)) more.1,
    )

-- there are not more members than tokens
members_few : {A : Type 0} (spelled : A → List ℕ) (xs : List A) (offset : ℕ) (text : List ℕ) → length xs ≤ length (tokens_from offset (join_with_byte 44 (map spelled xs) ++ 41 ∷ text))
members_few spelled [] offset text = omega arith
members_few spelled (x ∷ []) offset text =
    let front = front_longer (spelled x) (41 ∷ text) offset in
    omega (arith, front.1)
members_few spelled (x ∷ y ∷ xs) offset text =
    let rest : List ℕ = join_with_byte 44 (map spelled (y ∷ xs)) in
    let front = front_longer (spelled x) (44 ∷ (rest ++ 41 ∷ text)) offset in
    let more : length (y ∷ xs) ≤ length (tokens_from (front.0 + 1) (rest ++ 41 ∷ text)) = members_few spelled (y ∷ xs) (front.0 + 1) text in
    rw (append_assoc (spelled x) (44 ∷ rest) (41 ∷ text)) (omega (arith, front.1, more))

pub listed_read : {A : Type 0} (member : Parser A) (spelled : A → List ℕ) (xs : List A) → 0 < length xs → AreRead member spelled xs
    → (offset : ℕ) (text : List ℕ)
    → (after : ℕ) × (listed member (tokens_from offset (join_with_byte 44 (map spelled xs) ++ 41 ∷ text)) ≡ Ok (xs, tokens_from after (41 ∷ text)))
listed_read member spelled xs some reads offset text =
    members_read member spelled xs some reads (length (tokens_from offset (join_with_byte 44 (map spelled xs) ++ 41 ∷ text))) (members_few spelled xs offset text) offset text

pub list_read : {A : Type 0} (member : Parser A) (spelled : A → List ℕ) (xs : List A) → 0 < length xs → AreRead member spelled xs
    → Reads (list_of member) (list_text spelled xs) xs
list_read member spelled xs some reads = parentheses_read (listed member) (join_with_byte 44 (map spelled xs)) xs (listed_read member spelled xs some reads)
