-- The tokens of a canonical text.
use Rattle.std.proofs.Common.{◌≡◌, ℕ, ℤ, suc, ◌+◌, ◌%◌, ◌/◌, ◌^◌, ◌<◌, ◌≤◌, Bool, true, false, ◌==◌, List, [], ◌∷◌, ◌++◌, length, pos, negsuc, unsigned_abs, not, arith, refl, ap, ◌∙◌, append_assoc}
use Rattle.std.specs.Prelude.{◌&&◌, if◌then◌else◌, map}
use Rattle.std.specs.Char.{is_ascii_digit}
use Rattle.std.specs.Fmt.{decimal}
use Rattle.std.specs.List.{flat_map, join_with_byte, list_all}
use Rattle.std.proofs.lemmas.Bool.{false≢true}
use Rattle.std.specs.Str.Parse.{AllDigits, IsNumeral}
use Rattle.std.proofs.Math.Nat.{div-le_self}
use Rattle.std.proofs.lemmas.Bool.Decides.{nat_tests}
use Rattle.std.proofs.lemmas.Fmt.{decimal_is_IsNumeral_wide}
use Rattle.fixed_coord.specs.Limits.{largest}
use Rattle.fixed_coord.specs.Shortest.{decimals, point_and_decimals, shortest, shortest_size}
use Rattle.fixed_coord.proofs.CutLemmas.{pow10_pos}
use Rattle.fixed_coord.proofs.ShortestLemmas.{decimals_spell}
use Rattle.fixed_coord.proofs.TextLemmas.{digit_of}
use Rattle.asc_grid.specs.Tokens.{Token, is_blank, is_line_end, tokens_from}
use Rattle.asc_grid.specs.Header.{begins_number}
use Rattle.asc_grid.specs.Canonical.{header_line, row_text}
use Rattle.asc_grid.proofs.TokenLemmas.{solid_stays}

-- no byte is blank
abbrev pub AllSolid : List ℕ → Type 0
AllSolid [] = Unit {0}
AllSolid (byte ∷ bytes) = (is_blank byte ≡ false) × AllSolid bytes

-- a token's text
pub record IsWord (word : List ℕ) : Type 0 where
  pub some : 0 < length word
  pub solid : AllSolid word

-- a token's text that begins a number
pub record IsNumberWord (word : List ℕ) : Type 0 where
  pub word_is : IsWord word
  pub number : begins_number word ≡ true

-- a text whose bytes are tested
solid_by : (b : Bool) (bytes : List ℕ) → (not b && list_all (λ byte. not (is_blank byte)) bytes) ≡ true → (b ≡ false) × (list_all (λ byte. not (is_blank byte)) bytes ≡ true)
solid_by true bytes is = absurd (false≢true is)
solid_by false bytes is = (refl, is)

solid_word : (word : List ℕ) → list_all (λ byte. not (is_blank byte)) word ≡ true → AllSolid word
solid_word [] is = tt
solid_word (byte ∷ bytes) is =
    let parts = solid_by (is_blank byte) bytes is in
    (parts.0, solid_word bytes parts.1)

pub word_by : (byte : ℕ) (bytes : List ℕ) → list_all (λ b. not (is_blank b)) (byte ∷ bytes) ≡ true → IsWord (byte ∷ bytes)
word_by byte bytes is = record { some = omega arith; solid = solid_word (byte ∷ bytes) is }

ascii_solid : (byte : ℕ) → is_ascii_digit byte ≡ true → is_blank byte ≡ false
ascii_solid byte digit = grind (arith, nat_tests)

solid_digits : (ds : List ℕ) → AllDigits 10 ds → AllSolid ds
solid_digits [] all = tt
solid_digits (d ∷ ds) all = (ascii_solid d (digit_of d all.0), solid_digits ds all.1)

solid_append : (xs ys : List ℕ) → AllSolid xs → AllSolid ys → AllSolid (xs ++ ys)
solid_append [] ys one two = two
solid_append (x ∷ xs) ys one two = (one.0, solid_append xs ys one.1 two)

solid_point : (b : Bool) (ds : List ℕ) → AllSolid ds → AllSolid (if b then [] else 46 ∷ ds)
solid_point true ds all = tt
solid_point false ds all = (refl, all)

number_by : (d : ℕ) (ds : List ℕ) → is_ascii_digit d ≡ true → begins_number (d ∷ ds) ≡ true
number_by d ds digit = rw digit refl

digits_begin : (ds more : List ℕ) → IsNumeral 10 ds → begins_number (ds ++ more) ≡ true
digits_begin [] more numeral = absurd (omega (arith, numeral.0))
digits_begin (d ∷ ds) more numeral = number_by d (ds ++ more) (digit_of d numeral.1.0)

size_word : (size places : ℕ) → size ≤ largest → IsNumberWord (shortest_size size places)
size_word size places small =
    let whole : ℕ = size / 10 ^ places in
    let rest : ℕ = size % 10 ^ places in
    let numeral : IsNumeral 10 (decimal whole) = (decimal_is_IsNumeral_wide whole (omega (arith, div-le_self size (10 ^ places), small))).0 in
    let spelled_rest = decimals_spell places rest (omega (arith, pow10_pos places)) in
    let behind : AllSolid (point_and_decimals places rest) = solid_point (rest == 0) (decimals places rest) (solid_digits _ spelled_rest.digits) in
    record {
      word_is = record {
        some = length_some (decimal whole) (point_and_decimals places rest) numeral.0;
        solid = solid_append (decimal whole) (point_and_decimals places rest) (solid_digits _ numeral.1) behind;
      };
      number = digits_begin (decimal whole) (point_and_decimals places rest) numeral;
    }
  where
    length_some : (xs ys : List ℕ) → 0 < length xs → 0 < length (xs ++ ys)
    length_some [] ys none = absurd (omega (arith, none))
    length_some (x ∷ xs) ys some = omega arith

-- the shortest text of a number is one token, which begins a number
pub shortest_word : (v : ℤ) (places : ℕ) → unsigned_abs v ≤ largest → IsNumberWord (shortest v places)
shortest_word (pos size) places small = size_word size places small
shortest_word (negsuc size) places small =
    let word = size_word (suc size) places small in
    record { word_is = record { some = omega arith; solid = (refl, word.word_is.solid) }; number = refl }

-- a word and a blank: one token
pub token_then : (line : ℕ) (word : List ℕ) (blank : ℕ) (rest : List ℕ) → IsWord word → is_blank blank ≡ true → tokens_from line (word ++ blank ∷ rest) ≡ record { text = word; line = line } ∷ tokens_from (if is_line_end blank then line + 1 else line) rest
token_then line [] blank rest word is = absurd (omega (arith, word.some))
token_then line (byte ∷ []) blank rest word is =
    rw (word.solid.0, solid_stays byte word.solid.0, is) refl
token_then line (byte ∷ next ∷ bytes) blank rest word is =
    let more = token_then line (next ∷ bytes) blank rest (record { some = omega arith; solid = word.solid.1 }) is in
    rw (solid_stays byte word.solid.0, more, word.solid.0, word.solid.1.0) refl

-- a line of the header: two tokens
pub header_line-tokens : (line : ℕ) (keyword value rest : List ℕ) → IsWord keyword → IsWord value → tokens_from line (header_line keyword value ++ rest) ≡ record { text = keyword; line = line } ∷ record { text = value; line = line } ∷ tokens_from (line + 1) rest
header_line-tokens line keyword value rest one two =
    let parts : header_line keyword value ++ rest ≡ keyword ++ 32 ∷ (value ++ 10 ∷ rest) = append_assoc keyword (32 ∷ (value ++ 10 ∷ [])) rest ∙ ap (λ xs. keyword ++ 32 ∷ xs) (append_assoc value (10 ∷ []) rest) in
    let first = token_then line keyword 32 (value ++ 10 ∷ rest) one refl in
    let second = token_then line value 10 rest two refl in
    rw (parts, first, second) refl

-- each cell's text is one token, which begins a number
abbrev pub AllWords : {T : Type 0} → (T → List ℕ) → List T → Type 0
AllWords spell [] = Unit {0}
AllWords spell (cell ∷ cells) = IsNumberWord (spell cell) × AllWords spell cells

-- the tokens of a row that stands on a line
abbrev pub row_tokens : {T : Type 0} → (T → List ℕ) → ℕ → List T → List Token
row_tokens spell line row = map (λ cell. record { text = spell cell; line = line }) row

pub row_text-tokens : {T : Type 0} (spell : T → List ℕ) (line : ℕ) (row : List T) (rest : List ℕ) → 0 < length row → AllWords spell row → tokens_from line (row_text spell row ++ rest) ≡ row_tokens spell line row ++ tokens_from (line + 1) rest
row_text-tokens spell line [] rest some words = absurd (omega (arith, some))
row_text-tokens spell line (cell ∷ []) rest some words =
    let parts : row_text spell (cell ∷ []) ++ rest ≡ spell cell ++ 10 ∷ rest = append_assoc (spell cell) (10 ∷ []) rest in
    rw (parts, token_then line (spell cell) 10 rest words.0.word_is refl) refl
row_text-tokens spell line (cell ∷ next ∷ cells) rest some words =
    let behind : List ℕ = join_with_byte 32 (map spell (next ∷ cells)) in
    let parts : row_text spell (cell ∷ next ∷ cells) ++ rest ≡ spell cell ++ 32 ∷ (row_text spell (next ∷ cells) ++ rest) =
    ap (λ xs. xs ++ rest) (append_assoc (spell cell) (32 ∷ behind) (10 ∷ [])) ∙ append_assoc (spell cell) (32 ∷ (behind ++ 10 ∷ [])) rest in
    let more = row_text-tokens spell line (next ∷ cells) rest (omega arith) words.1 in
    rw (parts, token_then line (spell cell) 32 _ words.0.word_is refl, more) refl

-- the rows from a line on
abbrev pub rows_tokens : {T : Type 0} → (T → List ℕ) → ℕ → List (List T) → List Token
rows_tokens spell line [] = []
rows_tokens spell line (row ∷ rows) = row_tokens spell line row ++ rows_tokens spell (line + 1) rows

abbrev pub AllRows : {T : Type 0} → (T → List ℕ) → List (List T) → Type 0
AllRows spell [] = Unit {0}
AllRows spell (row ∷ rows) = (0 < length row) × AllWords spell row × AllRows spell rows

pub rows_text-tokens : {T : Type 0} (spell : T → List ℕ) (line : ℕ) (rows : List (List T)) → AllRows spell rows → tokens_from line (flat_map (row_text spell) rows) ≡ rows_tokens spell line rows
rows_text-tokens spell line [] all = refl
rows_text-tokens spell line (row ∷ rows) all =
    row_text-tokens spell line row (flat_map (row_text spell) rows) all.0 all.1 ∙ ap (λ ts. row_tokens spell line row ++ ts) (rows_text-tokens spell (line + 1) rows all.2)
