-- How the words are cut from an index on.
use Rattle.std.proofs.Common.{◌≡◌, ◌+◌, ◌++◌, ◌∷◌, [], ◌∙◌, ℕ, zero, suc, List, Option, Some, None, true, false, min, length, take, drop, ap, refl, sym, arith}
use Rattle.std.specs.Prelude.{slice_get}
use Rattle.std.specs.List.{prefix_len}
use Rattle.std.specs.Option.{option_or}
use Rattle.std.proofs.lemmas.Grind.{common_steps}
use Rattle.std.proofs.lemmas.List.Sums.{fold-append}
use Rattle.std.proofs.lemmas.List.Elements.{filter_map-append}
use Rattle.std.proofs.lemmas.List.{length-append}
use Rattle.std.proofs.lemmas.Option.{none-some, same_Some}
use Rattle.tool_words.specs.Words.{Text}
use Rattle.tool_words.specs.Value.{is_number}
use Rattle.tool_words.specs.Grammar.{Grammar, Piece, cut, name_in, names_of, values_behind}
use Rattle.tool_words.specs.Offence.{first_wrong, wrong_piece}
use Rattle.tool_words.specs.Chosen.{chooses_next, chosen_by}

-- the words that are values of the option before them can be passed over at once
pub passed : (grammar : Grammar) (place values : ℕ) (words : List Text) → cut grammar place values words ≡ cut grammar (place + values) zero (drop values words)
passed grammar place zero words = ap (λ p. cut grammar p zero words) (omega arith)
passed grammar place (suc values) [] = refl
passed grammar place (suc values) (word ∷ words) =
    passed grammar (suc place) values words ∙ ap (λ p. cut grammar p zero (drop values words)) (omega arith)

-- a word, and the words behind it
pub word_at : (words : List Text) (at : ℕ) (word : Text) → slice_get words at ≡ Some word → drop at words ≡ word ∷ drop (at + 1) words
word_at [] at word is = absurd (none-some word is)
word_at (first ∷ words) zero word is = ap (λ w. w ∷ words) (same_Some first word is)
word_at (first ∷ words) (suc at) word is =
    let next : suc (at + 1) ≡ suc at + 1 = omega arith in
    word_at words at word is ∙ ap (λ n. word ∷ drop n (first ∷ words)) next

pub none_at : (words : List Text) (at : ℕ) → slice_get words at ≡ None → drop at words ≡ []
none_at [] zero is = refl
none_at [] (suc at) is = refl
none_at (first ∷ words) zero is = absurd (none-some first (sym is))
none_at (first ∷ words) (suc at) is = none_at words at is

-- the piece at an index, and the words behind it
pub cut_at : (grammar : Grammar) (words : List Text) (at : ℕ) (word : Text) → slice_get words at ≡ Some word
    → let behind : List Text = drop (at + 1) words in
    let values : ℕ = values_behind grammar word behind in
    cut grammar (at + 1) zero (drop at words)
    ≡ record { place = at + 1; word = word; values = take values behind } ∷ cut grammar (suc (at + 1)) values behind
cut_at grammar words at word is = ap (cut grammar (at + 1) zero) (word_at words at word is)

-- no more words can be passed over than there are
pub capped : (grammar : Grammar) (place values : ℕ) (words : List Text) → cut grammar place values words ≡ cut grammar place (min values (length words)) words
capped grammar place values [] = refl
capped grammar place zero (word ∷ words) =
    let nothing : zero ≡ min zero (length (word ∷ words)) = grind (arith, common_steps) in
    ap (λ n. cut grammar place n (word ∷ words)) nothing
capped grammar place (suc values) (word ∷ words) =
    let least : suc (min values (length words)) ≡ min (suc values) (length (word ∷ words)) = grind (arith, common_steps) in
    capped grammar (suc place) values words ∙ ap (λ n. cut grammar place n (word ∷ words)) least

-- the names of pieces that follow each other
pub names_append : (ps qs : List Piece) → names_of (ps ++ qs) ≡ names_of ps ++ names_of qs
names_append ps qs = filter_map-append name_in ps qs

names_behind : (p : Piece) (ps : List Piece) → length (names_of (p ∷ ps)) ≡ length (names_of (p ∷ [])) + length (names_of ps)
names_behind p ps = ap length (names_append (p ∷ []) ps) ∙ length-append (names_of (p ∷ [])) (names_of ps)

or_or : {A : Type 0} (a b c : Option A) → option_or a (option_or b c) ≡ option_or (option_or a b) c
or_or None b c = refl
or_or (Some x) b c = refl

-- the first fault of pieces behind others
pub wrong_behind : (grammar : Grammar) (n : ℕ) (ps qs : List Piece) → first_wrong grammar n (ps ++ qs) ≡ option_or (first_wrong grammar n ps) (first_wrong grammar (n + length (names_of ps)) qs)
wrong_behind grammar n [] qs = ap (λ m. first_wrong grammar m qs) (omega arith)
wrong_behind grammar n (p ∷ ps) qs =
    let names : ℕ = length (names_of (p ∷ [])) in
    let counted : n + names + length (names_of ps) ≡ n + length (names_of (p ∷ ps)) = omega (arith, names_behind p ps) in
    ap (option_or (wrong_piece grammar n p)) (wrong_behind grammar (n + names) ps qs)
    ∙ or_or (wrong_piece grammar n p) (first_wrong grammar (n + names) ps) (first_wrong grammar (n + names + length (names_of ps)) qs)
    ∙ ap (λ m. option_or (first_wrong grammar n (p ∷ ps)) (first_wrong grammar m qs)) counted

-- what pieces choose behind others
pub chosen_behind : {C : Type 0} (chooses : C → Piece → C) (default : C) (ps : List Piece) (p : Piece) → chosen_by chooses default (ps ++ p ∷ []) ≡ chooses_next chooses (chosen_by chooses default ps) p
chosen_behind chooses default ps p = fold-append (chooses_next chooses) default ps (p ∷ [])

-- number texts from an index on
pub no_number : (words : List Text) (at : ℕ) (word : Text) → slice_get words at ≡ Some word → is_number word ≡ false → prefix_len is_number (drop at words) ≡ 0
no_number words at word is other = rw (word_at words at word is, other) refl

pub one_number : (words : List Text) (at : ℕ) (word : Text) → slice_get words at ≡ Some word → is_number word ≡ true → prefix_len is_number (drop at words) ≡ prefix_len is_number (drop (at + 1) words) + 1
one_number words at word is number = rw (word_at words at word is, number) (omega arith)
