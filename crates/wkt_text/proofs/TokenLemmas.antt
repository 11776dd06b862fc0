-- Where tokens begin and end in a text that is put together of words and marks.
use Rattle.std.proofs.Common.{◌≡◌, ℕ, suc, ◌+◌, ◌<◌, ◌≤◌, Bool, true, false, ◌||◌, if◌then◌else◌, List, [], ◌∷◌, ◌++◌, length, arith, refl, ap, ◌∙◌}
use Rattle.std.proofs.lemmas.Bool.{false≢true}
use Rattle.wkt_text.specs.Tokens.{Token, Opening, Closing, Comma, Word, is_blank, is_mark, is_letter, mark, begins_with_word, lengthened, put_in_front, tokens_from}
use Rattle.wkt_text.proofs.EachLemmas.{Each}

neither : (a b : Bool) → (if a || b then false else true) ≡ true → (a ≡ false) × (b ≡ false)
neither true b e = absurd (false≢true e)
neither false true e = absurd (false≢true e)
neither false false e = (refl, refl)

-- a letter is neither a blank nor a mark
letter_is : (c : ℕ) → is_letter c ≡ true → (is_blank c ≡ false) × (is_mark c ≡ false)
letter_is c e = neither (is_blank c) (is_mark c) e

put_letter : (offset c : ℕ) (joins : Bool) (tokens : List Token) → is_letter c ≡ true
    → put_in_front offset c joins tokens ≡ (if joins then lengthened offset c tokens else Word offset (c ∷ []) ∷ tokens)
put_letter offset c joins tokens e =
    let known : (is_blank c ≡ false) × (is_mark c ≡ false) = letter_is c e in
    let blank : is_blank c ≡ false = known.0 in
    let mark : is_mark c ≡ false = known.1 in
    rw (blank, mark) refl

-- each byte is one of a word
abbrev pub AreLetters : List ℕ → Type 0
AreLetters word = Each (λ c. is_letter c ≡ true) word

-- letters up to a byte that is none are a word
pub word_up_to : (word text : List ℕ) (offset : ℕ) → 0 < length word → AreLetters word → begins_with_word text ≡ false → tokens_from offset (word ++ text) ≡ Word offset word ∷ tokens_from (offset + length word) text
word_up_to [] text offset some letters ends = absurd (omega (arith, some))
word_up_to (c ∷ []) text offset some letters ends =
    put_letter offset c (begins_with_word text) (tokens_from (offset + 1) text) letters.0
    ∙ ap (λ (b : Bool). if b then lengthened offset c (tokens_from (offset + 1) text) else Word offset (c ∷ []) ∷ tokens_from (offset + 1) text) ends
word_up_to (c ∷ d ∷ word) text offset some letters ends =
    let rest = word_up_to (d ∷ word) text (offset + 1) (omega arith) letters.1 ends in
    let after : (offset + 1) + suc (length word) ≡ offset + suc (suc (length word)) = omega arith in
    put_letter offset c (is_letter d) (tokens_from (offset + 1) ((d ∷ word) ++ text)) letters.0
    ∙ ap (λ (b : Bool). if b then lengthened offset c (tokens_from (offset + 1) ((d ∷ word) ++ text)) else Word offset (c ∷ []) ∷ tokens_from (offset + 1) ((d ∷ word) ++ text)) letters.1.0
    ∙ ap (lengthened offset c) rest
    ∙ ap (λ k. Word offset (c ∷ d ∷ word) ∷ tokens_from k text) after

pub word_token : (word text : List ℕ) (offset : ℕ) → 0 < length word → AreLetters word → begins_with_word text ≡ false
    → (after : ℕ) × (tokens_from offset (word ++ text) ≡ Word offset word ∷ tokens_from after text)
word_token word text offset some letters ends = (offset + length word, word_up_to word text offset some letters ends)

lengthened_longer : (offset c : ℕ) (tokens : List Token) → length tokens ≤ length (lengthened offset c tokens)
lengthened_longer offset c [] = omega arith
lengthened_longer offset c (Opening at ∷ tokens) = omega arith
lengthened_longer offset c (Closing at ∷ tokens) = omega arith
lengthened_longer offset c (Comma at ∷ tokens) = omega arith
lengthened_longer offset c (Word at word ∷ tokens) = omega arith

put_longer : (offset c : ℕ) (blank marks joins : Bool) (tokens : List Token)
    → length tokens ≤ length (if blank then tokens else if marks then mark offset c ∷ tokens else if joins then lengthened offset c tokens else Word offset (c ∷ []) ∷ tokens)
put_longer offset c true marks joins tokens = omega arith
put_longer offset c false true joins tokens = omega arith
put_longer offset c false false true tokens = lengthened_longer offset c tokens
put_longer offset c false false false tokens = omega arith

-- bytes in front make no token less
pub front_longer : (front text : List ℕ) (offset : ℕ) → (after : ℕ) × (length (tokens_from after text) ≤ length (tokens_from offset (front ++ text)))
front_longer [] text offset = (offset, omega arith)
front_longer (c ∷ front) text offset =
    let rest = front_longer front text (offset + 1) in
    (rest.0, omega (arith, rest.1, put_longer offset c (is_blank c) (is_mark c) (begins_with_word (front ++ text)) (tokens_from (offset + 1) (front ++ text))))
