-- For code that reads with a cursor: the tokens of a text's last bytes, by the bytes that stand there.
use Rattle.std.proofs.Common.{◌≡◌, ◌≢◌, ℕ, zero, suc, ◌+◌, ◌-◌, ◌<◌, ◌≤◌, Bool, true, false, ◌||◌, ◌==◌, if◌then◌else◌, List, [], ◌∷◌, length, take, drop, get_or, arith, refl, sym, ap, ◌∙◌, length-take, length-drop}
use Rattle.std.proofs.lemmas.List.{take-append-drop}
use Rattle.std.proofs.lemmas.Bool.{false≢true}
use Rattle.std.proofs.lemmas.Grind.{common_steps}
use Rattle.std.proofs.lemmas.Bool.Decides.{nat_tests}
use Rattle.wkt_text.specs.Tokens.{Token, Opening, Closing, Comma, Word, is_blank, is_mark, is_letter, mark, lengthened, begins_with_word, tokens_from, offset_of, first_offset}
use Rattle.wkt_text.specs.Inner.Cursor.{Lacks, NoWord, Takes, begins_with_blank, last_tokens}
use Rattle.wkt_text.proofs.TokenLemmas.{AreLetters, word_up_to}

-- the byte that comes first, and the tokens behind it
behind_first : (end byte : ℕ) (text : List ℕ) → length (byte ∷ text) < end → end - length (byte ∷ text) + 1 ≡ end - length text
behind_first end byte text within = omega (arith, within)

blank_first : (end byte : ℕ) (text : List ℕ) → length (byte ∷ text) < end → is_blank byte ≡ true → last_tokens end (byte ∷ text) ≡ last_tokens end text
blank_first end byte text within blank =
    rw blank (ap (λ offset. tokens_from offset text) (behind_first end byte text within))

-- a blank at the front makes no token
pub at_blank : (text : List ℕ) (n end : ℕ) → length text < end → n < length text → is_blank (get_or text n 0) ≡ true → last_tokens end (drop (suc n) text) ≡ last_tokens end (drop n text)
at_blank [] n end within is blank = absurd (omega (arith, is))
at_blank (byte ∷ text) zero end within is blank = sym (blank_first end byte text within blank)
at_blank (byte ∷ text) (suc n) end within is blank = at_blank text n end (omega (arith, within)) (omega (arith, is)) blank

no_blank : (byte : ℕ) → is_mark byte ≡ true → is_blank byte ≡ false
no_blank byte marks = grind (arith, nat_tests, marks)

-- a mark that stands first is a token
pub mark_first : (end byte : ℕ) (text : List ℕ) → length (byte ∷ text) < end → is_mark byte ≡ true → Takes byte (last_tokens end (byte ∷ text)) (last_tokens end text)
mark_first end byte text within marks =
    let solid : is_blank byte ≡ false = no_blank byte marks in
    let offset : ℕ = end - length (byte ∷ text) in
    (offset, rw (solid, marks) (ap (λ behind. mark offset byte ∷ tokens_from behind text) (behind_first end byte text within)))

-- the byte of a mark, and 0 for a word
byte_of : List Token → ℕ
byte_of [] = 0
byte_of (Opening offset ∷ tokens) = 40
byte_of (Closing offset ∷ tokens) = 41
byte_of (Comma offset ∷ tokens) = 44
byte_of (Word offset word ∷ tokens) = 0

by_test : (offset byte : ℕ) (opens closes : Bool) (tokens : List Token) → (byte == 40) ≡ opens → (byte == 41) ≡ closes → is_mark byte ≡ true
    → byte_of ((if opens then Opening offset else if closes then Closing offset else Comma offset) ∷ tokens) ≡ byte
unfolding byte_of
by_test offset byte true closes tokens e f marks = grind (arith, nat_tests, e)
by_test offset byte false true tokens e f marks = grind (arith, nat_tests, f)
by_test offset byte false false tokens e f marks = grind (arith, nat_tests, e, f, marks)

byte_of-mark : (offset byte : ℕ) (tokens : List Token) → is_mark byte ≡ true → byte_of (mark offset byte ∷ tokens) ≡ byte
byte_of-mark offset byte tokens marks = by_test offset byte (byte == 40) (byte == 41) tokens refl refl marks

lengthened_byte : (offset byte : ℕ) (tokens : List Token) → byte_of (lengthened offset byte tokens) ≡ 0
unfolding byte_of
lengthened_byte offset byte [] = refl
lengthened_byte offset byte (Opening at ∷ tokens) = refl
lengthened_byte offset byte (Closing at ∷ tokens) = refl
lengthened_byte offset byte (Comma at ∷ tokens) = refl
lengthened_byte offset byte (Word at word ∷ tokens) = refl

word_byte : (offset byte : ℕ) (joins : Bool) (tokens : List Token) → byte_of (if joins then lengthened offset byte tokens else Word offset (byte ∷ []) ∷ tokens) ≡ 0
unfolding byte_of
word_byte offset byte true tokens = lengthened_byte offset byte tokens
word_byte offset byte false tokens = refl

other_byte : (end first byte : ℕ) (text : List ℕ) (marks : Bool) → is_mark first ≡ marks → is_blank first ≡ false → first ≢ byte → is_mark byte ≡ true
    → byte_of (last_tokens end (first ∷ text)) ≢ byte
other_byte end first byte text true e solid other marks same =
    let offset : ℕ = end - length (first ∷ text) in
    let read : byte_of (last_tokens end (first ∷ text)) ≡ first = rw (solid, e) (byte_of-mark offset first (tokens_from (offset + 1) text) e) in
    other (sym read ∙ same)
other_byte end first byte text false e solid other marks same =
    let offset : ℕ = end - length (first ∷ text) in
    let read : byte_of (last_tokens end (first ∷ text)) ≡ 0 = rw (solid, e) (word_byte offset first (begins_with_word text) (tokens_from (offset + 1) text)) in
    let none : byte ≡ 0 = sym same ∙ read in
    absurd (false≢true (ap is_mark (sym none) ∙ marks))

-- where another byte stands first, the mark does not
pub lacks_first : (end byte : ℕ) (text : List ℕ) → is_mark byte ≡ true → begins_with_blank text ≡ false → (0 < length text → get_or text 0 0 ≢ byte) → Lacks byte (last_tokens end text)
lacks_first end byte [] marks solid other offset rest same = cc
lacks_first end byte (first ∷ text) marks solid other offset rest same =
    other_byte end first byte text (is_mark first) refl solid (other (omega arith)) marks (ap byte_of same ∙ byte_of-mark offset byte rest marks)

letters_from : (text : List ℕ) (count : ℕ) → count ≤ length text → ((k : ℕ) → k < count → is_letter (get_or text k 0) ≡ true) → AreLetters (take count text)
letters_from text zero within letters = tt
letters_from [] (suc count) within letters = absurd (omega (arith, within))
letters_from (c ∷ text) (suc count) within letters = (letters 0 (omega arith), letters_from text count (omega (arith, within)) (λ k h. letters (suc k) (omega (arith, h))))

no_word_at : (text : List ℕ) (n : ℕ) → is_letter (get_or text n 32) ≡ false → begins_with_word (drop n text) ≡ false
no_word_at [] zero stops = refl
no_word_at [] (suc n) stops = refl
no_word_at (c ∷ text) zero stops = stops
no_word_at (c ∷ text) (suc n) stops = no_word_at text n stops

-- bytes of a word, up to a byte that is none or the end, are a token
pub at_word : (text : List ℕ) (count end : ℕ) → length text < end → 0 < count → count ≤ length text → ((k : ℕ) → k < count → is_letter (get_or text k 0) ≡ true) → is_letter (get_or text count 32) ≡ false
    → last_tokens end text ≡ Word (end - length text) (take count text) ∷ last_tokens end (drop count text)
at_word text count end inside some within letters stops =
    let offset : ℕ = end - length text in
    let size : length (take count text) ≡ count = omega (arith, length-take count text) in
    let behind : offset + length (take count text) ≡ end - length (drop count text) = omega (arith, size, length-drop count text, inside) in
    ap (tokens_from offset) (sym (take-append-drop count text))
    ∙ word_up_to (take count text) (drop count text) offset (omega (arith, size)) (letters_from text count within letters) (no_word_at text count stops)
    ∙ ap (λ k. Word offset (take count text) ∷ tokens_from k (drop count text)) behind

-- no byte of a word stands first
pub no_word : (text : List ℕ) → is_letter (get_or text 0 32) ≡ false → begins_with_word text ≡ false
no_word text stops = no_word_at text 0 stops

-- a byte that is no blank, or the end, stands first at a cursor
pub solid_at : (text : List ℕ) (n : ℕ) → is_blank (get_or text n 0) ≡ false → begins_with_blank (drop n text) ≡ false
solid_at [] zero solid = refl
solid_at [] (suc n) solid = refl
solid_at (byte ∷ text) zero solid = solid
solid_at (byte ∷ text) (suc n) solid = solid_at text n solid

mark_offset : (offset byte : ℕ) (opens closes : Bool) → offset_of (if opens then Opening offset else if closes then Closing offset else Comma offset) ≡ offset
mark_offset offset byte true closes = refl
mark_offset offset byte false true = refl
mark_offset offset byte false false = refl

token_first : (end offset byte : ℕ) (marks joins : Bool) (tokens : List Token)
    → first_offset end (if marks then mark offset byte ∷ tokens else if joins then lengthened offset byte tokens else Word offset (byte ∷ []) ∷ tokens) ≡ offset
token_first end offset byte true joins tokens = mark_offset offset byte (byte == 40) (byte == 41)
token_first end offset byte false true [] = refl
token_first end offset byte false true (Opening at ∷ tokens) = refl
token_first end offset byte false true (Closing at ∷ tokens) = refl
token_first end offset byte false true (Comma at ∷ tokens) = refl
token_first end offset byte false true (Word at word ∷ tokens) = refl
token_first end offset byte false false tokens = refl

-- where no blank stands first, the first token stands there
pub offset_first : (end : ℕ) (text : List ℕ) → begins_with_blank text ≡ false → first_offset end (last_tokens end text) ≡ end - length text
offset_first end [] solid = omega arith
offset_first end (byte ∷ text) solid =
    let offset : ℕ = end - length (byte ∷ text) in
    rw solid (token_first end offset byte (is_mark byte) (begins_with_word text) (tokens_from (offset + 1) text))

no_letter : (blank marks : Bool) → blank ≡ false → (if blank || marks then false else true) ≡ false → marks ≡ true
no_letter true marks solid stops = absurd (false≢true (sym solid))
no_letter false true solid stops = refl
no_letter false false solid stops = absurd (false≢true (sym stops))

mark_no_word : (offset byte : ℕ) (opens closes : Bool) (tokens : List Token)
    → NoWord ((if opens then Opening offset else if closes then Closing offset else Comma offset) ∷ tokens)
mark_no_word offset byte true closes tokens = tt
mark_no_word offset byte false true tokens = tt
mark_no_word offset byte false false tokens = tt

-- neither a blank nor a word
pub no_word_first : (end : ℕ) (text : List ℕ) → begins_with_blank text ≡ false → begins_with_word text ≡ false → NoWord (last_tokens end text)
no_word_first end [] solid stops = tt
no_word_first end (byte ∷ text) solid stops =
    let marks : is_mark byte ≡ true = no_letter (is_blank byte) (is_mark byte) solid stops in
    rw (solid, marks) (mark_no_word (end - length (byte ∷ text)) byte (byte == 40) (byte == 41) (tokens_from (end - length (byte ∷ text) + 1) text))

behind_one : (byte : ℕ) (text : List ℕ) → take (length (byte ∷ text) - 1) text ≡ text
behind_one byte text = grind (arith, common_steps)

-- the same for a text of at least one byte
pub mark_at : (end byte : ℕ) (text : List ℕ) → length text < end → 1 ≤ length text → get_or text 0 0 ≡ byte → is_mark byte ≡ true
    → Takes byte (last_tokens end text) (last_tokens end (take (length text - 1) (drop 1 text)))
mark_at end byte [] within some is marks = absurd (omega (arith, some))
mark_at end byte (first ∷ text) within some is marks =
    let taken : Takes first (last_tokens end (first ∷ text)) (last_tokens end text) = mark_first end first text within (ap is_mark is ∙ marks) in
    (taken.0, taken.1 ∙ ap (λ b. mark taken.0 b ∷ last_tokens end text) is ∙ ap (λ rest. mark taken.0 byte ∷ last_tokens end rest) (sym (behind_one first text)))

some_token : (offset byte : ℕ) (marks joins : Bool) (tokens : List Token)
    → (if marks then mark offset byte ∷ tokens else if joins then lengthened offset byte tokens else Word offset (byte ∷ []) ∷ tokens) ≢ []
some_token offset byte true joins tokens none = cc
some_token offset byte false true [] none = cc
some_token offset byte false true (Opening at ∷ tokens) none = cc
some_token offset byte false true (Closing at ∷ tokens) none = cc
some_token offset byte false true (Comma at ∷ tokens) none = cc
some_token offset byte false true (Word at word ∷ tokens) none = cc
some_token offset byte false false tokens none = cc

-- no token is left exactly where no byte is
pub none_left : (end : ℕ) (text : List ℕ) → begins_with_blank text ≡ false → last_tokens end text ≡ [] → length text ≡ 0
none_left end [] solid none = refl
none_left end (byte ∷ text) solid none =
    let offset : ℕ = end - length (byte ∷ text) in
    absurd (some_token offset byte (is_mark byte) (begins_with_word text) (tokens_from (offset + 1) text) (rw solid at none))

pub end_left : (end : ℕ) (text : List ℕ) → length text ≡ 0 → last_tokens end text ≡ []
end_left end [] none = refl
end_left end (byte ∷ text) none = absurd (omega (arith, none))
