-- The tokens of a WKT text. Source: Simple Features WKT, in this project's profile.
use Rattle.std.specs.Prelude.{ℕ, ◌+◌, ◌==◌, ◌&&◌, ◌||◌, nat_le, Bool, true, false, List, [], ◌∷◌, if◌then◌else◌}

-- a parenthesis, a comma or a word, with the offset of its first byte
pub data Token : Type 0 where
  Opening : ℕ → Token
  Closing : ℕ → Token
  Comma : ℕ → Token
  Word : ℕ → List ℕ → Token

-- a tab, a line end or another of the bytes 9 to 13, or a space
abbrev pub is_blank : ℕ → Bool
is_blank byte = (nat_le 9 byte && nat_le byte 13) || (byte == 32)

-- '(', ')' and ',' are tokens by themselves
abbrev pub is_mark : ℕ → Bool
is_mark byte = (byte == 40) || (byte == 41) || (byte == 44)

-- any other byte is one of a word
abbrev pub is_letter : ℕ → Bool
is_letter byte = if is_blank byte || is_mark byte then false else true

-- the token that a mark is
abbrev pub mark : ℕ → ℕ → Token
mark offset byte = if byte == 40 then Opening offset else if byte == 41 then Closing offset else Comma offset

-- whether a word begins right at the text's first byte
abbrev pub begins_with_word : List ℕ → Bool
begins_with_word [] = false
begins_with_word (byte ∷ bytes) = is_letter byte

-- the first of these tokens, which is a word, with a byte more at its front
abbrev pub lengthened : ℕ → ℕ → List Token → List Token
lengthened offset byte (Word next word ∷ tokens) = Word offset (byte ∷ word) ∷ tokens
lengthened offset byte tokens = Word offset (byte ∷ []) ∷ tokens

-- the tokens with a byte put in front of their text: a letter joins the word that begins right behind it, or is a
-- word of its own
abbrev pub put_in_front : ℕ → ℕ → Bool → List Token → List Token
put_in_front offset byte joins tokens =
    if is_blank byte then tokens else
    if is_mark byte then mark offset byte ∷ tokens else
    if joins then lengthened offset byte tokens else Word offset (byte ∷ []) ∷ tokens

-- the tokens of a text whose first byte has this offset
abbrev pub tokens_from : ℕ → List ℕ → List Token
tokens_from offset [] = []
tokens_from offset (byte ∷ bytes) =
    put_in_front offset byte (begins_with_word bytes) (tokens_from (offset + 1) bytes)

-- the tokens of a text, its bytes counted from 1
abbrev pub tokens_of : List ℕ → List Token
tokens_of text = tokens_from 1 text

abbrev pub offset_of : Token → ℕ
offset_of (Opening offset) = offset
offset_of (Closing offset) = offset
offset_of (Comma offset) = offset
offset_of (Word offset word) = offset

-- the offset of the first of some last tokens, or the one behind the text where there is none
abbrev pub first_offset : ℕ → List Token → ℕ
first_offset end [] = end
first_offset end (token ∷ tokens) = offset_of token
