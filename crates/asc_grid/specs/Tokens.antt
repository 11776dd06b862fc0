-- The tokens of a text: its longest runs of bytes that aren't blank, each with its line. Source: ESRI ASCII grid.
use Rattle.std.specs.Prelude.{ℕ, ◌+◌, ◌==◌, ◌&&◌, ◌||◌, nat_le, Bool, true, false, List, [], ◌∷◌, if◌then◌else◌}
use Rattle.std.specs.List.{count_by}

pub record Token : Type 0 where
  pub text : List ℕ
  pub line : ℕ

-- a tab, a line end or another of the bytes 9 to 13, or a space
abbrev pub is_blank : ℕ → Bool
is_blank byte = (nat_le 9 byte && nat_le byte 13) || (byte == 32)

-- lines are counted by LF
abbrev pub is_line_end : ℕ → Bool
is_line_end byte = byte == 10

-- the line on which a text ends that begins on this line
abbrev pub line_behind : ℕ → List ℕ → ℕ
line_behind line text = line + count_by is_line_end text

-- whether a token begins right at the text's first byte
abbrev pub begins_with_token : List ℕ → Bool
begins_with_token [] = false
begins_with_token (byte ∷ bytes) = if is_blank byte then false else true

-- the first of these tokens with a byte more at its front
abbrev pub joined_to : ℕ → List Token → List Token
joined_to byte [] = []
joined_to byte (token ∷ tokens) = record token { text = byte ∷ token.text } ∷ tokens

-- the tokens with a byte on this line put in front of their text: it joins the token that begins right behind it, or is a token of its own
abbrev pub put_in_front : ℕ → ℕ → Bool → List Token → List Token
put_in_front line byte joins tokens =
    if is_blank byte then tokens else if joins then joined_to byte tokens else record { text = byte ∷ []; line = line } ∷ tokens

-- the tokens of a text that begins on this line
abbrev pub tokens_from : ℕ → List ℕ → List Token
tokens_from line [] = []
tokens_from line (byte ∷ bytes) =
    put_in_front line byte (begins_with_token bytes) (tokens_from (if is_line_end byte then line + 1 else line) bytes)

abbrev pub tokens_of : List ℕ → List Token
tokens_of text = tokens_from 1 text

-- the line of a text's end
abbrev pub last_line : List ℕ → ℕ
last_line text = line_behind 1 text
