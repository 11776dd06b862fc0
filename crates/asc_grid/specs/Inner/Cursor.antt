-- A text from some byte on.
use Rattle.std.specs.Prelude.{ℕ, take, drop, not, Bool, false, List, [], ◌∷◌}
use Rattle.asc_grid.specs.Tokens.{Token, line_behind, tokens_from}
use Rattle.asc_grid.specs.Header.{begins_number}

-- the line, and the bytes that are left
pub record Cursor : Type 0 where
  pub line : ℕ
  pub left : List ℕ

-- so many bytes further
abbrev pub further : Cursor → ℕ → Cursor
further cursor n = record { line = line_behind cursor.line (take n cursor.left); left = drop n cursor.left }

-- the tokens that are left
abbrev pub tokens_at : Cursor → List Token
tokens_at cursor = tokens_from cursor.line cursor.left

-- the text's last line
abbrev pub end_of : Cursor → ℕ
end_of cursor = line_behind cursor.line cursor.left

-- a token comes that stands in a keyword's place
abbrev pub begins_keyword : List Token → Bool
begins_keyword [] = false
begins_keyword (token ∷ tokens) = not (begins_number token.text)
