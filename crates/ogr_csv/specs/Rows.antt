-- The text of rows. Source: OGR CSV; a row is what the crate csv writes by default.
use Rattle.std.specs.Prelude.{◌≡◌, ℕ, Bool, false, List, [], ◌∷◌}
use Rattle.std.specs.List.{flat_map}
use Rattle.csv.specs.Reading.{is_bom}
use Rattle.csv.specs.Writing.{default_writer, row_text}

-- the text of a row of these fields
abbrev pub line_of : List (List ℕ) → List ℕ
line_of fields = row_text default_writer fields

-- one row after the other
abbrev pub text_of_rows : List (List (List ℕ)) → List ℕ
text_of_rows rows = flat_map line_of rows

-- whether a text begins with a byte order mark
abbrev pub has_mark : List ℕ → Bool
has_mark (a ∷ b ∷ c ∷ rest) = is_bom a b c
has_mark text = false

-- the first field of a row, if it has one, begins with none
abbrev pub HasNoMark : List (List ℕ) → Type 0
HasNoMark [] = Unit {0}
HasNoMark (field ∷ fields) = has_mark field ≡ false
