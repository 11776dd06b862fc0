-- What the options of a tool choose: of options that come again the last one counts. Source: this project's own.
use Rattle.std.specs.Prelude.{ℕ, Bool, List, [], Option, if◌then◌else◌, slice_get, unwrap_or}
use Rattle.std.specs.List.{fold}
use Rattle.std.specs.Str.{bytes_eq}
use Rattle.tool_words.specs.Words.{Text, is_option}
use Rattle.tool_words.specs.Grammar.{Piece, names_of, value_at}

-- the piece is this option
abbrev pub is_piece : Text → Piece → Bool
is_piece option piece = bytes_eq piece.word option

-- the value of the piece, whose number counts from 0, where it is this option, and else what was chosen before
abbrev pub chosen : {A : Type 0} → Text → (Text → Option A) → ℕ → Piece → A → A
chosen option value i piece before = if is_piece option piece then unwrap_or (value (value_at piece i)) before else before

-- the same where none may have been chosen
abbrev pub chosen_if : {A : Type 0} → Text → (Text → Option A) → ℕ → Piece → Option A → Option A
chosen_if option value i piece before = if is_piece option piece then value (value_at piece i) else before

-- what the option, which takes no value, chooses
abbrev pub switched : {A : Type 0} → Text → A → Piece → A → A
switched option value piece before = if is_piece option piece then value else before

-- what a piece chooses, where it is an option
abbrev pub chooses_next : {C : Type 0} → (C → Piece → C) → C → Piece → C
chooses_next chooses before piece = if is_option piece.word then chooses before piece else before

-- what all pieces leave chosen, one after the other
abbrev pub chosen_by : {C : Type 0} → (C → Piece → C) → C → List Piece → C
chosen_by chooses default pieces = fold (chooses_next chooses) default pieces

-- the name of this number, which counts from 0
abbrev pub name_at : List Piece → ℕ → Text
name_at pieces i = unwrap_or (slice_get (names_of pieces) i) []
