-- How the words behind a tool's name are cut into options with their values, and names. Source: the GDAL manuals.
use Rattle.std.specs.Prelude.{ℕ, zero, suc, Bool, List, [], ◌∷◌, length, take, Option, Some, None, option_map, unwrap_or, slice_get, if◌then◌else◌, find}
use Rattle.std.specs.List.{filter_map, prefix_len}
use Rattle.std.specs.Option.{is_some, option_map_or}
use Rattle.std.specs.Str.{bytes_eq}
use Rattle.tool_words.specs.Words.{Text, is_option}
use Rattle.tool_words.specs.Value.{is_number}

-- whether a word is in the form that is asked for
abbrev pub Form : Type 0
Form = Text → Bool

-- the form of the words that stand for a value
abbrev pub form_of : {A : Type 0} → (Text → Option A) → Form
form_of value word = is_some (value word)

-- the words that an option takes as its values: so many, each in its form, or all that follow up to the first that isn't
-- a number text, at least one
pub data Takes : Type 0 where
  each : List Form → Takes
  numbers : Takes

-- an option, and what it takes
pub record Row : Type 0 where
  pub option : Text
  pub takes : Takes

-- what a tool takes: its options; the forms of its names in order, and how many of them must be there
pub record Grammar : Type 0 where
  pub options : List Row
  pub names : List Form
  pub required : ℕ

-- what an option takes, if the tool has it
abbrev pub takes_of : Grammar → Text → Option Takes
takes_of grammar word = option_map (λ row. row.takes) (find (λ row. bytes_eq word row.option) grammar.options)

-- an option with the words that it takes, as far as they are there, or a name; its place counts from 1, the tool's name
-- being word 1
pub record Piece : Type 0 where
  pub place : ℕ
  pub word : Text
  pub values : List Text

-- its value of a number, which counts from 0
abbrev pub value_at : Piece → ℕ → Text
value_at piece i = unwrap_or (slice_get piece.values i) []

-- how many words are asked for, of those that follow
abbrev pub wanted : Takes → List Text → ℕ
wanted (each forms) words = length forms
wanted numbers words = prefix_len is_number words

-- how many of the words that follow a word are to be its values
abbrev pub values_behind : Grammar → Text → List Text → ℕ
values_behind grammar word words =
    if is_option word then option_map_or (λ takes. wanted takes words) (takes_of grammar word) 0 else 0

-- the words from a place on, of which the first so many are values of the option before them
abbrev pub cut : Grammar → ℕ → ℕ → List Text → List Piece
cut grammar place values [] = []
cut grammar place (suc values) (word ∷ words) = cut grammar (suc place) values words
cut grammar place zero (word ∷ words) =
    record { place = place; word = word; values = take (values_behind grammar word words) words }
    ∷ cut grammar (suc place) (values_behind grammar word words) words

-- the pieces of the words behind the tool's name
abbrev pub pieces_of : Grammar → List Text → List Piece
pieces_of grammar words = cut grammar 2 zero words

-- the names among the pieces
abbrev pub name_in : Piece → Option Text
name_in piece = if is_option piece.word then None else Some piece.word

abbrev pub names_of : List Piece → List Text
names_of pieces = filter_map name_in pieces
