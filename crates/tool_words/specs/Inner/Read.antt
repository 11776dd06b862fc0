-- Reading words piece by piece.
use Rattle.std.specs.Prelude.{◌≡◌, ℕ, zero, ◌+◌, ◌^◌, ◌<◌, ◌≤◌, Bool, List, [], ◌∷◌, ◌++◌, length, drop, take, Option, Some, None, Result, Ok, Err, if◌then◌else◌, nat_lt, option_map, slice_get, unwrap_or}
use Rattle.std.specs.List.{prefix_len}
use Rattle.std.specs.Option.{ok_or}
use Rattle.geo_transform.specs.declared.extent.Extent.{Extent}
use Rattle.tool_words.specs.Words.{Text, is_option}
use Rattle.tool_words.specs.Value.{is_number, only}
use Rattle.tool_words.specs.Grammar.{Form, Grammar, Piece, Takes, each, numbers, cut, names_of, pieces_of, takes_of, value_at, values_behind}
use Rattle.tool_words.specs.Offence.{first_fault, unfit_value, value_place, wrong_form, wrong_piece}
use Rattle.tool_words.specs.Chosen.{chooses_next, chosen_by}
use Rattle.tool_words.specs.Rasterize.{extent_in, four_coordinates}
use Rattle.tool_words.specs.declared.fault.WordFault.{WordFault}
use Rattle.tool_words.specs.declared.fault.WordFault.TheVariants.{At}
use Rattle.tool_words.specs.declared.fault.WordKind.TheVariants.{BadValue, Combination, MissingName}
use Rattle.tool_words.specs.declared.options.Wanted.{Wanted}
use Rattle.tool_words.specs.declared.options.Wanted.TheVariants.{Each, Numbers}

-- the word at an index, with so many words behind it as its values
abbrev pub piece_in : List Text → ℕ → ℕ → Piece
piece_in words at count = record {
  place = at + 1;
  word = unwrap_or (slice_get words at) [];
  values = take count (drop (at + 1) words);
}

-- the values are there, and the words can be counted
pub record IsWithin (words : List Text) (at count : ℕ) : Type 0 where
  pub within : at + count < length words
  pub counted : length words < 2 ^ 64

abbrev pub bad_value : Piece → ℕ → WordFault
bad_value piece i = At BadValue (value_place piece i)

-- a value of a piece, or that it isn't in its form
abbrev pub read_at : {A : Type 0} → (Text → Option A) → Piece → ℕ → Result A WordFault
read_at value piece i = ok_or (value (value_at piece i)) (bad_value piece i)

abbrev pub is_only : Text → Text → Option (Unit {0})
is_only expected word = option_map (λ _. tt) (only expected word)

-- how many words an option takes
abbrev pub wanted_of : Takes → Wanted
wanted_of (each forms) = Each (length forms)
wanted_of numbers = Numbers

-- how many of the words that follow an option are its values, by what it takes
abbrev pub counted : Option Wanted → List Text → ℕ
counted None words = 0
counted (Some (Each count)) words = count
counted (Some Numbers) words = prefix_len is_number words

-- how many words an option takes at least
abbrev pub least_of : Wanted → ℕ
least_of (Each count) = count
least_of Numbers = 1

-- what a word takes; a name takes nothing
abbrev pub wanted_in : Grammar → Text → Option Wanted
wanted_in grammar word = if is_option word then option_map wanted_of (takes_of grammar word) else None

-- the values of an option are all there
abbrev pub HasEnough : Takes → List Text → Type 0
HasEnough (each forms) values = length values ≡ length forms
HasEnough numbers values = 0 < length values

-- an option of the tool with as many values as it takes
abbrev pub HasValues : Grammar → Piece → Type 0
HasValues grammar piece = (takes : Takes) × (takes_of grammar piece.word ≡ Some takes) × HasEnough takes piece.values

-- the piece that the words are cut into at an index
pub record CutsPiece (grammar : Grammar) (words : List Text) (at : ℕ) (piece : Piece) : Type 0 where
  pub place : piece.place ≡ at + 1
  pub word : slice_get words at ≡ Some piece.word
  pub values : piece.values ≡ take (values_behind grammar piece.word (drop (at + 1) words)) (drop (at + 1) words)
  pub cut : cut grammar (at + 1) zero (drop at words)
      ≡ piece ∷ cut grammar (at + length piece.values + 2) zero (drop (at + length piece.values + 1) words)
  pub within : at + length piece.values < length words

-- no option takes more words than it wants
abbrev pub HasNoMore : Grammar → Piece → Type 0
HasNoMore grammar piece = (forms : List Form) → takes_of grammar piece.word ≡ Some (each forms) → length piece.values ≤ length forms

-- a name that was added, or why it wasn't
abbrev pub AddsName : Grammar → Piece → List Text → List Text → Result (Unit {0}) WordFault → Type 0
AddsName grammar piece before after (Ok u) = (after ≡ before ++ piece.word ∷ []) × (wrong_form piece (slice_get grammar.names (length before)) ≡ None)
AddsName grammar piece before after (Err fault) = wrong_form piece (slice_get grammar.names (length before)) ≡ Some fault

-- the piece at an index was read, and the next one begins at another
pub record ReadsPiece {C : Type 0} (grammar : Grammar) (chooses : C → Piece → C) (words : List Text) (at next : ℕ)
    (before after : C) (names_before names_after : List Text) : Type 0 where
  pub piece : Piece
  pub cut : cut grammar (at + 1) zero (drop at words) ≡ piece ∷ cut grammar (next + 1) zero (drop next words)
  pub sound : wrong_piece grammar (length names_before) piece ≡ None
  pub chosen : after ≡ chooses_next chooses before piece
  pub names : names_after ≡ names_before ++ names_of (piece ∷ [])
  pub further : at < next
  pub within : next ≤ length words

-- the piece at an index is wrong
abbrev pub RefusesPiece : Grammar → List Text → ℕ → List Text → WordFault → Type 0
RefusesPiece grammar words at names fault = (piece : Piece) × (behind : List Piece)
    × (cut grammar (at + 1) zero (drop at words) ≡ piece ∷ behind)
    × (wrong_piece grammar (length names) piece ≡ Some fault)

-- what is missing at the end, by the names that are there
abbrev pub missing_end : Grammar → Bool → ℕ → List Text → Option WordFault
missing_end grammar clash place names =
    if nat_lt (length names) grammar.required then Some (At MissingName place) else
    if clash then Some (At Combination place) else None

-- the first fault of all words behind the tool's name
abbrev pub fault_in : {C : Type 0} → Grammar → (C → Piece → C) → (C → Bool) → C → List Text → Option WordFault
fault_in grammar chooses clashes default words =
    first_fault grammar (clashes (chosen_by chooses default (pieces_of grammar (drop 1 words)))) (drop 1 words)

-- what is read of words without a fault
pub record IsRead {C : Type 0} (grammar : Grammar) (chooses : C → Piece → C) (clashes : C → Bool) (default : C)
    (words : List Text) (chosen : C) (found : List Text) : Type 0 where
  pub sound : fault_in grammar chooses clashes default words ≡ None
  pub options : chosen ≡ chosen_by chooses default (pieces_of grammar (drop 1 words))
  pub names : found ≡ names_of (pieces_of grammar (drop 1 words))

-- four coordinates of a piece as an extent, or the first that isn't one
abbrev pub ReadsExtent : Piece → Result Extent WordFault → Type 0
ReadsExtent piece (Ok extent) = (extent ≡ extent_in piece) × (unfit_value piece 0 four_coordinates ≡ None)
ReadsExtent piece (Err fault) = unfit_value piece 0 four_coordinates ≡ Some fault
