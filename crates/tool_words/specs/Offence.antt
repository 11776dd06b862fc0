-- The first fault of the words behind a tool's name. Source: this project's own.
use Rattle.std.specs.Prelude.{ℕ, ◌+◌, ◌==◌, nat_lt, suc, Bool, List, [], ◌∷◌, length, slice_get, Option, Some, None, if◌then◌else◌}
use Rattle.std.specs.Option.{option_or}
use Rattle.tool_words.specs.Words.{Text, is_option}
use Rattle.tool_words.specs.Grammar.{Form, Grammar, Piece, Takes, each, numbers, names_of, pieces_of, takes_of, value_at}
use Rattle.tool_words.specs.declared.fault.WordFault.{WordFault}
use Rattle.tool_words.specs.declared.fault.WordFault.TheVariants.{At}
use Rattle.tool_words.specs.declared.fault.WordKind.TheVariants.{UnknownOption, MissingValue, BadValue, ExtraWord, MissingName, Combination}

-- the place of a piece's value, whose number counts from 0
abbrev pub value_place : Piece → ℕ → ℕ
value_place piece i = piece.place + 1 + i

-- the first value from a number on that isn't in its form
abbrev pub unfit_value : Piece → ℕ → List Form → Option WordFault
unfit_value piece i [] = None
unfit_value piece i (form ∷ forms) =
    if form (value_at piece i) then unfit_value piece (suc i) forms else Some (At BadValue (value_place piece i))

-- what is wrong with an option, by what it takes: too few words follow, or else a value isn't in its form
abbrev pub wrong_values : Piece → Option Takes → Option WordFault
wrong_values piece None = Some (At UnknownOption piece.place)
wrong_values piece (Some (each forms)) =
    if nat_lt (length piece.values) (length forms) then Some (At MissingValue piece.place) else unfit_value piece 0 forms
wrong_values piece (Some numbers) = if length piece.values == 0 then Some (At MissingValue piece.place) else None

-- what is wrong with a name, by the form of the name in its turn
abbrev pub wrong_form : Piece → Option Form → Option WordFault
wrong_form piece None = Some (At ExtraWord piece.place)
wrong_form piece (Some form) = if form piece.word then None else Some (At BadValue piece.place)

-- what is wrong with a piece that so many names stand before
abbrev pub wrong_piece : Grammar → ℕ → Piece → Option WordFault
wrong_piece grammar names piece =
    if is_option piece.word then wrong_values piece (takes_of grammar piece.word)
    else wrong_form piece (slice_get grammar.names names)

-- the first fault of the pieces that so many names stand before
abbrev pub first_wrong : Grammar → ℕ → List Piece → Option WordFault
first_wrong grammar names [] = None
first_wrong grammar names (piece ∷ pieces) =
    option_or (wrong_piece grammar names piece)
    (first_wrong grammar (names + length (names_of (piece ∷ []))) pieces)

-- what is missing at the end: a name, or options that go together
abbrev pub wrong_end : Grammar → Bool → ℕ → List Piece → Option WordFault
wrong_end grammar clash place pieces =
    if nat_lt (length (names_of pieces)) grammar.required then Some (At MissingName place) else
    if clash then Some (At Combination place) else None

-- the first fault of the words behind the tool's name, where their options clash or don't
abbrev pub first_fault : Grammar → Bool → List Text → Option WordFault
first_fault grammar clash words =
    option_or (first_wrong grammar 0 (pieces_of grammar words))
    (wrong_end grammar clash (length words + 2) (pieces_of grammar words))
