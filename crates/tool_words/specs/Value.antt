-- What a word stands for as the value of an option. Source: the GDAL manuals; ranges and roundings are this project's own.
use Rattle.std.specs.Prelude.{ℕ, ℤ, ◌&&◌, nat_le, nat_lt, int_lt, pos, Bool, length, Option, Some, None, option_map, if◌then◌else◌, codes}
use Rattle.std.specs.Int.{saturate_signed, w64}
use Rattle.std.specs.Option.{is_some}
use Rattle.std.specs.Result.{result_ok}
use Rattle.std.specs.Str.{str_eq_ignore_ascii_case}
use Rattle.std.specs.Str.Parse.{digits_value}
use Rattle.fixed_coord.specs.Number.{is_digits, parts_of}
use Rattle.fixed_coord.specs.Scaled.{scaled_of}
use Rattle.fixed_coord.specs.Coordinate.{coord_of}
use Rattle.cell_base.specs.MicroCells.{micro_of}
use Rattle.cell_base.specs.declared.kind.CellKind.{CellKind}
use Rattle.cell_base.specs.declared.kind.CellKind.TheVariants.{Byte, Int16, Int32, Int64}
use Rattle.tool_words.specs.Words.{Text}

-- the greatest count
abbrev pub most_count : ℕ
most_count = 2147483647

-- a value that is kept where it passes a test
abbrev pub kept_if : {A : Type 0} → (A → Bool) → Option A → Option A
kept_if test None = None
kept_if test (Some a) = if test a then Some a else None

-- a count: one to ten digits and nothing else, for no more than the greatest count
abbrev pub count_of : Text → Option ℕ
count_of word =
    if is_digits word && nat_le (length word) 10
    then kept_if (λ n. nat_le n most_count) (Some (digits_value 10 word))
    else None

-- a count from 1
abbrev pub count_from_one : Text → Option ℕ
count_from_one word = kept_if (nat_lt 0) (count_of word)

-- the most values that cells may have
abbrev pub most_values : ℕ
most_values = 256

-- how many values cells may have: a count from 1
abbrev pub values_count : Text → Option ℕ
values_count word = kept_if (λ n. nat_le n most_values) (count_from_one word)

-- a coordinate, in its units
abbrev pub coordinate : Text → Option ℤ
coordinate word = result_ok (coord_of word)

-- a coordinate above 0
abbrev pub positive_coordinate : Text → Option ℤ
positive_coordinate word = kept_if (int_lt (pos 0)) (coordinate word)

-- a number of six decimals, in its units
abbrev pub decimal_of : Text → Option ℤ
decimal_of word = result_ok (micro_of word)

-- one above 0
abbrev pub positive_decimal : Text → Option ℤ
positive_decimal word = kept_if (int_lt (pos 0)) (decimal_of word)

-- a number text's value, rounded half away from zero to a whole number, or the nearer end of 64 bits
abbrev pub whole_value : Text → Option ℤ
whole_value word = option_map (saturate_signed w64) (result_ok (scaled_of 0 word))

-- a word that is a number text
abbrev pub is_number : Text → Bool
is_number word = is_some (parts_of word)

-- any word
abbrev pub any_text : Text → Option Text
any_text word = Some word

-- a field's name: any word but WKT, without regard to ASCII case
abbrev pub field_name : Text → Option Text
field_name word = if str_eq_ignore_ascii_case word (codes "WKT") then None else Some word

-- this word alone, without regard to ASCII case
abbrev pub only : Text → Text → Option Text
only expected word = if str_eq_ignore_ascii_case word expected then Some word else None

-- a type of cells by its name, without regard to ASCII case
abbrev pub cell_kind : Text → Option CellKind
cell_kind word =
    if str_eq_ignore_ascii_case word (codes "Byte") then Some Byte
    else if str_eq_ignore_ascii_case word (codes "Int16") then Some Int16
    else if str_eq_ignore_ascii_case word (codes "Int32") then Some Int32
    else if str_eq_ignore_ascii_case word (codes "Int64") then Some Int64
    else None
