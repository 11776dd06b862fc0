-- The attribute of a record. This project's own.
use Rattle.std.specs.Prelude.{ℕ, ℤ, ◌-◌, ◌==◌, List, length, drop, take, Option, Some, None, Result, Ok, Err, if◌then◌else◌}
use Rattle.std.specs.Int.{saturate_signed, w64}
use Rattle.std.specs.List.{prefix_len, suffix_len}
use Rattle.fixed_coord.specs.Scaled.{scaled_of}
use Rattle.fixed_coord.specs.declared.fault.NumberFault.{NumberFault}
use Rattle.wkt_text.specs.Tokens.{is_blank}

-- a text without the blanks that it ends with, and without those that it begins with
abbrev pub without_last_blanks : List ℕ → List ℕ
without_last_blanks text = take (length text - suffix_len is_blank text) text

abbrev pub trimmed : List ℕ → List ℕ
trimmed text = without_last_blanks (drop (prefix_len is_blank text) text)

-- a number clamped to what stands between the ends of i64
abbrev pub clamped : Result ℤ NumberFault → Result (Option ℤ) NumberFault
clamped (Err fault) = Err fault
clamped (Ok number) = Ok (Some (saturate_signed w64 number))

-- a text without blanks round it: none where it is empty, and else its number, rounded half away from zero
abbrev pub number_in : List ℕ → Result (Option ℤ) NumberFault
number_in text = if length text == 0 then Ok None else clamped (scaled_of 0 text)

-- the value of an attribute's field, if there is one
abbrev pub value_of : Option (List ℕ) → Result (Option ℤ) NumberFault
value_of None = Ok None
value_of (Some text) = number_in (trimmed text)
