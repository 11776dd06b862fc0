-- The whole number that a number text stands for. This project's own.
use Rattle.std.specs.Prelude.{ℕ, ℤ, ◌/◌, ◌%◌, ◌≤◌, ◌≡◌, ◌==◌, if◌then◌else◌, List, length, Result, Ok, Err, true}
use Rattle.fixed_coord.specs.Number.{Fraction, parts_of, is_digits}
use Rattle.fixed_coord.specs.Scaled.{capped, read_by}
use Rattle.fixed_coord.specs.declared.fault.NumberFault.{NumberFault}
use Rattle.fixed_coord.specs.declared.fault.NumberFault.TheVariants.{NotWhole}

-- a fraction that is whole, capped, and a fault where it is not whole
abbrev pub whole_fraction : Fraction → Result ℤ NumberFault
whole_fraction f = if f.above % f.below == 0 then Ok (capped f.negative (f.above / f.below)) else Err NotWhole

-- the whole number that a text stands for
abbrev pub whole_of : List ℕ → Result ℤ NumberFault
whole_of text = read_by whole_fraction (parts_of text)

-- one to eighteen digits
pub record IsShort (digits : List ℕ) : Type 0 where
  pub all_digits : is_digits digits ≡ true
  pub few : length digits ≤ 18
