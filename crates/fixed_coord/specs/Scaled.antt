-- The number of units of 10^-places that a number text stands for. This project's own.
use Rattle.std.specs.Prelude.{ℕ, ℤ, ◌*◌, ◌^◌, Bool, if◌then◌else◌, List, Option, Some, None}
use Rattle.std.specs.Prelude.{Result, Ok, Err, min, pos, neg_ℤ}
use Rattle.fixed_coord.specs.Limits.{largest}
use Rattle.fixed_coord.specs.Round.{round_half_up}
use Rattle.fixed_coord.specs.Number.{Parts, Fraction, parts_of, fraction_of}
use Rattle.fixed_coord.specs.declared.fault.NumberFault.{NumberFault}
use Rattle.fixed_coord.specs.declared.fault.NumberFault.TheVariants.{NotNumber}

-- the number of this sign and size, its size capped at the largest
abbrev pub capped : Bool → ℕ → ℤ
capped negative size = if negative then neg_ℤ (pos (min size largest)) else pos (min size largest)

-- what is answered of the fraction that a text stands for, and a fault where it is no number text
abbrev pub read_by : (Fraction → Result ℤ NumberFault) → Option Parts → Result ℤ NumberFault
read_by answer None = Err NotNumber
read_by answer (Some parts) = answer (fraction_of parts)

-- a fraction times 10^places, rounded half away from zero and capped
abbrev pub units_of_fraction : ℕ → Fraction → ℤ
units_of_fraction places f = capped f.negative (round_half_up (f.above * 10 ^ places) f.below)

-- the units of 10^-places that a text stands for
abbrev pub scaled_of : ℕ → List ℕ → Result ℤ NumberFault
scaled_of places text = read_by (λ f. Ok (units_of_fraction places f)) (parts_of text)
