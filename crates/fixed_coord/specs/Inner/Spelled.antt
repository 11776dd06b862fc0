-- The parts of a number text as the code holds them.
use Rattle.std.specs.Str.Parse.{AllDigits}
use Rattle.std.specs.Prelude.{ℕ, ◌*◌, ◌^◌}
use Rattle.fixed_coord.specs.Number.{Fraction, Parts}
use Rattle.fixed_coord.specs.Round.{round_half_up}
use Rattle.fixed_coord.specs.declared.parts.Parts.{Parts as Pieces}

-- the parts that these pieces of a text are
abbrev pub parts_in : Pieces → Parts
parts_in p =
    record {
      negative = p.negative;
      whole = p.whole.now;
      fraction = p.fraction.now;
      down = p.down;
      power = p.power.now;
    }

-- the digits of the parts are digits
pub record IsSpelled (p : Parts) : Type 0 where
  pub before_point : AllDigits 10 p.whole
  pub behind_point : AllDigits 10 p.fraction
  pub exponent : AllDigits 10 p.power

-- the size of a fraction in units of 10^-places, rounded
abbrev pub rounded_units : ℕ → Fraction → ℕ
rounded_units places f = round_half_up (f.above * 10 ^ places) f.below
