-- Coordinates in units of 10^-10. This project's own.
use Rattle.std.specs.Prelude.{ℕ, ℤ, ◌*◌, ◌^◌, Bool, ◌≤ℤ◌, int_le, ◌&&◌, if◌then◌else◌, List, Result, Ok, Err, pos, neg_ℤ}
use Rattle.fixed_coord.specs.Limits.{most_coordinate}
use Rattle.fixed_coord.specs.Scaled.{scaled_of}
use Rattle.fixed_coord.specs.declared.fault.NumberFault.{NumberFault}
use Rattle.fixed_coord.specs.declared.fault.NumberFault.TheVariants.{OutOfRange}

-- how many decimals a coordinate has
abbrev pub coord_places : ℕ
coord_places = 10

-- the units of the greatest coordinate: none is further from zero
abbrev pub farthest : ℕ
farthest = most_coordinate * 10 ^ coord_places

-- a number of units that a coordinate may have
pub record IsCoord (units : ℤ) : Type 0 where
  pub low : neg_ℤ (pos farthest) ≤ℤ units
  pub high : units ≤ℤ pos farthest

-- the same as a test
abbrev pub is_coord : ℤ → Bool
is_coord units = int_le (neg_ℤ (pos farthest)) units && int_le units (pos farthest)

abbrev pub in_range : Result ℤ NumberFault → Result ℤ NumberFault
in_range (Err fault) = Err fault
in_range (Ok units) = if is_coord units then Ok units else Err OutOfRange

-- the units that a text stands for at ten decimals, if a coordinate may have them
abbrev pub coord_of : List ℕ → Result ℤ NumberFault
coord_of text = in_range (scaled_of coord_places text)
