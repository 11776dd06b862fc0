-- A decimal fraction that is cut at its point.
use Rattle.std.specs.Prelude.{◌≡◌, ◌↔◌, ℕ, ◌*◌, ◌/◌, ◌%◌, ◌^◌, ◌-◌, List, length, take, drop, min}
use Rattle.std.specs.Str.Parse.{digits_value}
use Rattle.fixed_coord.specs.Number.{Fraction}

-- no size is counted further: past it every number is capped
abbrev pub cap : ℕ
cap = 10 ^ 32

-- the front is the whole part of a fraction times 10^places, and behind it is zero exactly where nothing is left
pub record IsCut (f : Fraction) (places front behind : ℕ) : Type 0 where
  pub in_front : front ≡ min (f.above * 10 ^ places / f.below) cap
  pub left : (behind ≡ 0) ↔ ((f.above * 10 ^ places) % f.below ≡ 0)

-- the front is the number of the first `count` digits, with zeros where there are fewer, and the back that of the others
pub record CutsDigits (digits : List ℕ) (count front behind : ℕ) : Type 0 where
  pub in_front : front ≡ min (digits_value 10 (take count digits) * 10 ^ (count - length digits)) cap
  pub left : behind ≡ min (digits_value 10 (drop count digits)) cap
