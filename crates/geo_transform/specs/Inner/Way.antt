-- Steps from one coordinate to another.
use Rattle.std.specs.Prelude.{ℕ, ℤ, ◌*◌, ◌≤◌, ◌+ℤ◌, ◌*ℤ◌, pos, unsigned_abs}
use Rattle.fixed_coord.specs.Coordinate.{IsCoord, farthest}

-- so many steps from a coordinate lead to a coordinate
pub record IsWay (start : ℤ) (count : ℕ) (step : ℤ) : Type 0 where
  pub short : unsigned_abs (pos count *ℤ step) ≤ 2 * farthest
  pub end : IsCoord (start +ℤ pos count *ℤ step)
