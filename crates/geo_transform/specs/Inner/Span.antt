-- How far apart two coordinates lie.
use Rattle.std.specs.Prelude.{ℤ, ◌*◌, ◌<ℤ◌, ◌≤ℤ◌, pos}
use Rattle.fixed_coord.specs.Coordinate.{farthest}

-- a length between two different coordinates
pub record IsSpan (length : ℤ) : Type 0 where
  pub some : pos 0 <ℤ length
  pub within : length ≤ℤ pos (2 * farthest)
