-- Which levels are drawn (manual of gdal_contour, options -i, -off and -fl). That both kinds are drawn, each level
-- once, and the ends of the range are this project's own.
use Rattle.std.specs.Prelude.{◌≡◌, ℕ, ℤ, ◌+ℤ◌, ◌*ℤ◌, ◌<ℤ◌, ◌≤ℤ◌, ◌↔◌, ◌⊎◌, pos, List, Option, AllPairs, Contains}
use Rattle.std.specs.Option.{ForSome, IsSomeAnd}
use Rattle.contour_segments.specs.declared.level.LevelSpec.{LevelSpec}

-- the offset and a whole multiple of the interval, above the lowest valid value and at most the highest
pub record IsSpaced (interval offset : ℤ) (range : ℤ × ℤ) (level : ℤ) : Type 0 where
  pub times : ℤ
  pub is : level ≡ offset +ℤ times *ℤ interval
  pub above : range.0 <ℤ level
  pub within : level ≤ℤ range.1

-- a level at the interval, where one is given and a cell is valid, or one of the fixed levels
abbrev pub IsAsked : LevelSpec → Option (ℤ × ℤ) → ℤ → Type 0
IsAsked spec range level = IsSomeAnd spec.interval (λ interval. IsSomeAnd range (λ ends. IsSpaced interval spec.offset ends level)) ⊎ Contains spec.fixed level

-- the levels of both kinds, in ascending order, each once
pub record AreLevels (spec : LevelSpec) (range : Option (ℤ × ℤ)) (levels : List ℤ) : Type 0 where
  pub all : (level : ℤ) → Contains levels level ↔ IsAsked spec range level
  pub rising : AllPairs (λ a b. a <ℤ b) levels

-- more levels than these are refused
abbrev pub most_levels : ℕ
most_levels = 65536

-- an interval that is given is positive
abbrev pub HasPositiveInterval : LevelSpec → Type 0
HasPositiveInterval spec = ForSome spec.interval (λ interval. pos 0 <ℤ interval)

-- the lowest value is at most the highest
abbrev pub IsRange : Option (ℤ × ℤ) → Type 0
IsRange range = ForSome range (λ ends. ends.0 ≤ℤ ends.1)
