-- Levels at one distance.
use Rattle.std.specs.Prelude.{◌≡◌, ℕ, ℤ, ◌*◌, ◌^◌, ◌<◌, ◌≤◌, ◌+ℤ◌, ◌*ℤ◌, ◌≤ℤ◌, ◌↔◌, pos, neg_ℤ, List, Option, Contains}
use Rattle.std.specs.List.{IsDistinct}
use Rattle.std.specs.Option.{IsSomeAnd}
use Rattle.std.specs.Ordering.{int_eq}
use Rattle.contour_segments.specs.Levels.{IsSpaced}
use Rattle.contour_segments.specs.declared.level.LevelSpec.{LevelSpec}
use Rattle.contour_segments.specs.declared.series.Series.{Series}

-- so far above a value lies the first offset plus a whole multiple of the interval
pub record IsGap (interval : ℕ) (offset low : ℤ) (gap : ℕ) : Type 0 where
  pub some : 0 < gap
  pub least : gap ≤ interval
  pub times : ℤ
  pub is : low +ℤ pos gap ≡ offset +ℤ times *ℤ pos interval

-- so many levels, so far apart, lie between a first one and an end
abbrev pub CountsUpTo : ℤ → ℕ → ℤ → ℕ → Type 0
CountsUpTo first step high count = (k : ℕ) → (k < count) ↔ ((first +ℤ pos (k * step)) ≤ℤ high)

-- the level of this number
abbrev pub level_at : Series → ℕ → ℤ
level_at series k = series.first +ℤ pos (k * series.step)

-- the level is one of them
abbrev pub IsAt : Series → ℤ → Type 0
IsAt series level = (k : ℕ) × (k < series.count) × (level ≡ level_at series k)

-- the numbers fit, and each of the levels is a value that a cell can have
pub record IsSeries (series : Series) : Type 0 where
  pub some : 0 < series.step
  pub small : series.step ≤ 10 ^ 18
  pub low : neg_ℤ (pos (10 ^ 18)) ≤ℤ series.first
  pub high : series.first ≤ℤ pos (2 * 10 ^ 18)
  pub last : (k : ℕ) → k < series.count → level_at series k ≤ℤ pos (10 ^ 18)

-- they are the levels at the interval, where one is given and a cell is valid
abbrev pub AreSpaced : LevelSpec → Option (ℤ × ℤ) → Series → Type 0
AreSpaced spec range series = (level : ℤ) → IsAt series level ↔ IsSomeAnd spec.interval (λ interval. IsSomeAnd range (λ ends. IsSpaced interval spec.offset ends level))

-- the fixed levels that are not among them, each once
pub record AreOthers (fixed : List ℤ) (series : Series) (others : List ℤ) : Type 0 where
  pub all : (level : ℤ) → Contains others level ↔ (Contains fixed level × (¬ IsAt series level))
  pub once : IsDistinct int_eq others
