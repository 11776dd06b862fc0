-- Rounding a fraction to the nearest whole number. This project's own.
use Rattle.std.specs.Prelude.{ℕ, ℤ, suc, ◌+◌, ◌*◌, ◌/◌, ◌≤◌, ◌<◌, pos, negsuc, neg_ℤ}

-- the nearest whole number to n / d, and the greater of two that are as near
abbrev pub round_half_up : ℕ → ℕ → ℕ
round_half_up n d = (2 * n + d) / (2 * d)

-- the nearest whole number to z / d, and of two that are as near the one further from zero
abbrev pub round_half_away : ℤ → ℕ → ℤ
round_half_away (pos n) d = pos (round_half_up n d)
round_half_away (negsuc n) d = neg_ℤ (pos (round_half_up (suc n) d))

-- r is at most half a unit from n / d, and not half a unit below it
pub record IsNearest (n d r : ℕ) : Type 0 where
  pub not_above : 2 * d * r ≤ 2 * n + d
  pub not_below : 2 * n < 2 * d * r + d
