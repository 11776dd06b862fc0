-- When a count of faults rises. Source: this project's own.
use Rattle.std.specs.Prelude.{◌≡◌, ℕ, ◌+◌, ◌-◌, ◌^◌, ◌≤◌, min}

-- the count rose by one, or stands at the last value of a `u64`
abbrev pub Rose : ℕ → ℕ → Type 0
Rose before now = now ≡ min (before + 1) (2 ^ 64 - 1)

-- the count rises with this answer and with no other, and never falls
pub record Counts (answer : Type 0) (before now : ℕ) : Type 0 where
  pub rose : answer → Rose before now
  pub stood : ¬ answer → now ≡ before
  pub later : before ≤ now
