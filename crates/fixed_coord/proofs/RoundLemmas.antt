-- Rounding to the nearest.
use Rattle.std.proofs.Common.{◌≡◌, ℕ, suc, ◌+◌, ◌*◌, ◌/◌, ◌<◌, ◌≤◌, arith, inl, inr}
use Rattle.std.proofs.Math.Nat.{mul-div-le, mul-le-mul_left}
use Rattle.std.proofs.lemmas.Bool.{cases_order}
use Rattle.fixed_coord.specs.Round.{round_half_up, IsNearest}

-- no whole number is nearer, and a half goes up
pub round_half_up-IsNearest : (n d : ℕ) → 0 < d → IsNearest n d (round_half_up n d)
round_half_up-IsNearest n d some =
    let positive : 0 < 2 * d = omega arith in
    record { not_above = omega (arith, mul-div-le (2 * n + d) (2 * d)); not_below = omega (arith, positive) }

not_less : (n d r s : ℕ) → IsNearest n d r → IsNearest n d s → r < s → ⊥
not_less n d r s one other less =
    let more : d * suc r ≤ d * s = mul-le-mul_left d (omega arith) in
    omega (arith, more, one.not_below, other.not_above)

-- there is only one such number
pub IsNearest-only : (n d r s : ℕ) → IsNearest n d r → IsNearest n d s → r ≡ s
IsNearest-only n d r s one other =
    elim (cases_order r s) [
      | inl e ↦ e
      | inr h ↦ elim h [ inl a ↦ absurd (not_less n d r s one other a) | inr b ↦ absurd (not_less n d s r other one b) ]
    ]

-- rounding by one digit more
pub round_by_tenths : (n d : ℕ) → 0 < d → round_half_up n d ≡ (10 * n / d + 5) / 10
round_by_tenths n d some =
    let q : ℕ = 10 * n / d in
    let t : ℕ = (q + 5) / 10 in
    let low : d * q ≤ 10 * n = mul-div-le (10 * n) d in
    let high : 10 * n < d * q + d = omega (arith, some) in
    let below : d * (10 * t) ≤ d * (q + 5) = mul-le-mul_left d (omega arith) in
    let above : d * (q + 6) ≤ d * (10 * t + 10) = mul-le-mul_left d (omega arith) in
    IsNearest-only n d (round_half_up n d) t (round_half_up-IsNearest n d some) (record { not_above = omega (arith, low, below); not_below = omega (arith, high, above) })

-- a whole number stays
pub round_whole : (n d : ℕ) → 0 < d → round_half_up (d * n) d ≡ n
round_whole n d some =
    IsNearest-only (d * n) d (round_half_up (d * n) d) n (round_half_up-IsNearest (d * n) d some) (record { not_above = omega arith; not_below = omega (arith, some) })
