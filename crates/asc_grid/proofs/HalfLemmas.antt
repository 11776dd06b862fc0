-- Half of a whole number.
use Rattle.std.proofs.Common.{◌≡◌, ℕ, ℤ, suc, ◌+◌, ◌*◌, ◌/◌, ◌≤ℤ◌, ◌<ℤ◌, pos, negsuc, neg_ℤ, unsigned_abs, ap, arith}
use Rattle.std.proofs.lemmas.Int.{ints}
use Rattle.fixed_coord.specs.Round.{round_half_away}

half_nat : (n : ℕ) → (2 * n + 2) / (2 * 2) ≡ (n + 1) / 2
half_nat n = omega arith

pub half_above : (z : ℤ) → pos 0 ≤ℤ z → round_half_away z 2 ≡ pos ((unsigned_abs z + 1) / 2)
half_above (pos n) above = ap pos (half_nat n)
half_above (negsuc n) above = absurd (omega (arith, ints, above))

pub half_below : (z : ℤ) → z <ℤ pos 0 → round_half_away z 2 ≡ neg_ℤ (pos ((unsigned_abs z + 1) / 2))
half_below (pos n) below = absurd (omega (arith, ints, below))
half_below (negsuc n) below = ap (λ m. neg_ℤ (pos m)) (half_nat (suc n))
