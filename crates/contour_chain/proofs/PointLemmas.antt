-- How large the numbers of a crossing are, and the crossing of two centres with one coordinate.
use Rattle.std.proofs.Common.{◌≡◌, ℕ, ℤ, zero, suc, ◌+◌, ◌-◌, ◌*◌, ◌/◌, ◌^◌, ◌<◌, ◌≤◌, ◌≤ℤ◌, ◌<ℤ◌, ◌+ℤ◌, ◌-ℤ◌, ◌*ℤ◌, pos, negsuc, neg_ℤ, unsigned_abs, refl, sym, ap, ◌∙◌, arith}
use Rattle.std.proofs.lemmas.Int.{ints, unsigned_abs-mul}
use Rattle.std.proofs.lemmas.Nat.{mul-le}
use Rattle.std.proofs.Math.Nat.{div-lt_iff_lt-mul, mul-le-mul_right}
use Rattle.fixed_coord.specs.Coordinate.{IsCoord, farthest}
use Rattle.fixed_coord.specs.Round.{round_half_away, round_half_up}
use Rattle.fixed_coord.proofs.RoundLemmas.{IsNearest-only, round_half_up-IsNearest}
use Rattle.geo_transform.specs.Corner.{centre2_of}
use Rattle.geo_transform.specs.Frame.{IsFrame}
use Rattle.geo_transform.specs.declared.frame.Frame.{Frame}
use Rattle.geo_transform.proofs.CornerLemmas.{between as corner_between}
use Rattle.contour_chain.specs.Points.{above_bar, below_bar, part_way}
use Rattle.contour_chain.specs.Inner.Crossings.{IsSlope}
use Rattle.contour_chain.specs.declared.point.Spot.{Spot}

product_small : (x y : ℤ) → unsigned_abs x ≤ 2 * farthest → unsigned_abs (x *ℤ y) ≤ 2 * farthest * unsigned_abs y
product_small x y small =
    let is = unsigned_abs-mul x y in
    let more : unsigned_abs x * unsigned_abs y ≤ 2 * farthest * unsigned_abs y = mul-le-mul_right (unsigned_abs y) small in
    omega (arith, is, more)

sum_small : (a b : ℤ) → unsigned_abs (a +ℤ b) ≤ unsigned_abs a + unsigned_abs b
sum_small a b = omega (arith, ints)

pub above_small : (level : ℤ) (low high : Spot) → IsSlope level low high → unsigned_abs (above_bar level low high) ≤ farthest * below_bar low high
above_small level low high is =
    let one = product_small low.twice (high.value -ℤ level) is.low_spot.at in
    let two = product_small high.twice (level -ℤ low.value) is.high_spot.at in
    let both = sum_small (low.twice *ℤ (high.value -ℤ level)) (high.twice *ℤ (level -ℤ low.value)) in
    let ways : unsigned_abs (high.value -ℤ level) + unsigned_abs (level -ℤ low.value) ≡ unsigned_abs (high.value -ℤ low.value) = omega (arith, ints, is.low_is, is.high_is) in
    let twice : below_bar low high ≡ 2 * unsigned_abs (high.value -ℤ low.value) = unsigned_abs-mul (pos 2) (high.value -ℤ low.value) in
    omega (arith, one, two, both, ways, twice)

pub below_small : (level : ℤ) (low high : Spot) → IsSlope level low high → (0 < below_bar low high) × (below_bar low high ≤ 4 * 10 ^ 18)
below_small level low high is =
    let twice : below_bar low high ≡ 2 * unsigned_abs (high.value -ℤ low.value) = unsigned_abs-mul (pos 2) (high.value -ℤ low.value) in
    let some : 0 < unsigned_abs (high.value -ℤ low.value) = omega (arith, ints, is.low_is, is.high_is) in
    let most : unsigned_abs (high.value -ℤ low.value) ≤ 2 * 10 ^ 18 = omega (arith, ints, is.low_spot.micro.low, is.low_spot.micro.high, is.high_spot.micro.low, is.high_spot.micro.high) in
    (omega (arith, twice, some), omega (arith, twice, most))

ratio_small : (n d : ℕ) → 0 < d → n ≤ farthest * d → round_half_up n d ≤ farthest
ratio_small n d some small =
    let positive : 0 < 2 * d = omega arith in
    let product : 2 * n + d < (farthest + 1) * (2 * d) = omega (arith, small, some) in
    let less : (2 * n + d) / (2 * d) < farthest + 1 = (div-lt_iff_lt-mul positive).1 product in
    omega (arith, less)

pub rounded_coord : (z : ℤ) (d : ℕ) → 0 < d → unsigned_abs z ≤ farthest * d → IsCoord (round_half_away z d)
rounded_coord (pos n) d some small =
    let most = ratio_small n d some small in
    record { low = omega (arith, ints); high = omega (arith, ints, most) }
rounded_coord (negsuc n) d some small =
    let most = ratio_small (suc n) d some small in
    record { low = omega (arith, ints, most); high = omega (arith, ints) }

pub way_coord : (level : ℤ) (low high : Spot) → IsSlope level low high → IsCoord (part_way level low high)
way_coord level low high is =
    let below = below_small level low high is in
    rounded_coord (above_bar level low high) (below_bar low high) below.0 (above_small level low high is)

-- a centre of a frame
pub centre_small : (f : Frame) (row col : ℕ) → IsFrame f → row < f.nrows → col < f.ncols → (unsigned_abs (centre2_of f row col).0 ≤ 2 * farthest) × (unsigned_abs (centre2_of f row col).1 ≤ 2 * farthest)
centre_small f row col is in_row in_col =
    let left = corner_between f.xll f.cell f.ncols col is.some_size (omega arith) is.left is.right in
    let right = corner_between f.xll f.cell f.ncols (col + 1) is.some_size (omega arith) is.left is.right in
    let upper = corner_between f.yll f.cell f.nrows (f.nrows - row) is.some_size (omega arith) is.lower is.upper in
    let lower = corner_between f.yll f.cell f.nrows (f.nrows - (row + 1)) is.some_size (omega arith) is.lower is.upper in (
      omega (arith, ints, left.end.low, left.end.high, right.end.low, right.end.high),
      omega (arith, ints, upper.end.low, upper.end.high, lower.end.low, lower.end.high),
    )

-- a fraction with both its numbers multiplied rounds the same
round_scaled : (n d w : ℕ) → 0 < d → 0 < w → round_half_up (n * w) (d * w) ≡ round_half_up n d
round_scaled n d w some_d some_w =
    let r = round_half_up n d in
    let near = round_half_up-IsNearest n d some_d in
    let above : (2 * d * r) * w ≤ (2 * n + d) * w = mul-le-mul_right w near.not_above in
    let below : suc (2 * n) * w ≤ (2 * d * r + d) * w = mul-le-mul_right w near.not_below in
    let some : 1 * 1 ≤ d * w = mul-le 1 1 d w some_d some_w in
    IsNearest-only (n * w) (d * w) (round_half_up (n * w) (d * w)) r (round_half_up-IsNearest (n * w) (d * w) (omega (arith, some))) (record { not_above = omega (arith, above); not_below = omega (arith, below, some_w) })

round_scaled_away : (z : ℤ) (d w : ℕ) → 0 < d → 0 < w → round_half_away (z *ℤ pos w) (d * w) ≡ round_half_away z d
round_scaled_away (pos n) d w some_d some_w = ap (λ y. round_half_away y (d * w)) (pos_product n w) ∙ ap pos (round_scaled n d w some_d some_w)
  where
    pos_product : (m k : ℕ) → pos m *ℤ pos k ≡ pos (m * k)
    pos_product m k = refl
round_scaled_away (negsuc n) d zero some_d some_w = absurd (omega (arith, some_w))
round_scaled_away (negsuc n) d (suc w) some_d some_w = negated (suc n * suc w) (omega arith) ∙ ap (λ k. neg_ℤ (pos k)) (round_scaled (suc n) d (suc w) some_d some_w)
  where
    negated : (k : ℕ) → 0 < k → round_half_away (neg_ℤ (pos k)) (d * suc w) ≡ neg_ℤ (pos (round_half_up k (d * suc w)))
    negated zero some = absurd (omega (arith, some))
    negated (suc k) some = refl

distributed : (x : ℤ) (u v : ℕ) → x *ℤ pos u +ℤ x *ℤ pos v ≡ x *ℤ pos (u + v)
distributed (pos k) u v =
    let is : k * u + k * v ≡ k * (u + v) = omega arith in
    ap pos is
distributed (negsuc k) u v =
    let is : suc k * u + suc k * v ≡ suc k * (u + v) = omega arith in
    negated (suc k * u) (suc k * v) ∙ ap (λ n. neg_ℤ (pos n)) is
  where
    negated : (a b : ℕ) → neg_ℤ (pos a) +ℤ neg_ℤ (pos b) ≡ neg_ℤ (pos (a + b))
    negated a b = omega (arith, ints)

-- where both centres have one coordinate, the crossing has it
pub level_way : (level : ℤ) (low high : Spot) → low.twice ≡ high.twice → low.value <ℤ level → level ≤ℤ high.value → part_way level low high ≡ round_half_away low.twice 2
level_way level low high same is_low is_high =
    let u = unsigned_abs (high.value -ℤ level) in
    let v = unsigned_abs (level -ℤ low.value) in
    let up : high.value -ℤ level ≡ pos u = omega (arith, ints, is_high) in
    let down : level -ℤ low.value ≡ pos v = omega (arith, ints, is_low) in
    let some : 0 < u + v = omega (arith, ints, is_low) in
    let width : unsigned_abs (high.value -ℤ low.value) ≡ u + v = omega (arith, ints, is_low, is_high) in
    let above : above_bar level low high ≡ low.twice *ℤ pos (u + v) = ap (λ t. low.twice *ℤ (high.value -ℤ level) +ℤ t *ℤ (level -ℤ low.value)) (sym same) ∙ ap (λ z. low.twice *ℤ z +ℤ low.twice *ℤ (level -ℤ low.value)) up ∙ ap (λ z. low.twice *ℤ pos u +ℤ low.twice *ℤ z) down ∙ distributed low.twice u v in
    let below : below_bar low high ≡ 2 * (u + v) = unsigned_abs-mul (pos 2) (high.value -ℤ low.value) ∙ ap (λ k. 2 * k) width in
    ap (λ z. round_half_away z (below_bar low high)) above ∙ ap (λ d. round_half_away (low.twice *ℤ pos (u + v)) d) below ∙ round_scaled_away low.twice 2 (u + v) (omega arith) some
