-- Corners between two edges, and shares of a span.
use Rattle.std.proofs.Common.{ℕ, ℤ, ◌+◌, ◌*◌, ◌<◌, ◌≤◌, ◌<ℤ◌, ◌+ℤ◌, ◌*ℤ◌, arith, pos, negsuc, ◌/◌, ◌^◌, unsigned_abs}
use Rattle.std.proofs.lemmas.Int.{ints}
use Rattle.std.proofs.Math.Nat.{mul-le-mul_left, div-lt_iff_lt-mul}
use Rattle.fixed_coord.specs.Coordinate.{IsCoord}
use Rattle.fixed_coord.specs.Round.{round_half_up, round_half_away}
use Rattle.geo_transform.specs.Inner.Span.{IsSpan}
use Rattle.geo_transform.specs.Inner.Way.{IsWay}

pub between : (left size : ℤ) (n k : ℕ) → pos 0 <ℤ size → k ≤ n → IsCoord left → IsCoord (left +ℤ pos n *ℤ size) → IsWay left k size
between left (pos s) n k some within a b =
    let more : s * k ≤ s * n = mul-le-mul_left s within in
    record {
      short = omega (arith, ints, more, a.low, b.high);
      end = record { low = omega (arith, ints, more, a.low); high = omega (arith, ints, more, b.high) };
    }
between left (negsuc s) n k some within a b = absurd (omega (arith, ints, some))

pub round_below : (n d : ℕ) → 0 < d → round_half_up n d ≤ n
round_below n d some =
    let more : n * 1 ≤ n * d = mul-le-mul_left n some in
    let positive : 0 < 2 * d = omega arith in
    let product : 2 * n + d < (n + 1) * (2 * d) = omega (arith, more, some) in
    let less : (2 * n + d) / (2 * d) < n + 1 = (div-lt_iff_lt-mul positive).1 product in
    omega (arith, less)

pub share_small : (z : ℤ) (d : ℕ) → 0 < d → IsSpan z → unsigned_abs (round_half_away z d) ≤ 10 ^ 18
share_small (pos n) d some span = omega (arith, ints, round_below n d some, span.within)
share_small (negsuc n) d some span = absurd (omega (arith, ints, span.some))
