use Rattle.std.proofs.Common.{◌*◌, ◌≤◌, ◌^◌, ◌-◌, arith}
use Rattle.std.proofs.Math.Nat.{mul-le-mul}
use Rattle.asc_grid.proofs.header.product.Goals as goal

pub overflow_mul-result : goal.overflow_mul-result
overflow_mul-result c =
    let cols : c.from.result ≤ 2 ^ 32 - 1 = omega (arith, c.ranges.ncols, c.from.ensures) in
    let rows : c.from-2.result ≤ 2 ^ 32 - 1 = omega (arith, c.ranges.nrows, c.from-2.ensures) in
    let both : c.from.result * c.from-2.result ≤ (2 ^ 32 - 1) * (2 ^ 32 - 1) = mul-le-mul cols rows in
    omega (arith, both)
