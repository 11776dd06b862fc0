use Rattle.std.proofs.Common.{arith, ◌≡◌, ◌+ℤ◌, to_z, of_z, w64}
use Rattle.std.proofs.lemmas.Int.{ints}
use Rattle.geo_transform.proofs.frame.Frame.centre2.Goals as goal

pub returns : goal.returns
returns c =
    let x : to_z w64 (of_z w64 (to_z w64 (of_z w64 c.units.result) +ℤ to_z w64 (of_z w64 c.units-2.result))) ≡ c.corner-left.result.0 +ℤ c.corner-right.result.0 =
    omega (arith, ints, c.units.ensures.range.low, c.units.ensures.range.high, c.units-2.ensures.range.low, c.units-2.ensures.range.high) in
    let y : to_z w64 (of_z w64 (to_z w64 (of_z w64 c.units-3.result) +ℤ to_z w64 (of_z w64 c.units-4.result))) ≡ c.corner-left.result.1 +ℤ c.corner-right.result.1 =
    omega (arith, ints, c.units-3.ensures.range.low, c.units-3.ensures.range.high, c.units-4.ensures.range.low, c.units-4.ensures.range.high) in
    cc (x, y, c.corner-left.ensures, c.corner-right.ensures)
