use Rattle.std.proofs.Common.{arith, ◌≡◌, ◌-ℤ◌, ap, Ok, to_z, of_z, w64, refl}
use Rattle.std.proofs.lemmas.Int.{ints}
use Rattle.geo_transform.proofs.FaultLemmas.{empty_across, empty_down, not_empty}
use Rattle.geo_transform.proofs.frame.spans.Goals as goal

pub returns-then-across-le0-clause-fault : goal.returns-then-across-le0-clause-fault
returns-then-across-le0-clause-fault c = let h = empty_across c.args.extent.now (omega (arith, ints)) in rw h refl

pub returns-then-down-le0-clause-fault : goal.returns-then-down-le0-clause-fault
returns-then-down-le0-clause-fault c = let h = empty_down c.args.extent.now (omega (arith, ints)) in rw h refl

pub returns-clause-fault : goal.returns-clause-fault
returns-clause-fault c =
    let e = c.args.extent.now in
    let h = not_empty e (omega (arith, ints)) (omega (arith, ints)) in
    let x : to_z w64 (of_z w64 (to_z w64 (of_z w64 c.units.result) -ℤ to_z w64 (of_z w64 c.units-2.result))) ≡ e.xmax -ℤ e.xmin = omega (arith, ints) in
    let y : to_z w64 (of_z w64 (to_z w64 (of_z w64 c.units-3.result) -ℤ to_z w64 (of_z w64 c.units-4.result))) ≡ e.ymax -ℤ e.ymin = omega (arith, ints) in
    rw h (ap Ok (cc (x, y)))
