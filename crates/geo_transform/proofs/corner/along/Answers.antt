use Rattle.std.proofs.Common.{arith, ◌≡◌, ◌+ℤ◌, ◌*ℤ◌, pos, sym, ◌∙◌, to_z, of_z, w64, subst, ℤ}
use Rattle.std.proofs.lemmas.Int.{ints}
use Rattle.fixed_coord.specs.Coordinate.{IsCoord}
use Rattle.geo_transform.proofs.corner.along.Goals as goal

pub of_units-requires : goal.of_units-requires
of_units-requires c =
    let a : to_z w64 (of_z w64 c.from.result) ≡ pos c.args.count = omega (arith, ints) in
    let b : to_z w64 (of_z w64 c.units-2.result) ≡ c.args.step = omega (arith, ints) in
    let product : to_z w64 (of_z w64 c.from.result) *ℤ to_z w64 (of_z w64 c.units-2.result) ≡ pos c.args.count *ℤ c.args.step = cc (a, b) in
    let sum : to_z w64 (of_z w64 (to_z w64 (of_z w64 c.units.result) +ℤ to_z w64 (of_z w64 (to_z w64 (of_z w64 c.from.result) *ℤ to_z w64 (of_z w64 c.units-2.result)))))
    ≡ c.args.start +ℤ pos c.args.count *ℤ c.args.step =
    omega (arith, ints, product, c.requires.short, c.requires.end.low, c.requires.end.high) in
    subst (λ (z : ℤ). IsCoord z) (sym sum) c.requires.end

pub returns : goal.returns
returns c =
    let a : to_z w64 (of_z w64 c.from.result) ≡ pos c.args.count = omega (arith, ints) in
    let b : to_z w64 (of_z w64 c.units-2.result) ≡ c.args.step = omega (arith, ints) in
    let product : to_z w64 (of_z w64 c.from.result) *ℤ to_z w64 (of_z w64 c.units-2.result) ≡ pos c.args.count *ℤ c.args.step = cc (a, b) in
    let sum : to_z w64 (of_z w64 (to_z w64 (of_z w64 c.units.result) +ℤ to_z w64 (of_z w64 (to_z w64 (of_z w64 c.from.result) *ℤ to_z w64 (of_z w64 c.units-2.result)))))
    ≡ c.args.start +ℤ pos c.args.count *ℤ c.args.step =
    omega (arith, ints, product, c.requires.short, c.requires.end.low, c.requires.end.high) in
    c.of_units.ensures ∙ sum
