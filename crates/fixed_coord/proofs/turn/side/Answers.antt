use Rattle.std.proofs.Common.{arith, ◌≡◌, ap, ◌∙◌, ◌-ℤ◌, ◌*ℤ◌, pos, to_z, of_z, w64}
use Rattle.std.specs.Int.{w128}
use Rattle.std.proofs.lemmas.Int.{ints}
use Rattle.std.specs.Ordering.{int_cmp}
use Rattle.fixed_coord.specs.Turn.{turn}
use Rattle.fixed_coord.proofs.TextLemmas.{cmp_by_difference}
use Rattle.fixed_coord.proofs.turn.side.Goals as goal

pub returns : goal.returns
returns c =
    let a = c.args.a in
    let b = c.args.b in
    let p = c.args.p in
    let bx : to_z w64 (of_z w64 (to_z w64 (of_z w64 b.0) -ℤ to_z w64 (of_z w64 a.0))) ≡ b.0 -ℤ a.0 = omega (arith, ints) in
    let by : to_z w64 (of_z w64 (to_z w64 (of_z w64 b.1) -ℤ to_z w64 (of_z w64 a.1))) ≡ b.1 -ℤ a.1 = omega (arith, ints) in
    let px : to_z w64 (of_z w64 (to_z w64 (of_z w64 p.0) -ℤ to_z w64 (of_z w64 a.0))) ≡ p.0 -ℤ a.0 = omega (arith, ints) in
    let py : to_z w64 (of_z w64 (to_z w64 (of_z w64 p.1) -ℤ to_z w64 (of_z w64 a.1))) ≡ p.1 -ℤ a.1 = omega (arith, ints) in
    let along : c.product-along.result ≡ (b.0 -ℤ a.0) *ℤ (p.1 -ℤ a.1) = cc (bx, py) in
    let across : c.product-across.result ≡ (b.1 -ℤ a.1) *ℤ (p.0 -ℤ a.0) = cc (by, px) in
    let same : to_z w128 (of_z w128 c.product-along.result) ≡ c.product-along.result = omega (arith, ints) in
    let same2 : to_z w128 (of_z w128 c.product-across.result) ≡ c.product-across.result = omega (arith, ints) in
    let first : c.cmp.result ≡ int_cmp c.product-along.result c.product-across.result = cc (same, same2) in
    let turned : c.product-along.result -ℤ c.product-across.result ≡ turn a b p = cc in
    first ∙ cmp_by_difference c.product-along.result c.product-across.result ∙ ap (λ t. int_cmp t (pos 0)) turned
