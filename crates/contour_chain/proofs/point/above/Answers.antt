use Rattle.std.proofs.Common.{◌≡◌, ◌*◌, ◌≤◌, ◌+ℤ◌, ◌-ℤ◌, ◌*ℤ◌, ℤ, unsigned_abs, to_z, of_z, w64, ap, ◌∙◌, subst, sym, arith}
use Rattle.std.proofs.lemmas.Int.{ints}
use Rattle.fixed_coord.specs.Coordinate.{farthest}
use Rattle.contour_chain.specs.Points.{above_bar, below_bar}
use Rattle.contour_chain.specs.declared.point.Spot.{Spot}
use Rattle.contour_chain.proofs.PointLemmas.{above_small, below_small}
use Rattle.contour_chain.proofs.point.above.Goals as goal

product_is : (a b x y p : ℤ) → p ≡ a *ℤ b → a ≡ x → b ≡ y → p ≡ x *ℤ y
product_is a b x y p is one two = is ∙ ap (λ (z : ℤ). z *ℤ b) one ∙ ap (λ (z : ℤ). x *ℤ z) two

sum_is : (level : ℤ) (low high : Spot) (p q : ℤ) → p ≡ low.twice *ℤ (high.value -ℤ level) → q ≡ high.twice *ℤ (level -ℤ low.value) → p +ℤ q ≡ above_bar level low high
sum_is level low high p q one two = ap (λ (z : ℤ). z +ℤ q) one ∙ ap (λ (z : ℤ). low.twice *ℤ (high.value -ℤ level) +ℤ z) two

pub overflow_add-result : goal.overflow_add-result
overflow_add-result c =
    let slope = c.requires.slope in
    let one : c.product.result ≡ c.args.low.twice *ℤ (c.args.high.value -ℤ c.args.level) = product_is (to_z w64 (of_z w64 c.args.low.twice)) (to_z w64 (of_z w64 c.rise.result)) c.args.low.twice (c.args.high.value -ℤ c.args.level) c.product.result c.product.ensures (omega (arith, ints, slope.low_spot.at)) (omega (arith, ints, c.rise.ensures, slope.high_spot.micro.low, slope.high_spot.micro.high, c.requires.level)) in
    let two : c.product-2.result ≡ c.args.high.twice *ℤ (c.args.level -ℤ c.args.low.value) = product_is (to_z w64 (of_z w64 c.args.high.twice)) (to_z w64 (of_z w64 c.rise-2.result)) c.args.high.twice (c.args.level -ℤ c.args.low.value) c.product-2.result c.product-2.ensures (omega (arith, ints, slope.high_spot.at)) (omega (arith, ints, c.rise-2.ensures, slope.low_spot.micro.low, slope.low_spot.micro.high, c.requires.level)) in
    let sum = sum_is c.args.level c.args.low c.args.high c.product.result c.product-2.result one two in
    let small = above_small c.args.level c.args.low c.args.high slope in
    let most = (below_small c.args.level c.args.low c.args.high slope).1 in
    omega (arith, ints, sum, small, most, c.product.type_inv, c.product-2.type_inv)

pub returns-clause-value : goal.returns-clause-value
returns-clause-value c =
    let slope = c.requires.slope in
    let one : c.product.result ≡ c.args.low.twice *ℤ (c.args.high.value -ℤ c.args.level) = product_is (to_z w64 (of_z w64 c.args.low.twice)) (to_z w64 (of_z w64 c.rise.result)) c.args.low.twice (c.args.high.value -ℤ c.args.level) c.product.result c.product.ensures (omega (arith, ints, slope.low_spot.at)) (omega (arith, ints, c.rise.ensures, slope.high_spot.micro.low, slope.high_spot.micro.high, c.requires.level)) in
    let two : c.product-2.result ≡ c.args.high.twice *ℤ (c.args.level -ℤ c.args.low.value) = product_is (to_z w64 (of_z w64 c.args.high.twice)) (to_z w64 (of_z w64 c.rise-2.result)) c.args.high.twice (c.args.level -ℤ c.args.low.value) c.product-2.result c.product-2.ensures (omega (arith, ints, slope.high_spot.at)) (omega (arith, ints, c.rise-2.ensures, slope.low_spot.micro.low, slope.low_spot.micro.high, c.requires.level)) in
    let sum = sum_is c.args.level c.args.low c.args.high c.product.result c.product-2.result one two in
    let small = above_small c.args.level c.args.low c.args.high slope in
    let most = (below_small c.args.level c.args.low c.args.high slope).1 in
    omega (arith, ints, sum, small, most, c.product.type_inv, c.product-2.type_inv)

pub returns-clause-size : goal.returns-clause-size
returns-clause-size c =
    let small = above_small c.args.level c.args.low c.args.high c.requires.slope in
    subst (λ (z : ℤ). unsigned_abs z ≤ farthest * below_bar c.args.low c.args.high) (sym (returns-clause-value c)) small
