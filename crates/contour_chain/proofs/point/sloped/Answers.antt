use Rattle.std.proofs.Common.{◌≡◌, ℕ, ℤ, unsigned_abs, to_z, of_z, w64, ap, ◌∙◌, arith}
use Rattle.std.specs.Int.{w128}
use Rattle.std.proofs.lemmas.Int.{ints}
use Rattle.fixed_coord.specs.Round.{round_half_away}
use Rattle.contour_chain.specs.Points.{above_bar, below_bar, part_way}
use Rattle.contour_chain.specs.declared.point.Spot.{Spot}
use Rattle.contour_chain.proofs.PointLemmas.{above_small, below_small, way_coord}
use Rattle.contour_chain.proofs.point.sloped.Goals as goal

-- the fraction of the numbers as they were made
rounded : (level z : ℤ) (low high : Spot) (n : ℕ) (r : ℤ) → z ≡ above_bar level low high → n ≡ below_bar low high → r ≡ round_half_away z n → r ≡ part_way level low high
rounded level z low high n r one two is = is ∙ ap (λ (x : ℤ). round_half_away x n) one ∙ ap (λ (k : ℕ). round_half_away (above_bar level low high) k) two

pub overflow_cast-units : goal.overflow_cast-units
overflow_cast-units c =
    let low = c.args.low in
    let high = c.args.high in
    let level : to_z w64 (of_z w64 c.args.level) ≡ c.args.level = omega (arith, ints, c.requires.level) in
    let is : c.above.result ≡ above_bar c.args.level low high = c.above.ensures.value ∙ ap (λ (z : ℤ). above_bar z low high) level in
    let below = below_small c.args.level low high c.requires.slope in
    let small = above_small c.args.level low high c.requires.slope in
    let units = rounded c.args.level (to_z w128 (of_z w128 c.above.result)) low high (unsigned_abs (to_z w128 (of_z w128 c.below.result))) c.ratio_round-units.result (omega (arith, ints, is, small, below.1)) (omega (arith, ints, c.below.ensures, below.1)) c.ratio_round-units.ensures in
    let coord = way_coord c.args.level low high c.requires.slope in
    omega (arith, ints, units, coord.low, coord.high)

pub of_units-requires : goal.of_units-requires
of_units-requires c =
    let low = c.args.low in
    let high = c.args.high in
    let level : to_z w64 (of_z w64 c.args.level) ≡ c.args.level = omega (arith, ints, c.requires.level) in
    let is : c.above.result ≡ above_bar c.args.level low high = c.above.ensures.value ∙ ap (λ (z : ℤ). above_bar z low high) level in
    let below = below_small c.args.level low high c.requires.slope in
    let small = above_small c.args.level low high c.requires.slope in
    let units = rounded c.args.level (to_z w128 (of_z w128 c.above.result)) low high (unsigned_abs (to_z w128 (of_z w128 c.below.result))) c.ratio_round-units.result (omega (arith, ints, is, small, below.1)) (omega (arith, ints, c.below.ensures, below.1)) c.ratio_round-units.ensures in
    let coord = way_coord c.args.level low high c.requires.slope in
    record { low = omega (arith, ints, units, coord.low, coord.high); high = omega (arith, ints, units, coord.low, coord.high) }

pub returns : goal.returns
returns c =
    let low = c.args.low in
    let high = c.args.high in
    let level : to_z w64 (of_z w64 c.args.level) ≡ c.args.level = omega (arith, ints, c.requires.level) in
    let is : c.above.result ≡ above_bar c.args.level low high = c.above.ensures.value ∙ ap (λ (z : ℤ). above_bar z low high) level in
    let below = below_small c.args.level low high c.requires.slope in
    let small = above_small c.args.level low high c.requires.slope in
    let units = rounded c.args.level (to_z w128 (of_z w128 c.above.result)) low high (unsigned_abs (to_z w128 (of_z w128 c.below.result))) c.ratio_round-units.result (omega (arith, ints, is, small, below.1)) (omega (arith, ints, c.below.ensures, below.1)) c.ratio_round-units.ensures in
    let coord = way_coord c.args.level low high c.requires.slope in
    omega (arith, ints, c.of_units.ensures, units, coord.low, coord.high)
