use Rattle.std.proofs.Common.{◌≡◌, ℤ, to_z, of_z, w64, sym, ap, ◌∙◌, arith}
use Rattle.std.proofs.lemmas.Int.{ints}
use Rattle.fixed_coord.specs.Round.{round_half_away}
use Rattle.contour_chain.proofs.PointLemmas.{level_way}
use Rattle.contour_chain.proofs.point.part_way.Goals as goal

pub returns-then-low-high : goal.returns-then-low-high
returns-then-low-high c =
    let slope = c.requires.slope in
    let twice : to_z w64 (of_z w64 c.args.low.twice) ≡ c.args.low.twice = omega (arith, ints, slope.low_spot.at) in
    let same : c.args.low.twice ≡ c.args.high.twice = omega (arith, ints, c.if-low-high.true, slope.low_spot.at, slope.high_spot.at) in
    c.halved.ensures ∙ ap (λ (z : ℤ). round_half_away z 2) twice ∙ sym (level_way c.args.level c.args.low c.args.high same slope.low_is slope.high_is)
