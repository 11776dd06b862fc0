use Rattle.std.proofs.Common.{arith}
use Rattle.std.proofs.lemmas.Int.{ints}
use Rattle.burn_scanline.proofs.StripLemmas.{strip_reaching}
use Rattle.burn_scanline.proofs.crossing.rows_reaching.Goals as goal

pub returns-clause-rows : goal.returns-clause-rows
returns-clause-rows c =
    strip_reaching c.args.frame.now c.args.y _ _ c.least_steps.result c.requires
    (omega (arith, ints, c.units-2.ensures.value, c.units-2.ensures.range.low, c.units-2.ensures.range.high))
    (omega (arith, ints, c.top_of-top.ensures.value, c.top_of-top.ensures.bound, c.units.ensures.value, c.units.ensures.range.low, c.units.ensures.range.high))
    c.least_steps.ensures
