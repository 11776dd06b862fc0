use Rattle.std.proofs.Common.{arith}
use Rattle.std.proofs.lemmas.Int.{ints}
use Rattle.all_touched.proofs.StretchLemmas.{first_right_by}
use Rattle.all_touched.proofs.columns.RisingEdge.first_right.Goals as goal

pub returns : goal.returns
returns c =
    first_right_by c.args.frame.now c.args.self.now c.args.y _ _ c.turn-turn.result _ _ c.least_wide_steps.result c.requires.frame
    (omega (arith, ints, c.fall.ensures.value)) (omega (arith, ints, c.side_of.ensures.value, c.side_of.ensures.bound)) (omega (arith, ints, c.requires.y))
    c.turn-turn.ensures.value (omega (arith, ints, c.turn-turn.ensures.bound)) c.least_wide_steps.ensures
