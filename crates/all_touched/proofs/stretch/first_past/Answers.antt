use Rattle.std.proofs.Common.{arith}
use Rattle.std.proofs.lemmas.Int.{ints}
use Rattle.all_touched.proofs.ColumnLemmas.{is_first_past}
use Rattle.all_touched.proofs.stretch.first_past.Goals as goal

pub returns : goal.returns
returns c = is_first_past c.args.frame.now c.args.x _ _ c.least_steps.result c.requires
    (omega (arith, ints, c.units-2.ensures.value, c.units-2.ensures.range.low, c.units-2.ensures.range.high))
    (omega (arith, ints, c.side_of-right.ensures.value, c.side_of-right.ensures.bound, c.units.ensures.value, c.units.ensures.range.low, c.units.ensures.range.high))
    c.least_steps.ensures
