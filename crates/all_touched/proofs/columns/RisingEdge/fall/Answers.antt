use Rattle.std.proofs.Common.{◌<ℤ◌, pos, arith}
use Rattle.std.proofs.lemmas.Int.{ints}
use Rattle.all_touched.proofs.StretchLemmas.{some_fall}
use Rattle.all_touched.proofs.columns.RisingEdge.fall.Goals as goal

pub returns-clause-some : goal.returns-clause-some
returns-clause-some c =
    let some : pos 0 <ℤ c.fall.result = some_fall c.args.self.now.high.y c.args.self.now.low.y _ c.fall.result c.args.frame.now.cell c.requires.some_size c.args.self.now.up
    (omega (arith, ints, c.units_of.ensures.value, c.units_of.ensures.bound, c.past.ensures.value, c.past.ensures.bound)) c.fall.ensures.value in
    omega (arith, ints, some, c.fall.ensures.bound)
