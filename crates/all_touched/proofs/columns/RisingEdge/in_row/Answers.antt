use Rattle.std.proofs.Common.{arith, ap, sym, ◌∙◌}
use Rattle.std.proofs.lemmas.Int.{ints}
use Rattle.all_touched.proofs.StretchLemmas.{beside_left, beside_right}
use Rattle.all_touched.proofs.columns.RisingEdge.in_row.Goals as goal

pub returns-then-le : goal.returns-then-le
returns-then-le c = beside_right c.args.frame.now c.args.self.now.low c.args.self.now.high c.args.row _ _ c.args.columns c.beside.result
    c.requires.frame c.requires.row c.args.self.now.up (grind (arith, ints, c.le.ensures, c.if-le.true)) c.requires.across
    (omega (arith, ints, c.height_of-top.ensures.value, c.height_of-top.ensures.bound)) (omega (arith, ints, c.height_of-bottom.ensures.value, c.height_of-bottom.ensures.bound)) c.beside.ensures

pub returns : goal.returns
returns c = beside_left c.args.frame.now c.args.self.now.low c.args.self.now.high c.args.row _ _ c.args.columns c.beside-2.result
    c.requires.frame c.requires.row c.args.self.now.up (grind (arith, ints, c.le.ensures, c.if-le.false)) c.requires.across
    (omega (arith, ints, c.height_of-top.ensures.value, c.height_of-top.ensures.bound)) (omega (arith, ints, c.height_of-bottom.ensures.value, c.height_of-bottom.ensures.bound)) c.beside-2.ensures
