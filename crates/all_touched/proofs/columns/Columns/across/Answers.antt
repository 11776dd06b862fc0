use Rattle.std.proofs.Common.{arith}
use Rattle.std.proofs.lemmas.Int.{ints}
use Rattle.all_touched.proofs.ColumnLemmas.{across_left, across_right}
use Rattle.all_touched.proofs.columns.Columns.across.Goals as goal

pub returns-then-lt : goal.returns-then-lt
returns-then-lt c = across_right c.args.frame.now c.args.edge.now.start c.args.edge.now.end c.between.result.from c.between.result.to
    (grind (arith, ints, c.lt.ensures, c.if-lt.true)) c.between.ensures.past c.between.ensures.before

pub returns : goal.returns
returns c = across_left c.args.frame.now c.args.edge.now.start c.args.edge.now.end c.between-2.result.from c.between-2.result.to
    (grind (arith, ints, c.lt.ensures, c.if-lt.false)) c.between-2.ensures.past c.between-2.ensures.before
