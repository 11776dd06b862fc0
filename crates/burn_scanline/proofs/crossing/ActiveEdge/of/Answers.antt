use Rattle.std.proofs.Common.{◌<ℤ◌, ◌≤ℤ◌, arith}
use Rattle.std.proofs.lemmas.Int.{ints}
use Rattle.burn_scanline.proofs.ColumnLemmas.{between_lower, between_upper, counts_lower, counts_upper, taken_from}
use Rattle.burn_scanline.proofs.crossing.ActiveEdge.of.Goals as goal

pub returns-then-lt : goal.returns-then-lt
returns-then-lt c =
    let less : c.args.edge.start.y <ℤ c.args.edge.end.y = grind (arith, ints, c.lt.ensures, c.if-lt.true) in
    taken_from c.args.frame.now c.args.edge c.args.edge.start c.args.edge.end c.up.result c.requires.spanned (λ p. counts_lower p c.args.edge.start c.args.edge.end less) (λ p. between_lower p c.args.edge.start c.args.edge.end less) c.up.ensures.low c.up.ensures.high c.up.ensures.last c.up.ensures.upright

pub returns-else-lt : goal.returns-else-lt
returns-else-lt c =
    let less : c.args.edge.end.y ≤ℤ c.args.edge.start.y = grind (arith, ints, c.lt.ensures, c.if-lt.false) in
    taken_from c.args.frame.now c.args.edge c.args.edge.end c.args.edge.start c.up-else-lt.result c.requires.spanned (λ p. counts_upper p c.args.edge.start c.args.edge.end less) (λ p. between_upper p c.args.edge.start c.args.edge.end less) c.up-else-lt.ensures.low c.up-else-lt.ensures.high c.up-else-lt.ensures.last c.up-else-lt.ensures.upright
