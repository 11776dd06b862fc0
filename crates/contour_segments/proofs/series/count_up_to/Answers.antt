use Rattle.std.proofs.Common.{◌≡◌, ◌+ℤ◌, ◌<ℤ◌, pos, arith}
use Rattle.std.proofs.lemmas.Int.{ints}
use Rattle.contour_segments.proofs.SeriesLemmas.{counts_none, counts_some}
use Rattle.contour_segments.proofs.series.count_up_to.Goals as goal

pub returns-then-first-high : goal.returns-then-first-high
returns-then-first-high c =
    let above : c.args.high <ℤ c.args.first = omega (arith, ints, c.if-first-high.true) in
    counts_none c.args.first c.args.step c.args.high above

pub returns-else-first-high : goal.returns-else-first-high
returns-else-first-high c =
    let is : c.args.first +ℤ pos c.distance.result ≡ c.args.high = omega (arith, ints, c.distance.ensures) in
    counts_some c.args.first c.args.step c.args.high c.distance.result c.requires.some is
