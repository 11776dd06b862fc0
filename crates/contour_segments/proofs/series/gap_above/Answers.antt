use Rattle.std.proofs.Common.{◌≡◌, ◌+ℤ◌, pos, arith}
use Rattle.std.proofs.lemmas.Int.{ints}
use Rattle.contour_segments.proofs.SeriesLemmas.{gap_off, gap_on}
use Rattle.contour_segments.proofs.series.gap_above.Goals as goal

pub returns-then-offset-low : goal.returns-then-offset-low
returns-then-offset-low c =
    let is : c.args.offset +ℤ pos c.distance.result ≡ c.args.low = omega (arith, ints, c.distance.ensures) in
    gap_on c.args.interval c.args.offset c.args.low c.distance.result c.requires is

pub returns-else-offset-low : goal.returns-else-offset-low
returns-else-offset-low c =
    let is : c.args.low +ℤ pos c.distance-else-offset-low.result ≡ c.args.offset = omega (arith, ints, c.distance-else-offset-low.ensures) in
    gap_off c.args.interval c.args.offset c.args.low c.distance-else-offset-low.result c.requires (omega (arith, ints, is, c.if-offset-low.false)) is
