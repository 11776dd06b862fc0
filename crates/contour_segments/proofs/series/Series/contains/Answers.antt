use Rattle.std.proofs.Common.{◌≡◌, ◌+ℤ◌, pos, arith}
use Rattle.std.proofs.lemmas.Int.{ints}
use Rattle.std.proofs.lemmas.Bool.Decides.{nat_tests}
use Rattle.contour_segments.proofs.SeriesLemmas.{at_divides, divides_at}
use Rattle.contour_segments.proofs.series.Series.contains.Goals as goal

pub returns-then-past-self : goal.returns-then-past-self
returns-then-past-self c =
    let is : c.args.self.first +ℤ pos c.distance-past.result ≡ c.args.level = omega (arith, ints, c.distance-past.ensures) in (
      λ test. divides_at c.args.self c.args.level c.distance-past.result c.requires.some is (grind (arith, nat_tests)) c.if-past-self.true,
      λ at.
          let divides = (at_divides c.args.self c.args.level c.distance-past.result c.requires.some is at).0 in
          grind (arith, nat_tests),
    )

pub returns-else-past-self : goal.returns-else-past-self
returns-else-past-self c =
    let is : c.args.self.first +ℤ pos c.distance-past.result ≡ c.args.level = omega (arith, ints, c.distance-past.ensures) in (
      λ test. absurd (grind (arith, nat_tests, c.if-past-self.false)),
      λ at.
          let divides = (at_divides c.args.self c.args.level c.distance-past.result c.requires.some is at).1 in
          absurd (omega (arith, divides, c.if-past-self.false)),
    )
