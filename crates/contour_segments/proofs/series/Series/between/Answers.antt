use Rattle.std.proofs.Common.{◌≡◌, ◌+ℤ◌, ◌≤ℤ◌, ◌^◌, pos, subst, to_z, of_z, w64, arith}
use Rattle.std.proofs.lemmas.Int.{ints}
use Rattle.contour_segments.specs.Inner.Series.{CountsUpTo, IsGap}
use Rattle.contour_segments.specs.declared.series.Series.{Series}
use Rattle.contour_segments.proofs.SeriesLemmas.{spaced_both}
use Rattle.contour_segments.proofs.series.Series.between.Goals as goal

pub returns-clause-series : goal.returns-clause-series
returns-clause-series c =
    let high : to_z w64 (of_z w64 c.units-5.result) ≤ℤ pos (10 ^ 18) = omega (arith, ints) in
    record {
      some = omega (arith, ints, c.distance-step.ensures, c.requires.positive);
      small = omega (arith, ints, c.distance-step.ensures, c.units.ensures);
      low = omega (arith, ints, c.raised-first.ensures, c.units-4.ensures);
      high = omega (arith, ints, c.raised-first.ensures, c.units-4.ensures, c.gap_above-gap.ensures.least, c.distance-step.ensures, c.units.ensures);
      last = λ k few.
          let within = (c.count_up_to-count.ensures k).0 few in
          omega (arith, ints, within, high);
    }

pub returns-clause-levels : goal.returns-clause-levels
returns-clause-levels c =
    let series : Series = record { first = to_z w64 (of_z w64 c.raised-first.result); step = c.distance-step.result; count = c.count_up_to-count.result } in
    let step : pos c.distance-step.result ≡ c.args.interval = omega (arith, ints, c.distance-step.ensures, c.units.ensures) in
    let low : to_z w64 (of_z w64 c.units-2.result) ≡ c.args.low = omega (arith, ints, c.units-2.ensures) in
    let offset : to_z w64 (of_z w64 c.units-3.result) ≡ c.args.offset = omega (arith, ints, c.units-3.ensures) in
    let high : to_z w64 (of_z w64 c.units-5.result) ≡ c.args.high = omega (arith, ints, c.units-5.ensures) in
    let first : series.first ≡ c.args.low +ℤ pos c.gap_above-gap.result = omega (arith, ints, c.raised-first.ensures, c.units-4.ensures) in
    let gap : IsGap series.step c.args.offset c.args.low c.gap_above-gap.result = subst (λ z. IsGap series.step c.args.offset z c.gap_above-gap.result) low (subst (λ z. IsGap series.step z (to_z w64 (of_z w64 c.units-2.result)) c.gap_above-gap.result) offset c.gap_above-gap.ensures) in
    let counts : CountsUpTo series.first series.step c.args.high series.count = subst (λ z. CountsUpTo series.first series.step z series.count) high c.count_up_to-count.ensures in
    spaced_both c.args.interval c.args.offset c.args.low c.args.high c.gap_above-gap.result series step gap first counts
