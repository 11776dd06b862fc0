use Rattle.std.proofs.Common.{◌≡◌, ◌+◌, ℤ, List, length, sym, ap, ◌∙◌, subst, arith}
use Rattle.std.specs.List.Sorted.{IsPermutation}
use Rattle.std.proofs.lemmas.List.Sorted.{length_permutation}
use Rattle.contour_segments.specs.Levels.{AreLevels}
use Rattle.contour_segments.specs.Inner.Series.{AreOthers}
use Rattle.contour_segments.proofs.LevelLemmas.{all_levels, all_long, levels_counted, levels_sorted}
use Rattle.contour_segments.proofs.SeriesLemmas.{count_small}
use Rattle.contour_segments.proofs.level.levels.Goals as goal

pub overflow_add-count : goal.overflow_add-count
overflow_add-count c =
    let few = count_small c.spaced-series.result c.spaced-series.ensures.series in
    omega (arith, few, c.len.ensures, c.in_ok-levels.levels.small)

pub returns-then-count-gt-MOST-clause-many : goal.returns-then-count-gt-MOST-clause-many
returns-then-count-gt-MOST-clause-many c = λ count told.
    let same : c.spaced-series.result.count + c.len.result ≡ count = cc in
    let others : AreOthers c.args.spec.now.fixed c.spaced-series.result c.in_ok-levels.levels.items = subst (λ (xs : List ℤ). AreOthers xs c.spaced-series.result c.in_ok-levels.levels.items) c.as_slice.ensures c.in_ok-levels.ensures in
    let counted = levels_counted c.args.spec.now c.args.range c.spaced-series.result c.in_ok-levels.levels.items c.spaced-series.ensures.series.some c.spaced-series.ensures.levels others in
    (omega (arith, same, c.if-count-gt-MOST.true), (counted.0, counted.1, counted.2 ∙ omega (arith, same, c.len.ensures)))

pub returns-clause-levels : goal.returns-clause-levels
returns-clause-levels c =
    let others : AreOthers c.args.spec.now.fixed c.spaced-series.result c.in_ok-levels.levels.items = subst (λ (xs : List ℤ). AreOthers xs c.spaced-series.result c.in_ok-levels.levels.items) c.as_slice.ensures c.in_ok-levels.ensures in
    let pushed : c.push_all.new.levels.items ≡ all_levels c.spaced-series.result c.in_ok-levels.levels.items = c.in_ok-push_all.ensures in
    let moved : IsPermutation (all_levels c.spaced-series.result c.in_ok-levels.levels.items) c.sort.new.self.items = subst (λ (xs : List ℤ). IsPermutation xs c.sort.new.self.items) pushed c.in_ok-sort.ensures.permutation in
    subst (λ (xs : List ℤ). AreLevels c.args.spec.now c.args.range xs) (sym c.of.ensures) (levels_sorted c.args.spec.now c.args.range c.spaced-series.result c.in_ok-levels.levels.items c.sort.new.self.items c.spaced-series.ensures.series.some c.spaced-series.ensures.levels others moved c.in_ok-sort.ensures.sorted)

pub returns-clause-few : goal.returns-clause-few
returns-clause-few c =
    let pushed : c.push_all.new.levels.items ≡ all_levels c.spaced-series.result c.in_ok-levels.levels.items = c.in_ok-push_all.ensures in
    let long = length_permutation c.push_all.new.levels.items c.sort.new.self.items c.in_ok-sort.ensures.permutation in
    omega (arith, ap length c.of.ensures, long, ap length pushed, all_long c.spaced-series.result c.in_ok-levels.levels.items, c.len.ensures, c.if-count-gt-MOST.false)
