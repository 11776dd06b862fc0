use Rattle.std.proofs.Common.{◌≡◌, ◌+◌, ◌∷◌, [], ◌++◌, List, ℤ, Vec, Global, take, sym, ap, ◌∙◌, subst, arith}
use Rattle.std.specs.Prelude.{IsTrue}
use Rattle.std.specs.List.{dedup}
use Rattle.std.specs.Ordering.{int_eq}
use Rattle.std.proofs.lemmas.List.{take_more}
use Rattle.std.proofs.lemmas.List.Filters.{dedup_is}
use Rattle.std.proofs.lemmas.Grind.{common_steps}
use Rattle.contour_segments.specs.Inner.Series.{AreOthers, IsAt}
use Rattle.contour_segments.proofs.LevelLemmas.{AreKept, kept_more, kept_same, others_from}
use Rattle.contour_segments.proofs.level.others.Goals as goal
use Rattle.contour_segments.proofs.level.others.Goals.{then-not-contains+in_ok-push, else-not-contains}

pub loop-level-preserved : goal.loop-level-preserved
loop-level-preserved c =
    let i = c.loop-level.level-index in
    let fixed = c.args.fixed.now in
    let level = c.level-item.result in
    let more : take (i + 1) fixed ≡ take i fixed ++ level ∷ [] = take_more fixed i level c.loop-level-test.true ∙ ap (λ (z : ℤ). take i fixed ++ z ∷ []) (sym c.level-item.is) in
    subst (λ (passed : List ℤ). AreKept passed c.args.series c.if-not-contains.others.items) (sym more) (elim c.if-not-contains.branch [
      | then-not-contains+in_ok-push w ↦
          let new : ¬ IsAt c.args.series level = λ at.
          let held : IsTrue c.contains.result = c.contains.ensures.1 at in
          grind (arith, held, w.if-not-contains.true) in
          let pushed : c.if-not-contains.others.items ≡ c.loop-level.others.items ++ level ∷ [] = ap (λ (v : Vec ℤ Global). v.items) w.others-is ∙ w.in_ok-push.ensures.items in
          subst (λ (kept : List ℤ). AreKept (take i fixed ++ level ∷ []) c.args.series kept) (sym pushed) (kept_more (take i fixed) c.args.series c.loop-level.others.items level c.loop-level.invariant new)
      | else-not-contains w ↦
          let at : IsAt c.args.series level = c.contains.ensures.0 (grind (arith, w.if-not-contains.false)) in
          let same : c.if-not-contains.others.items ≡ c.loop-level.others.items = ap (λ (v : Vec ℤ Global). v.items) w.others-is in
          subst (λ (kept : List ℤ). AreKept (take i fixed ++ level ∷ []) c.args.series kept) (sym same) (kept_same (take i fixed) c.args.series c.loop-level.others.items level c.loop-level.invariant at)
    ])

pub returns : goal.returns
returns c =
    let deduped : c.dedup.new.self.items ≡ dedup int_eq c.sort.new.self.items = dedup_is int_eq c.sort.new.self.items c.dedup.new.self.items c.dedup.ensures.filtered in
    let whole : take c.loop-level.level-index c.args.fixed.now ≡ c.args.fixed.now = grind (arith, common_steps) in
    let kept : AreKept c.args.fixed.now c.args.series c.loop-level.others.items = subst (λ (passed : List ℤ). AreKept passed c.args.series c.loop-level.others.items) whole c.loop-level.invariant in
    subst (λ (xs : List ℤ). AreOthers c.args.fixed.now c.args.series xs) (sym deduped) (others_from c.args.fixed.now c.args.series c.loop-level.others.items c.sort.new.self.items kept c.in_ok-sort.ensures.permutation c.in_ok-sort.ensures.sorted)
