use Rattle.std.proofs.Common.{◌≡◌, ◌-◌, ◌*◌, ◌++◌, ◌∷◌, [], inl, inr, List, length, length-append, sym, ap, ◌∙◌, subst, arith}
use Rattle.std.specs.Prelude.{slice_get}
use Rattle.std.proofs.lemmas.Option.{slice_get_within}
use Rattle.contour_segments.specs.Inner.Blocks.{IsWider}
use Rattle.contour_segments.specs.declared.span.Span.{Span}
use Rattle.contour_segments.proofs.BlockLemmas.{part_at, pushed_at}
use Rattle.contour_segments.proofs.table.groups_of.Goals as goal

pub loop-group-preserved : goal.loop-group-preserved
loop-group-preserved c =
    let old = c.loop-group.groups.items in
    let new = c.push.new.self.items in
    let items : new ≡ old ++ c.over_all.result ∷ [] = c.in_ok-push.ensures.items in
    record {
      long = omega (arith, ap length items, length-append old (c.over_all.result ∷ []), c.loop-group.invariant.long);
      each = λ g i group block at_group at_block low high. elim (pushed_at old c.over_all.result group g (ap (λ (xs : List Span). slice_get xs g) (sym items) ∙ at_group)) [
        | inl before ↦ c.loop-group.invariant.each g i group block before at_block low high
        | inr last ↦
            let here : g ≡ c.loop-group.group = omega (arith, last.0, c.loop-group.invariant.long) in
            let from = c.loop-group.group * 64 in
            let within = slice_get_within c.args.blocks.now i block at_block in
            let n = c.min.result - from in
            let part = part_at c.args.blocks.now from n i block (omega (arith, low, here)) (omega (arith, high, here, within, c.min.ensures)) at_block in
            subst (λ (s : Span). IsWider block s) last.1 (c.over_all.ensures (i - from) block part)
      ];
    }

pub returns : goal.returns
returns c = record {
  each = c.loop-group.invariant.each;
  some = λ g less. omega (arith, less, c.loop-group.invariant.long, c.loop-group.auto.group-end, c.div_ceil-group-end.ensures);
  all = omega (arith, c.loop-group.invariant.long, c.loop-group-test.false, c.div_ceil-group-end.ensures);
}
