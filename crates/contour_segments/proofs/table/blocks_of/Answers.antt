use Rattle.std.proofs.Common.{◌≡◌, ◌+◌, ◌*◌, ◌++◌, ◌∷◌, [], inl, inr, ℕ, List, length, length-append, min, sym, ap, ◌∙◌, subst, arith}
use Rattle.std.specs.Prelude.{slice_get}
use Rattle.contour_segments.specs.Inner.Blocks.{Covers}
use Rattle.contour_segments.specs.declared.span.Span.{Span}
use Rattle.contour_segments.proofs.BlockLemmas.{covers_end, pushed_at}
use Rattle.contour_segments.proofs.table.blocks_of.Goals as goal

pub loop-block-preserved : goal.loop-block-preserved
loop-block-preserved c =
    let cells = c.args.lattice.now.cells.now in
    let valid = c.args.lattice.now.valid.now in
    let old = c.loop-block.spans.items in
    let new = c.push.new.self.items in
    let items : new ≡ old ++ c.span.result ∷ [] = c.in_ok-push.ensures.items in
    record {
      long = omega (arith, ap length items, length-append old (c.span.result ∷ []), c.loop-block.invariant.long);
      each = λ i span at. elim (pushed_at old c.span.result span i (ap (λ (xs : List Span). slice_get xs i) (sym items) ∙ at)) [
        | inl before ↦ c.loop-block.invariant.each i span before
        | inr last ↦
            let here : i ≡ c.loop-block.block = omega (arith, last.0, c.loop-block.invariant.long) in
            let covers : Covers cells valid c.span.result (c.loop-block.block * 64) (min c.count-count.result (c.loop-block.block * 64 + 64)) = subst (λ (n : ℕ). Covers cells valid c.span.result (c.loop-block.block * 64) n) c.min.ensures c.span.ensures in
            let end : c.loop-block.block * 64 + 64 ≡ (c.loop-block.block + 1) * 64 = omega arith in
            let whole : Covers cells valid c.span.result (c.loop-block.block * 64) ((c.loop-block.block + 1) * 64) = subst (λ (n : ℕ). Covers cells valid c.span.result (c.loop-block.block * 64) n) end (covers_end cells valid c.span.result (c.loop-block.block * 64) c.count-count.result (c.loop-block.block * 64 + 64) c.count-count.ensures.value covers) in
            subst (λ (s : Span). Covers cells valid s (i * 64) ((i + 1) * 64)) last.1 (subst (λ (n : ℕ). Covers cells valid c.span.result (n * 64) ((n + 1) * 64)) (sym here) whole)
      ];
    }

pub returns : goal.returns
returns c = record {
  each = c.loop-block.invariant.each;
  some = λ i less. omega (arith, less, c.loop-block.invariant.long, c.loop-block.auto.block-end, c.div_ceil-block-end.ensures, c.count-count.ensures.value);
  all = omega (arith, c.loop-block.invariant.long, c.loop-block-test.false, c.div_ceil-block-end.ensures, c.count-count.ensures.value);
}
