use Rattle.std.proofs.Common.{◌≡◌, ℕ, Some, inl, inr, sym, ap, ◌∙◌, subst, arith}
use Rattle.std.specs.Prelude.{slice_get}
use Rattle.std.proofs.lemmas.Bool.{cases_lt}
use Rattle.std.proofs.lemmas.Option.{slice_get_within}
use Rattle.cell_base.specs.Order.{IsBefore}
use Rattle.contour_segments.specs.declared.segment.Segment.{Segment}
use Rattle.contour_chain.specs.Inner.Links.{Passes, cell_of}
use Rattle.contour_chain.proofs.links.first_from.Goals as goal

pub passing-preserved : goal.passing-preserved
passing-preserved c =
    let segments = c.args.segments.now in
    let passed : Passes segments c.args.place c.passing.at = c.passes.ensures.0 (grind (arith, c.passing-test.true)) in
    record {
      within = omega (arith, slice_get_within segments c.passing.at passed.0 passed.1);
      before = λ k s less at. elim (cases_lt k c.passing.at) [
        | inl earlier ↦ c.passing.invariant.before k s earlier at
        | inr not_earlier ↦
            let same : k ≡ c.passing.at = omega (arith, less, not_earlier) in
            let both : Some passed.0 ≡ Some s = sym passed.1 ∙ ap (λ (j : ℕ). slice_get segments j) (sym same) ∙ at in
            let is : passed.0 ≡ s = cc in
            subst (λ (x : Segment). IsBefore (cell_of x) c.args.place) is passed.2
      ];
    }
