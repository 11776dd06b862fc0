use Rattle.std.proofs.Common.{◌≡◌, ◌+◌, ◌++◌, ◌∷◌, [], ℕ, List, Some, inl, inr, length, length-append, sym, ap, ◌∙◌, subst, arith}
use Rattle.std.specs.Prelude.{slice_get}
use Rattle.std.proofs.lemmas.Option.{slice_get_within}
use Rattle.contour_segments.specs.declared.side.Side.{Side}
use Rattle.contour_segments.specs.declared.side.Side.TheVariants.{Top, Right, Bottom, Left}
use Rattle.contour_segments.proofs.BlockLemmas.{pushed_at}
use Rattle.contour_chain.specs.Inner.Links.{AreFollowers, StartsAt, number_of}
use Rattle.contour_chain.proofs.links.followers.Goals as goal

zero_at : (side : Side) (n : ℕ) → slice_get (0 ∷ 0 ∷ 0 ∷ 0 ∷ []) (number_of side) ≡ Some n → n ≡ 0
zero_at Top n is = sym (value is)
  where
    value : Some 0 ≡ Some n → 0 ≡ n
    value same = cc
zero_at Right n is = sym (value is)
  where
    value : Some 0 ≡ Some n → 0 ≡ n
    value same = cc
zero_at Bottom n is = sym (value is)
  where
    value : Some 0 ≡ Some n → 0 ≡ n
    value same = cc
zero_at Left n is = sym (value is)
  where
    value : Some 0 ≡ Some n → 0 ≡ n
    value same = cc

pub loop-i-init : goal.loop-i-init
loop-i-init c =
    let nothing : c.in_ok-next.next.items ≡ [] = c.in_ok-next.ensures.items in
    record {
      long = ap length nothing;
      follow = subst (λ (xs : List ℕ). AreFollowers c.args.segments.now xs) (sym nothing) (record {
        within = omega arith;
        each = λ i n s at at_s. absurd (omega (arith, slice_get_within [] i n at));
      });
      passed = λ side n at.
          let none = zero_at side n at in
          (omega (arith, none), λ j t q later at_j beyond k s less. absurd (omega (arith, none, less)));
    }

pub loop-i-preserved : goal.loop-i-preserved
loop-i-preserved c =
    let segments = c.args.segments.now in
    let old = c.loop-i.next.items in
    let new = c.push.new.self.items in
    let items : new ≡ old ++ c.follower.result ∷ [] = c.in_ok-push.ensures.items in
    let long : length new ≡ c.loop-i.i + 1 = omega (arith, ap length items, length-append old (c.follower.result ∷ []), c.loop-i.invariant.long) in
    record {
      long = long;
      follow = record {
        within = omega (arith, long, c.loop-i-test.true);
        each = λ i n s at at_s. elim (pushed_at old c.follower.result n i (ap (λ (xs : List ℕ). slice_get xs i) (sym items) ∙ at)) [
          | inl before ↦ c.loop-i.invariant.follow.each i n s before at_s
          | inr last ↦
              let here : i ≡ c.loop-i.i = last.0 ∙ c.loop-i.invariant.long in
              let starts = c.follower.ensures.starts s (ap (λ (k : ℕ). slice_get segments k) (sym here) ∙ at_s) in
              subst (λ (k : ℕ). StartsAt segments s.to k) last.1 starts
        ];
      };
      passed = c.follower.ensures.passed;
    }

pub returns-clause-all : goal.returns-clause-all
returns-clause-all c = omega (arith, c.loop-i.invariant.long, c.loop-i-test.false, c.loop-i.auto.i-end)
