use Rattle.std.proofs.Common.{arith, ◌≡◌, ◌-◌, ◌++◌, List, ℕ, ap, ◌∙◌, sym, min, take, drop, length, subst, length-append}
use Rattle.std.specs.Str.Parse.{AllDigits, digits_value}
use Rattle.fixed_coord.specs.Inner.Cut.{cap}
use Rattle.fixed_coord.proofs.DigitLemmas.{digits_take, digits_drop, take_both, drop_both}
use Rattle.fixed_coord.proofs.CutLemmas.{both_spelled, zeros_behind}
use Rattle.fixed_coord.proofs.cut.cut_digits.Goals as goal

pub spelled-requires-clause-digits : goal.spelled-requires-clause-digits
spelled-requires-clause-digits c = subst (λ (l : List ℕ). AllDigits 10 l) (sym c.split_at.ensures.front) (digits_take _ _ c.requires.whole)

pub spelled-front-requires-clause-digits : goal.spelled-front-requires-clause-digits
spelled-front-requires-clause-digits c = subst (λ (l : List ℕ). AllDigits 10 l) (sym c.split_at-2.ensures.front) (digits_take _ _ c.requires.fraction)

pub spelled-requires-2-clause-digits : goal.spelled-requires-2-clause-digits
spelled-requires-2-clause-digits c = subst (λ (l : List ℕ). AllDigits 10 l) (sym c.split_at.ensures.back) (digits_drop _ _ c.requires.whole)

pub spelled-requires-3-clause-digits : goal.spelled-requires-3-clause-digits
spelled-requires-3-clause-digits c = subst (λ (l : List ℕ). AllDigits 10 l) (sym c.split_at-2.ensures.back) (digits_drop _ _ c.requires.fraction)

pub returns : goal.returns
returns c =
    let w : List ℕ = c.args.whole.now in
    let f : List ℕ = c.args.fraction.now in
    let n : ℕ = c.args.count in
    let m : c.min.result ≡ min n (length w) = omega arith in
    let m2 : c.min-2.result ≡ min (n - length w) (length f) = omega arith in
    let zeros : c.min-zeros.result ≡ min (n - length (w ++ f)) 33 = omega (arith, length-append w f) in
    let a : c.split_at.result.0.now ≡ take (min n (length w)) w = c.split_at.ensures.front ∙ ap (λ k. take k w) m in
    let b : c.split_at-2.result.0.now ≡ take (min (n - length w) (length f)) f = c.split_at-2.ensures.front ∙ ap (λ k. take k f) m2 in
    let first : c.split_at.result.0.now ++ c.split_at-2.result.0.now ≡ take n (w ++ f) =
    ap (λ (l : List ℕ). l ++ c.split_at-2.result.0.now) a ∙ ap (λ (l : List ℕ). take (min n (length w)) w ++ l) b ∙ sym (take_both n w f) in
    let x : c.split_at.result.1.now ≡ drop (min n (length w)) w = c.split_at.ensures.back ∙ ap (λ k. drop k w) m in
    let y : c.split_at-2.result.1.now ≡ drop (min (n - length w) (length f)) f = c.split_at-2.ensures.back ∙ ap (λ k. drop k f) m2 in
    let last : c.split_at.result.1.now ++ c.split_at-2.result.1.now ≡ drop n (w ++ f) =
    ap (λ (l : List ℕ). l ++ c.split_at-2.result.1.now) x ∙ ap (λ (l : List ℕ). drop (min n (length w)) w ++ l) y ∙ sym (drop_both n w f) in
    let spelled = both_spelled c.split_at.result.0.now c.split_at-2.result.0.now c.spelled.result c.spelled-front.result cap (omega arith) c.spelled.ensures c.spelled-front.ensures in
    record {
      in_front =
          zeros_behind c.with_zeros.result c.spelled-front.result c.min-zeros.result (digits_value 10 (take n (w ++ f))) (n - length (w ++ f)) cap (omega arith) (omega arith) c.with_zeros.ensures
          (spelled ∙ ap (λ (l : List ℕ). min (digits_value 10 l) cap) first) zeros;
      left =
          both_spelled c.split_at.result.1.now c.split_at-2.result.1.now c.spelled-2.result c.spelled-3.result cap (omega arith) c.spelled-2.ensures c.spelled-3.ensures
          ∙ ap (λ (l : List ℕ). min (digits_value 10 l) cap) last;
    }
