use Rattle.std.proofs.Common.{arith, ◌≡◌, ◌<◌, ◌+◌, ◌-◌, ◌/◌, ◌%◌, ◌^◌, ◌++◌, List, ℕ, ap, ◌∙◌, sym, append-nil, take, length, ◌∷◌, []}
use Rattle.fixed_coord.specs.Shortest.{decimals}
use Rattle.fixed_coord.proofs.CutLemmas.{pow10_pos}
use Rattle.fixed_coord.proofs.WriteLemmas.{decimals_none, some_left, scale_down, digit_pushed, still_front}
use Rattle.fixed_coord.proofs.write.append_decimals.Goals as goal

pub digits-preserved : goal.digits-preserved
digits-preserved c =
    let some : 0 < c.digits.rest = omega arith in
    let more : 0 < c.digits.left = some_left c.digits.left c.digits.rest some c.digits.invariant.rest in
    let scale : c.digits.scale / 10 ≡ 10 ^ (c.digits.left - 1) = scale_down c.digits.left c.digits.scale more c.digits.invariant.scale in
    let left : c.digits.rest % (c.digits.scale / 10) ≡ c.digits.rest % 10 ^ (c.digits.left - 1) = ap (λ x. c.digits.rest % x) scale in
    let digit : 48 + c.digits.rest / (c.digits.scale / 10) ≡ 48 + c.digits.rest / 10 ^ (c.digits.left - 1) = ap (λ x. 48 + c.digits.rest / x) scale in
    let old : List ℕ = c.args.out.now.items in
    record {
      scale = scale;
      few = omega arith;
      rest = omega (arith, left, pow10_pos (c.digits.left - 1));
      items =
          ap (λ r. c.push.new.self.items ++ decimals (c.digits.left - 1) r) left
          ∙ digit_pushed c.digits.out.items c.push.new.self.items (old ++ decimals c.args.places c.args.rest) c.digits.left c.digits.rest (48 + c.digits.rest / (c.digits.scale / 10)) some more
          c.digits.invariant.items c.in_ok-push.ensures.items digit;
      front = ap (take (length old)) c.in_ok-push.ensures.items ∙ still_front old c.digits.out.items ((48 + c.digits.rest / (c.digits.scale / 10)) ∷ []) c.digits.invariant.front;
    }

pub returns-clause-ok : goal.returns-clause-ok
returns-clause-ok c =
    let none : c.digits.rest ≡ 0 = omega arith in
    sym (append-nil c.digits.out.items) ∙ ap (λ (l : List ℕ). c.digits.out.items ++ l) (sym (ap (decimals c.digits.left) none ∙ decimals_none c.digits.left)) ∙ c.digits.invariant.items
