use Rattle.std.proofs.Common.{arith, ◌≡◌, ◌-◌, get_or, sym, ◌∙◌, subst, List, ℕ, true, refl}
use Rattle.std.specs.Char.{is_ascii_digit, digit_value}
use Rattle.std.specs.Str.Parse.{AllDigits}
use Rattle.std.proofs.lemmas.List.{take_all}
use Rattle.std.proofs.lemmas.Bool.Decides.{nat_tests}
use Rattle.fixed_coord.proofs.TextLemmas.{value_small, digits_more, digit_passes, numeral_AllDigits, numeral_from, digit_is}
use Rattle.fixed_coord.proofs.DigitLemmas.{after_more}
use Rattle.fixed_coord.proofs.read.short_size.Goals as goal

pub returns-then-not-is_ascii_digit-clause-short : goal.returns-then-not-is_ascii_digit-clause-short
returns-then-not-is_ascii_digit-clause-short c =
    (λ h. cc, λ short. sym c.if-not-is_ascii_digit.true ∙ c.is_ascii_digit.ensures.value ∙ digit_passes c.args.digits.now c.loop-digit.digit-index (numeral_AllDigits c.args.digits.now short.all_digits) c.loop-digit-test.true)

pub overflow_mul-size : goal.overflow_mul-size
overflow_mul-size c = omega (arith, value_small c.args.digits.now c.loop-digit.digit-index 17 c.loop-digit.invariant.digits (omega arith), c.loop-digit.invariant.size)

pub overflow_add-size : goal.overflow_add-size
overflow_add-size c = omega (arith, value_small c.args.digits.now c.loop-digit.digit-index 17 c.loop-digit.invariant.digits (omega arith), c.loop-digit.invariant.size)

pub loop-digit-preserved : goal.loop-digit-preserved
loop-digit-preserved c =
    let passes : is_ascii_digit (get_or c.args.digits.now c.loop-digit.digit-index 0) ≡ true = sym c.is_ascii_digit.ensures.value ∙ c.if-not-is_ascii_digit.false in
    let known : digit_value (get_or c.args.digits.now c.loop-digit.digit-index 0) ≡ get_or c.args.digits.now c.loop-digit.digit-index 0 - 48 = digit_is (get_or c.args.digits.now c.loop-digit.digit-index 0) passes in
    record {
      digits = digits_more c.args.digits.now c.loop-digit.digit-index c.loop-digit.invariant.digits c.loop-digit-test.true passes;
      size = omega (arith, c.loop-digit.invariant.size, c.from.ensures, known, after_more 0 c.args.digits.now c.loop-digit.digit-index c.loop-digit-test.true);
    }

pub returns-clause-small : goal.returns-clause-small
returns-clause-small c = omega (arith, value_small c.args.digits.now c.loop-digit.digit-index 18 c.loop-digit.invariant.digits (omega arith), c.loop-digit.invariant.size)

pub returns-clause-short : goal.returns-clause-short
returns-clause-short c = (
  λ h. record {
    all_digits = numeral_from c.args.digits.now (subst (λ (l : List ℕ). AllDigits 10 l) (take_all c.loop-digit.digit-index c.args.digits.now c.loop-digit-test.false) c.loop-digit.invariant.digits) (grind (arith, nat_tests, c.is_empty.ensures, c.if-is_empty.false));
    few = omega arith;
  },
  λ h. refl,
)
