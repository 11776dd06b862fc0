use Rattle.std.proofs.Common.{arith, ◌≡◌, ◌≢◌, ◌-◌, get_or, sym, ◌∙◌, subst, List, ℕ, true, take, ap, Some}
use Rattle.std.proofs.lemmas.Bool.{false≢true}
use Rattle.std.specs.Char.{is_ascii_digit, digit_value}
use Rattle.std.specs.Str.Parse.{AllDigits, digits_value}
use Rattle.std.proofs.lemmas.List.{take_all}
use Rattle.std.proofs.lemmas.Bool.Decides.{nat_tests}
use Rattle.fixed_coord.specs.Number.{is_digits}
use Rattle.fixed_coord.proofs.TextLemmas.{value_small, digits_more, digit_passes, numeral_AllDigits, numeral_from, digit_is}
use Rattle.fixed_coord.proofs.DigitLemmas.{after_more}
use Rattle.tool_words.specs.Value.{count_of}
use Rattle.tool_words.proofs.CountLemmas.{is_count, no_digits, too_great}
use Rattle.tool_words.proofs.value.count.Goals as goal

pub returns-then-not-is_ascii_digit : goal.returns-then-not-is_ascii_digit
returns-then-not-is_ascii_digit c =
    let word = c.args.word.now in
    let digits = c.as_bytes-digits.result.now in
    let other : is_digits digits ≢ true = λ all. false≢true (sym c.if-not-is_ascii_digit.true ∙ c.is_ascii_digit.ensures.value ∙ digit_passes digits c.loop-digit.digit-index (numeral_AllDigits digits all) c.loop-digit-test.true) in
    sym (no_digits digits other) ∙ ap count_of c.as_bytes-digits.ensures.value

pub overflow_mul-number : goal.overflow_mul-number
overflow_mul-number c = omega (arith, value_small c.as_bytes-digits.result.now c.loop-digit.digit-index 9 c.loop-digit.invariant.digits (omega (arith, c.if-digits-gt-MOST_DIGITS.false, c.loop-digit-test.true)), c.loop-digit.invariant.number)

pub overflow_add-number : goal.overflow_add-number
overflow_add-number c = omega (arith, value_small c.as_bytes-digits.result.now c.loop-digit.digit-index 9 c.loop-digit.invariant.digits (omega (arith, c.if-digits-gt-MOST_DIGITS.false, c.loop-digit-test.true)), c.loop-digit.invariant.number)

pub loop-digit-preserved : goal.loop-digit-preserved
loop-digit-preserved c =
    let digits = c.as_bytes-digits.result.now in
    let passes : is_ascii_digit (get_or digits c.loop-digit.digit-index 0) ≡ true = sym c.is_ascii_digit.ensures.value ∙ c.if-not-is_ascii_digit.false in
    let known : digit_value (get_or digits c.loop-digit.digit-index 0) ≡ get_or digits c.loop-digit.digit-index 0 - 48 = digit_is (get_or digits c.loop-digit.digit-index 0) passes in
    record {
      digits = digits_more digits c.loop-digit.digit-index c.loop-digit.invariant.digits c.loop-digit-test.true passes;
      number = omega (arith, c.loop-digit.invariant.number, c.from.ensures, known, after_more 0 digits c.loop-digit.digit-index c.loop-digit-test.true);
    }

pub returns-then-number-gt-MOST_COUNT : goal.returns-then-number-gt-MOST_COUNT
returns-then-number-gt-MOST_COUNT c =
    let digits = c.as_bytes-digits.result.now in
    let whole : take c.loop-digit.digit-index digits ≡ digits = take_all c.loop-digit.digit-index digits c.loop-digit-test.false in
    let all : is_digits digits ≡ true = numeral_from digits (subst (λ (l : List ℕ). AllDigits 10 l) whole c.loop-digit.invariant.digits) (grind (arith, nat_tests, c.is_empty.ensures, c.if-is_empty.false)) in
    let number : c.loop-digit.number ≡ digits_value 10 digits = c.loop-digit.invariant.number ∙ ap (digits_value 10) whole in
    sym (too_great digits all c.if-digits-gt-MOST_DIGITS.false (omega (arith, number, c.if-number-gt-MOST_COUNT.true))) ∙ ap count_of c.as_bytes-digits.ensures.value

pub returns : goal.returns
returns c =
    let digits = c.as_bytes-digits.result.now in
    let whole : take c.loop-digit.digit-index digits ≡ digits = take_all c.loop-digit.digit-index digits c.loop-digit-test.false in
    let all : is_digits digits ≡ true = numeral_from digits (subst (λ (l : List ℕ). AllDigits 10 l) whole c.loop-digit.invariant.digits) (grind (arith, nat_tests, c.is_empty.ensures, c.if-is_empty.false)) in
    let number : c.loop-digit.number ≡ digits_value 10 digits = c.loop-digit.invariant.number ∙ ap (digits_value 10) whole in
    ap Some number ∙ sym (is_count digits all c.if-digits-gt-MOST_DIGITS.false (omega (arith, number, c.if-number-gt-MOST_COUNT.false))) ∙ ap count_of c.as_bytes-digits.ensures.value
