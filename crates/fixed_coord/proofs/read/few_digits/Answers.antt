use Rattle.std.proofs.Common.{◌<◌, ◌^◌, arith, take}
use Rattle.std.specs.Str.Parse.{digits_value}
use Rattle.fixed_coord.proofs.DigitLemmas.{after_more, digit_known, digits_take}
use Rattle.fixed_coord.proofs.TextLemmas.{value_small}
use Rattle.fixed_coord.proofs.read.few_digits.Goals as goal

pub overflow_mul-number : goal.overflow_mul-number
overflow_mul-number c =
    let digits = c.args.digits.now in
    let at = c.loop-digit.digit-index in
    let small : digits_value 10 (take at digits) < 10 ^ 10 = value_small digits at 10 (digits_take at digits c.requires.digits) (omega arith) in
    omega (arith, small, c.loop-digit.invariant)

pub overflow_sub-digit : goal.overflow_sub-digit
overflow_sub-digit c = (digit_known c.args.digits.now c.loop-digit.digit-index c.requires.digits c.loop-digit-test.true).0

pub overflow_add-number : goal.overflow_add-number
overflow_add-number c =
    let digits = c.args.digits.now in
    let at = c.loop-digit.digit-index in
    let small : digits_value 10 (take at digits) < 10 ^ 10 = value_small digits at 10 (digits_take at digits c.requires.digits) (omega arith) in
    omega (arith, small, c.loop-digit.invariant, c.from.ensures)

pub loop-digit-preserved : goal.loop-digit-preserved
loop-digit-preserved c =
    let known = digit_known c.args.digits.now c.loop-digit.digit-index c.requires.digits c.loop-digit-test.true in
    let more = after_more 0 c.args.digits.now c.loop-digit.digit-index c.loop-digit-test.true in
    omega (arith, known.0, known.1, more, c.loop-digit.invariant, c.from.ensures)
