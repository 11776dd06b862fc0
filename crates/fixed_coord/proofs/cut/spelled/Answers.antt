use Rattle.std.proofs.Common.{arith}
use Rattle.fixed_coord.proofs.DigitLemmas.{digit_known, after_more}
use Rattle.fixed_coord.proofs.cut.spelled.Goals as goal

pub overflow_sub-digit : goal.overflow_sub-digit
overflow_sub-digit c = (digit_known c.args.digits.now c.loop-digit.digit-index c.requires.digits c.loop-digit-test.true).0

pub loop-digit-preserved : goal.loop-digit-preserved
loop-digit-preserved c =
    let known = digit_known c.args.digits.now c.loop-digit.digit-index c.requires.digits c.loop-digit-test.true in
    let more = after_more c.args.before c.args.digits.now c.loop-digit.digit-index c.loop-digit-test.true in
    omega (arith, known.0, known.1, more, c.loop-digit.invariant, c.min-size.ensures, c.from.ensures)
