use Rattle.std.proofs.Common.{sym, ◌∙◌}
use Rattle.fixed_coord.proofs.TextLemmas.{numeral_AllDigits}
use Rattle.fixed_coord.proofs.parts.exponent.Goals as goal

pub returns-then-is_numeral-clause-digits : goal.returns-then-is_numeral-clause-digits
returns-then-is_numeral-clause-digits c = numeral_AllDigits c.sign-down.result.1.now (sym c.is_numeral.ensures ∙ c.if-is_numeral.true)
