use Rattle.std.proofs.Common.{arith, List, ℕ, subst, sym, ap, ◌∙◌, take}
use Rattle.std.specs.Str.Parse.{AllDigits}
use Rattle.fixed_coord.proofs.TextLemmas.{front_AllDigits}
use Rattle.std.proofs.lemmas.List.Sums.{prefix_len-le-length}
use Rattle.std.specs.Char.{is_ascii_digit}
use Rattle.fixed_coord.proofs.parts.digits.Goals as goal

pub split_at-requires : goal.split_at-requires
split_at-requires c = omega (arith, c.digit_count.ensures, prefix_len-le-length is_ascii_digit c.args.text.now)

pub returns-clause-digits : goal.returns-clause-digits
returns-clause-digits c = subst (λ (l : List ℕ). AllDigits 10 l) (sym (c.split_at.ensures.front ∙ ap (λ k. take k c.args.text.now) c.digit_count.ensures)) (front_AllDigits c.args.text.now)
