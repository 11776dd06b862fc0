use Rattle.std.proofs.Common.{arith, ◌≡◌, ◌-ℤ◌, pos, true, false, sym, ◌∙◌, ap, Ok, refl, to_z, of_z, w64}
use Rattle.std.proofs.lemmas.Int.{ints}
use Rattle.fixed_coord.proofs.PlainLemmas.{short_whole_is}
use Rattle.fixed_coord.proofs.read.short_whole.Goals as goal

pub returns-then-negative-clause-value : goal.returns-then-negative-clause-value
returns-then-negative-clause-value c =
    let n = c.in_ok-size.field-0 in
    let same : pos 0 -ℤ pos n ≡ to_z w64 (of_z w64 (pos 0 -ℤ to_z w64 n)) = omega (arith, ints, c.in_ok-size.ensures.small) in
    short_whole_is c.args.text.now c.sign-negative.result.1.now true n (sym c.if-negative.true ∙ c.sign-negative.ensures.minus) c.sign-negative.ensures.rest c.in_ok-size.ensures.value
    c.in_ok-size.ensures.small (c.in_ok-size.ensures.short.0 refl)
    ∙ ap Ok same

pub returns-else-negative-clause-value : goal.returns-else-negative-clause-value
returns-else-negative-clause-value c =
    let n = c.in_ok-size.field-0 in
    let same : pos n ≡ to_z w64 n = omega (arith, ints, c.in_ok-size.ensures.small) in
    short_whole_is c.args.text.now c.sign-negative.result.1.now false n (sym c.if-negative.false ∙ c.sign-negative.ensures.minus) c.sign-negative.ensures.rest c.in_ok-size.ensures.value
    c.in_ok-size.ensures.small (c.in_ok-size.ensures.short.0 refl)
    ∙ ap Ok same
