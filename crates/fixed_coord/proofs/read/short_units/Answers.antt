use Rattle.std.proofs.Common.{◌≡◌, ◌*◌, ◌^◌, ◌+◌, length, arith, ap, ◌∙◌}
use Rattle.std.specs.Str.Parse.{digits_value}
use Rattle.std.proofs.lemmas.Bool.Decides.{nat_tests}
use Rattle.fixed_coord.proofs.ShortLemmas.{behind_small, product_is, short_rounds, whole_small}
use Rattle.fixed_coord.proofs.read.short_units.Goals as goal

pub overflow_mul-whole : goal.overflow_mul-whole
overflow_mul-whole c =
    let small = whole_small c.args.number.whole.now c.args.places c.requires.digits.before_point c.if-number-gt8.false c.requires.places in
    omega (arith, product_is c.few_digits.ensures c.pow.ensures, small)

pub overflow_mul-behind : goal.overflow_mul-behind
overflow_mul-behind c =
    let small = behind_small c.args.number.fraction.now c.args.places c.requires.digits.behind_point c.if-decimals-places.false c.requires.places in
    omega (arith, product_is c.few_digits-2.ensures c.pow-2.ensures, small)

pub overflow_add-result : goal.overflow_add-result
overflow_add-result c =
    let number = c.args.number in
    let front = whole_small number.whole.now c.args.places c.requires.digits.before_point c.if-number-gt8.false c.requires.places in
    let behind = behind_small number.fraction.now c.args.places c.requires.digits.behind_point c.if-decimals-places.false c.requires.places in
    omega (arith, product_is c.few_digits.ensures c.pow.ensures, product_is c.few_digits-2.ensures c.pow-2.ensures, front, behind)

pub returns : goal.returns
returns c =
    let number = c.args.number in
    let none : length number.power.now ≡ 0 = grind (arith, nat_tests) in
    let front = product_is c.few_digits.ensures c.pow.ensures in
    let behind = product_is c.few_digits-2.ensures c.pow-2.ensures in
    ap (λ n. n + c.few_digits-2.result * c.pow-2.result) front ∙ ap (λ n. digits_value 10 number.whole.now * 10 ^ c.args.places + n) behind
    ∙ short_rounds number.negative number.whole.now number.fraction.now number.down number.power.now c.args.places none c.if-decimals-places.false
