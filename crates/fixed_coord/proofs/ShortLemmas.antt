-- Numbers of few digits, without an exponent.
use Rattle.std.proofs.Common.{◌≡◌, ℕ, ◌+◌, ◌-◌, ◌*◌, ◌^◌, ◌<◌, ◌≤◌, Bool, true, false, List, [], ◌∷◌, ◌++◌, length, add-zero, arith, lit<, refl, sym, ap, ◌∙◌}
use Rattle.std.specs.Str.Parse.{AllDigits, digits_value}
use Rattle.std.proofs.lemmas.Int.Digits.{digits_value-lt}
use Rattle.std.proofs.lemmas.Nat.{pow-add}
use Rattle.std.proofs.Math.Nat.{mul-le-mul, pow-le-pow_right}
use Rattle.fixed_coord.specs.Number.{Parts, fraction_of}
use Rattle.fixed_coord.specs.Round.{round_half_up}
use Rattle.fixed_coord.specs.Inner.Spelled.{rounded_units}
use Rattle.fixed_coord.proofs.CutLemmas.{pow10_pos}
use Rattle.fixed_coord.proofs.DigitLemmas.{value_append}
use Rattle.fixed_coord.proofs.RoundLemmas.{round_whole}

pub product_is : {a b c d : ℕ} → a ≡ c → b ≡ d → a * b ≡ c * d
product_is {a} {b} {c} {d} first second = ap (λ n. n * b) first ∙ ap (λ n. c * n) second

-- both sides of the point, in units
in_units : (w f a b : ℕ) → (w * a + f) * 1 * (a * b) ≡ a * (w * (a * b) + f * b)
in_units w f a b = omega arith

exact : (whole fraction : List ℕ) (places : ℕ) → length fraction ≤ places
    → round_half_up (digits_value 10 (whole ++ fraction) * 1 * 10 ^ places) (10 ^ length fraction) ≡ digits_value 10 whole * 10 ^ places + digits_value 10 fraction * 10 ^ (places - length fraction)
exact whole fraction places few =
    let zeros : ℕ = places - length fraction in
    let split : length fraction + zeros ≡ places = omega (arith, few) in
    let power : 10 ^ places ≡ 10 ^ length fraction * 10 ^ zeros = ap (λ k. 10 ^ k) (sym split) ∙ pow-add 10 (length fraction) zeros in
    let w : ℕ = digits_value 10 whole in
    let f : ℕ = digits_value 10 fraction in
    ap (λ v. round_half_up (v * 1 * 10 ^ places) (10 ^ length fraction)) (value_append whole fraction)
    ∙ ap (λ p. round_half_up ((w * 10 ^ length fraction + f) * 1 * p) (10 ^ length fraction)) power
    ∙ ap (λ n. round_half_up n (10 ^ length fraction)) (in_units w f (10 ^ length fraction) (10 ^ zeros))
    ∙ round_whole (w * (10 ^ length fraction * 10 ^ zeros) + f * 10 ^ zeros) (10 ^ length fraction) (pow10_pos (length fraction))
    ∙ ap (λ p. w * p + f * 10 ^ zeros) (sym power)

pub short_rounds : (negative : Bool) (whole fraction : List ℕ) (down : Bool) (power : List ℕ) (places : ℕ) → length power ≡ 0 → length fraction ≤ places
    → digits_value 10 whole * 10 ^ places + digits_value 10 fraction * 10 ^ (places - length fraction)
    ≡ rounded_units places (fraction_of (record { negative = negative; whole = whole; fraction = fraction; down = down; power = power }))
short_rounds negative whole fraction true [] places none few = sym (rw add-zero (exact whole fraction places few))
short_rounds negative whole fraction false [] places none few = sym (rw add-zero (exact whole fraction places few))
short_rounds negative whole fraction down (d ∷ power) places none few = absurd (omega (arith, none))

-- the whole part and what is behind it fit
pub whole_small : (digits : List ℕ) (places : ℕ) → AllDigits 10 digits → length digits ≤ 8 → places ≤ 10 → digits_value 10 digits * 10 ^ places ≤ (10 ^ 8) * 10 ^ 10
whole_small digits places all few small =
    let value : digits_value 10 digits < 10 ^ length digits = digits_value-lt 10 digits all in
    let most : 10 ^ length digits ≤ 10 ^ 8 = pow-le-pow_right (lit< tt) few in
    let le : digits_value 10 digits ≤ 10 ^ 8 = omega (arith, value, most) in
    let scale : 10 ^ places ≤ 10 ^ 10 = pow-le-pow_right (lit< tt) small in
    mul-le-mul le scale

pub behind_small : (digits : List ℕ) (places : ℕ) → AllDigits 10 digits → length digits ≤ places → places ≤ 10 → digits_value 10 digits * 10 ^ (places - length digits) ≤ 10 ^ 10
behind_small digits places all few small =
    let value : digits_value 10 digits < 10 ^ length digits = digits_value-lt 10 digits all in
    let le : digits_value 10 digits ≤ 10 ^ length digits = omega (arith, value) in
    let same : 10 ^ (places - length digits) ≤ 10 ^ (places - length digits) = omega arith in
    let split : length digits + (places - length digits) ≡ places = omega (arith, few) in
    let power : 10 ^ places ≡ 10 ^ length digits * 10 ^ (places - length digits) = ap (λ k. 10 ^ k) (sym split) ∙ pow-add 10 (length digits) (places - length digits) in
    let product : digits_value 10 digits * 10 ^ (places - length digits) ≤ 10 ^ length digits * 10 ^ (places - length digits) = mul-le-mul le same in
    let scale : 10 ^ places ≤ 10 ^ 10 = pow-le-pow_right (lit< tt) small in
    omega (arith, product, power, scale)
