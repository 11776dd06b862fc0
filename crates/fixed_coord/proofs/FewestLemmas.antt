-- No plain text of the same value is shorter than the shortest text.
use Rattle.std.proofs.Common.{◌≡◌, ℕ, suc, zero, ◌+◌, ◌-◌, ◌*◌, ◌/◌, ◌%◌, ◌^◌, ◌<◌, ◌≤◌, List, [], ◌∷◌, length, refl, arith, sym, ◌∙◌, ap, inl, inr, length-append, Bool, if◌then◌else◌}
use Rattle.std.specs.Fmt.{decimal}
use Rattle.std.specs.Str.Parse.{digits_value}
use Rattle.std.proofs.lemmas.Fmt.{length-decimal-le_wide}
use Rattle.std.proofs.lemmas.Int.Digits.{digits_value-lt}
use Rattle.std.proofs.lemmas.Nat.{pow-add, div-mul-add, mod-mul-add, div-add-mod'}
use Rattle.std.proofs.lemmas.Bool.{cases_lt, ne_eqb, eq-eqb}
use Rattle.std.proofs.Math.Arith.{mod-mul}
use Rattle.std.proofs.Math.Nat.{mod-eq_of_lt, mul-mod_left, mul-le-mul_left, mul-div_cancel, div-le_self}
use Rattle.fixed_coord.specs.Limits.{largest}
use Rattle.fixed_coord.specs.Shortest.{decimals, point_and_decimals, shortest_size, plain_text, IsPlain, NoneIsShorter}
use Rattle.fixed_coord.proofs.CutLemmas.{pow10_pos}
use Rattle.fixed_coord.proofs.DigitLemmas.{value_append}
use Rattle.fixed_coord.proofs.WriteLemmas.{decimals_none, decimals_next}
use Rattle.fixed_coord.proofs.ShortestLemmas.{decimals_spell}

-- a remainder of a remainder
mod_of_mod : (r a b : ℕ) → 0 < a → 0 < b → (r % (a * b)) % a ≡ r % a
mod_of_mod r a b some more =
    let turned : a * b ≡ b * a = omega arith in
    let less : r % a < a = omega (arith, some) in
    ap (λ x. (r % x) % a) turned ∙ ap (λ x. x % a) (mod-mul r more some) ∙ mod-mul-add (r / a % b) a (r % a) less

-- as many decimals as it takes, and no more
decimals_few : (places rest count : ℕ) → count ≤ places → rest < 10 ^ places → rest % 10 ^ (places - count) ≡ 0 → length (decimals places rest) ≤ count
decimals_few zero rest count within small divided = omega arith
decimals_few (suc places) rest zero within small divided =
    let all : suc places - 0 ≡ suc places = omega arith in
    let none : rest ≡ 0 = sym (mod-eq_of_lt small) ∙ ap (λ k. rest % 10 ^ k) (sym all) ∙ divided in
    let empty : decimals (suc places) rest ≡ [] = ap (decimals (suc places)) none ∙ decimals_none (suc places) in
    omega (arith, ap length empty)
decimals_few (suc places) rest (suc count) within small divided =
    elim (cases_lt 0 rest) [
      | inl some ↦
          (let more : count ≤ places = omega arith in
          let sum : places ≡ (places - count) + count = omega arith in
          let power : 10 ^ places ≡ 10 ^ (places - count) * 10 ^ count = ap (λ k. 10 ^ k) sum ∙ pow-add 10 (places - count) count in
          let step : suc places - suc count ≡ places - count = omega arith in
          let left : rest % 10 ^ places < 10 ^ places = omega (arith, pow10_pos places) in
          let less : (rest % 10 ^ places) % 10 ^ (places - count) ≡ 0 =
          ap (λ x. (rest % x) % 10 ^ (places - count)) power ∙ mod_of_mod rest (10 ^ (places - count)) (10 ^ count) (pow10_pos (places - count)) (pow10_pos count)
          ∙ ap (λ k. rest % 10 ^ k) (sym step) ∙ divided in
          let few : length (decimals places (rest % 10 ^ places)) ≤ count = decimals_few places (rest % 10 ^ places) count more left less in
          omega (arith, few, ap length (decimals_next places rest some)))
      | inr none ↦
          (let zero_rest : rest ≡ 0 = omega arith in
          omega (arith, ap length (ap (decimals (suc places)) zero_rest ∙ decimals_none (suc places))))
    ]

-- one number split in two ways by a power of ten
record Splits (size places : ℕ) (whole fraction : List ℕ) : Type 0 where
  front : size / 10 ^ places ≡ digits_value 10 whole
  back : digits_value 10 fraction * 10 ^ places ≡ (size % 10 ^ places) * 10 ^ length fraction

spread : (d f m p : ℕ) → (d * m + f) * p ≡ d * (m * p) + f * p
spread d f m p = omega arith

spread_back : (q r m p : ℕ) → (q * p + r) * m ≡ q * (m * p) + r * m
spread_back q r m p = omega arith

times_less : (f m p : ℕ) → f < m → 0 < p → f * p < m * p
times_less f m p less some = let h : p * suc f ≤ p * m = mul-le-mul_left p less in omega (arith, h, some)

turned_less : (r m p : ℕ) → r < p → 0 < m → r * m < m * p
turned_less r m p less some = let h : m * suc r ≤ m * p = mul-le-mul_left m less in omega (arith, h, some)

splits : (size places : ℕ) (whole fraction : List ℕ) → IsPlain size places whole fraction → Splits size places whole fraction
splits size places whole fraction is =
    let d : ℕ = digits_value 10 whole in
    let f : ℕ = digits_value 10 fraction in
    let m : ℕ = 10 ^ length fraction in
    let p : ℕ = 10 ^ places in
    let q : ℕ = size / p in
    let r : ℕ = size % p in
    let less : r < p = omega (arith, pow10_pos places) in
    let left : d * (m * p) + f * p ≡ q * (m * p) + r * m =
    sym (spread d f m p) ∙ sym (ap (λ x. x * p) (value_append whole fraction)) ∙ is.value ∙ sym (ap (λ x. x * m) (div-add-mod' size p)) ∙ spread_back q r m p in
    let a : f * p < m * p = times_less f m p (digits_value-lt 10 fraction is.decimal_digits) (pow10_pos places) in
    let b : r * m < m * p = turned_less r m p less (pow10_pos (length fraction)) in
    record {
      front = sym (div-mul-add q (m * p) (r * m) b) ∙ sym (ap (λ x. x / (m * p)) left) ∙ div-mul-add d (m * p) (f * p) a;
      back = sym (mod-mul-add d (m * p) (f * p) a) ∙ ap (λ x. x % (m * p)) left ∙ mod-mul-add q (m * p) (r * m) b;
    }

-- a product of a power with fewer zeros
divided : (f r n count places : ℕ) → count ≤ places → n ≡ 10 ^ count → f * 10 ^ places ≡ r * n → r % 10 ^ (places - count) ≡ 0
divided f r n count places within e same =
    let sum : places ≡ count + (places - count) = omega arith in
    let power : 10 ^ places ≡ 10 ^ count * 10 ^ (places - count) = ap (λ k. 10 ^ k) sum ∙ pow-add 10 count (places - count) in
    let whole : (f * 10 ^ (places - count)) * 10 ^ count ≡ r * 10 ^ count =
    group f (10 ^ (places - count)) (10 ^ count) ∙ sym (ap (λ x. f * x) power) ∙ same ∙ ap (λ x. r * x) e in
    let product : f * 10 ^ (places - count) ≡ r =
    sym (mul-div_cancel (f * 10 ^ (places - count)) (pow10_pos count)) ∙ ap (λ x. x / 10 ^ count) whole ∙ mul-div_cancel r (pow10_pos count) in
    ap (λ x. x % 10 ^ (places - count)) (sym product) ∙ mul-mod_left f (10 ^ (places - count))
  where
    group : (f a b : ℕ) → f * a * b ≡ f * (b * a)
    group f a b = omega arith

fewest_decimals : (size places : ℕ) (whole fraction : List ℕ) → IsPlain size places whole fraction → length (decimals places (size % 10 ^ places)) ≤ length fraction
fewest_decimals size places whole fraction is =
    let s : Splits size places whole fraction = splits size places whole fraction is in
    let rest : ℕ = size % 10 ^ places in
    let less : rest < 10 ^ places = omega (arith, pow10_pos places) in
    elim (cases_lt places (length fraction)) [
      | inl more ↦ omega (arith, (decimals_spell places rest less).few)
      | inr within ↦ decimals_few places rest (length fraction) within less (divided (digits_value 10 fraction) rest (10 ^ length fraction) (length fraction) places within refl s.back)
    ]

fewest_digits : (size places : ℕ) (whole fraction : List ℕ) → size < 10 ^ 64 → IsPlain size places whole fraction → length (decimal (size / 10 ^ places)) ≤ length whole
fewest_digits size places whole fraction small is =
    let s : Splits size places whole fraction = splits size places whole fraction is in
    let below : size / 10 ^ places < 10 ^ length whole = omega (arith, s.front, digits_value-lt 10 whole is.whole_digits) in
    length-decimal-le_wide (length whole) (size / 10 ^ places) is.some below (omega (arith, div-le_self size (10 ^ places)))

plain_length : (whole fraction : List ℕ) → (length fraction ≡ 0 → length (plain_text whole fraction) ≡ length whole) × (0 < length fraction → length (plain_text whole fraction) ≡ length whole + 1 + length fraction)
plain_length whole [] = (λ _. refl, λ h. absurd (omega arith))
plain_length whole (c ∷ cs) = (λ h. absurd (omega arith), λ _. omega (arith, length-append whole (46 ∷ c ∷ cs)))

plain_more : (whole fraction : List ℕ) → length whole ≤ length (plain_text whole fraction)
plain_more whole [] = omega arith
plain_more whole (c ∷ cs) = omega (arith, length-append whole (46 ∷ c ∷ cs))

some_decimals : (places rest : ℕ) → 0 < rest → rest < 10 ^ places → 0 < length (decimals places rest)
some_decimals zero rest some small = absurd (omega arith)
some_decimals (suc places) rest some small = omega (arith, ap length (decimals_next places rest some))

-- no plain text of as many units is shorter
pub shortest_size-NoneIsShorter : (size places : ℕ) → size ≤ largest → NoneIsShorter size places (shortest_size size places)
shortest_size-NoneIsShorter size places small whole fraction is =
    let rest : ℕ = size % 10 ^ places in
    let digits : length (decimal (size / 10 ^ places)) ≤ length whole = fewest_digits size places whole fraction (omega arith) is in
    let few : length (decimals places rest) ≤ length fraction = fewest_decimals size places whole fraction is in
    let both : length (shortest_size size places) ≡ length (decimal (size / 10 ^ places)) + length (point_and_decimals places rest) = length-append (decimal (size / 10 ^ places)) (point_and_decimals places rest) in
    elim (cases_lt 0 rest) [
      | inl some ↦
          (let point : point_and_decimals places rest ≡ 46 ∷ decimals places rest = ap (λ (b : Bool). if b then [] else 46 ∷ decimals places rest) (ne_eqb rest 0 (λ z. omega arith)) in
          let more : 0 < length (decimals places rest) = some_decimals places rest some (omega (arith, pow10_pos places)) in
          let plain : length (plain_text whole fraction) ≡ length whole + 1 + length fraction = (plain_length whole fraction).1 (omega arith) in
          omega (arith, both, ap length point, plain))
      | inr less ↦
          (let none : rest ≡ 0 = omega arith in
          let point : point_and_decimals places rest ≡ [] = ap (λ (b : Bool). if b then [] else 46 ∷ decimals places rest) (eq-eqb rest 0 none) in
          omega (arith, both, ap length point, plain_more whole fraction))
    ]
