-- Digits in front of a text, and comparing by a difference.
use Rattle.std.proofs.Common.{◌≡◌, ℕ, suc, ◌+◌, ◌-◌, ◌<◌, ◌≤◌, Bool, true, false, cond, ◌&&◌, ◌==◌, List, [], ◌∷◌, length, refl, arith, ℤ, pos, ◌-ℤ◌, take, subst, zero, get_or, nat_lt, length-take, ◌^◌}
use Rattle.std.proofs.Math.Nat.{pow-le-pow_right}
use Rattle.std.proofs.lemmas.Bool.{and_parts, and_from, lt-ltb}
use Rattle.std.proofs.lemmas.Int.Digits.{digits_value-lt}
use Rattle.fixed_coord.specs.Number.{is_digits}
use Rattle.std.specs.Char.{digit_value}
use Rattle.std.specs.Str.Parse.{AllDigits, digits_value}
use Rattle.std.proofs.lemmas.Str.Parse.{IsNumeralModel, numerals_by_value, tells_all_ascii_digits}
use Rattle.std.proofs.lemmas.Bool.Decides.{nat_tests}
use Rattle.std.proofs.lemmas.Int.{ints}
use Rattle.std.specs.List.{prefix_len}
use Rattle.std.specs.Char.{is_ascii_digit}
use Rattle.std.specs.Str.{all_ascii_digits}
use Rattle.std.specs.Ordering.{int_cmp}

-- one more
one_more : (b : Bool) (m n : ℕ) (r : Bool) → (m == n) ≡ r → (cond b (1 + m) 0 == suc n) ≡ (b && r)
one_more true m n r e = grind (arith, nat_tests)
one_more false m n r e = grind (arith, nat_tests)

-- all are digits where as many pass as there are
pub all_pass : (cs : List ℕ) → (prefix_len is_ascii_digit cs == length cs) ≡ all_ascii_digits cs
all_pass [] = refl
all_pass (c ∷ cs) = one_more (is_ascii_digit c) (prefix_len is_ascii_digit cs) (length cs) (all_ascii_digits cs) (all_pass cs)

pub cmp_by_difference : (x y : ℤ) → int_cmp x y ≡ int_cmp (x -ℤ y) (pos 0)
cmp_by_difference x y = grind (arith, ints)

digit_test : (c : ℕ) → is_ascii_digit c ≡ true → digit_value c < 10
digit_test c h = grind (arith, nat_tests)

pub digit_is : (c : ℕ) → is_ascii_digit c ≡ true → digit_value c ≡ c - 48
digit_is c h = grind (arith, nat_tests)

front_digits : (b : Bool) (c : ℕ) (cs : List ℕ) → is_ascii_digit c ≡ b → AllDigits 10 (take (prefix_len is_ascii_digit cs) cs) → AllDigits 10 (take (cond b (1 + prefix_len is_ascii_digit cs) 0) (c ∷ cs))
front_digits true c cs e more =
    let next : suc (prefix_len is_ascii_digit cs) ≡ 1 + prefix_len is_ascii_digit cs = omega arith in
    subst (λ (k : ℕ). AllDigits 10 (take k (c ∷ cs))) next (digit_test c e, more)
front_digits false c cs e more = tt

-- the digits in front are digits
pub front_AllDigits : (cs : List ℕ) → AllDigits 10 (take (prefix_len is_ascii_digit cs) cs)
front_AllDigits [] = tt
front_AllDigits (c ∷ cs) = front_digits (is_ascii_digit c) c cs refl (front_AllDigits cs)

-- digits by the test
pub own : IsNumeralModel (λ ds. all_ascii_digits ds ≡ true) (digits_value 10)
own = numerals_by_value _ tells_all_ascii_digits

pub numeral_AllDigits : (ds : List ℕ) → is_digits ds ≡ true → AllDigits 10 ds
numeral_AllDigits ds h = own.to ds (and_parts (nat_lt 0 (length ds)) (all_ascii_digits ds) h).1

pub digit_of : (c : ℕ) → digit_value c < 10 → is_ascii_digit c ≡ true
digit_of c h = grind (arith, nat_tests)

-- each of some digits passes the test
pub digit_passes : (ds : List ℕ) (i : ℕ) → AllDigits 10 ds → i < length ds → is_ascii_digit (get_or ds i 0) ≡ true
digit_passes [] i all inside = absurd (omega arith)
digit_passes (d ∷ ds) zero all inside = digit_of d all.0
digit_passes (d ∷ ds) (suc i) all inside = digit_passes ds i all.1 (omega arith)

-- one digit more
pub digits_more : (ds : List ℕ) (i : ℕ) → AllDigits 10 (take i ds) → i < length ds → is_ascii_digit (get_or ds i 0) ≡ true → AllDigits 10 (take (i + 1) ds)
digits_more [] i all inside h = absurd (omega arith)
digits_more (d ∷ ds) zero all inside h = (digit_test d h, tt)
digits_more (d ∷ ds) (suc i) all inside h =
    let next : suc (i + 1) ≡ suc i + 1 = omega arith in
    subst (λ (k : ℕ). AllDigits 10 (take k (d ∷ ds))) next (all.0, digits_more ds i all.1 (omega arith) h)

-- few digits are far below 2^63
pub value_small : (ds : List ℕ) (i most : ℕ) → AllDigits 10 (take i ds) → i ≤ most → digits_value 10 (take i ds) < 10 ^ most
value_small ds i most all few =
    let count : length (take i ds) ≤ most = omega (arith, length-take i ds) in
    let power : 10 ^ length (take i ds) ≤ 10 ^ most = pow-le-pow_right (omega arith) count in
    omega (arith, power, digits_value-lt 10 (take i ds) all)

pub numeral_from : (ds : List ℕ) → AllDigits 10 ds → 0 < length ds → is_digits ds ≡ true
numeral_from ds all some = and_from (nat_lt 0 (length ds)) (all_ascii_digits ds) (lt-ltb 0 (length ds) some) (own.from ds all)
