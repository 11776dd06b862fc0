-- The number of a part of some digits.
use Rattle.std.proofs.Common.{◌≡◌, ℕ, ◌+◌, ◌-◌, ◌*◌, ◌/◌, ◌%◌, ◌^◌, ◌<◌, ◌≤◌, List, [], ◌∷◌, ◌++◌, length, take, drop, get_or, refl, arith, min, sym, ◌∙◌, ap, suc, zero, inl, inr, length-drop, subst, append-nil}
use Rattle.std.specs.Str.Parse.{digits_value, digits_value_after, AllDigits}
use Rattle.std.specs.Char.{digit_value}
use Rattle.std.proofs.Math.Nat.{pow-suc, div-eq_of_lt, mod-eq_of_lt, pow-le-pow_right}
use Rattle.std.proofs.lemmas.Nat.{div-mul-add, mod-mul-add}
use Rattle.std.proofs.lemmas.List.{take-append-drop, take_more, take_all, drop_all, take-append-le, drop-append-le, take_min, drop_min}
use Rattle.std.proofs.Math.Seq.{take-append-add, drop-append-add}
use Rattle.std.proofs.lemmas.Bool.{cases_lt}
use Rattle.std.proofs.lemmas.Bool.Decides.{nat_tests}
use Rattle.std.proofs.lemmas.Int.Digits.{digits_value-lt}

expand : (n v p r : ℕ) → (n * 10 + v) * p + r ≡ n * (p * 10) + ((0 * 10 + v) * p + r)
expand n v p r = omega arith

-- digits behind a number
pub after_number : (n : ℕ) (ds : List ℕ) → digits_value_after 10 n ds ≡ n * 10 ^ length ds + digits_value 10 ds
after_number n [] = omega arith
after_number n (d ∷ ds) =
    after_number (n * 10 + digit_value d) ds
    ∙ expand n (digit_value d) (10 ^ length ds) (digits_value 10 ds)
    ∙ ap (λ x. n * x + ((0 * 10 + digit_value d) * 10 ^ length ds + digits_value 10 ds)) (sym (pow-suc 10 (length ds)))
    ∙ ap (λ x. n * 10 ^ suc (length ds) + x) (sym (after_number (0 * 10 + digit_value d) ds))

pub after_append : (n : ℕ) (xs ys : List ℕ) → digits_value_after 10 n (xs ++ ys) ≡ digits_value_after 10 (digits_value_after 10 n xs) ys
after_append n [] ys = refl
after_append n (x ∷ xs) ys = after_append (n * 10 + digit_value x) xs ys

-- one digit more
pub after_more : (n : ℕ) (ds : List ℕ) (i : ℕ) → i < length ds → digits_value_after 10 n (take (i + 1) ds) ≡ digits_value_after 10 n (take i ds) * 10 + digit_value (get_or ds i 0)
after_more n ds i inside = ap (digits_value_after 10 n) (take_more ds i 0 inside) ∙ after_append n (take i ds) (get_or ds i 0 ∷ [])

pub value_append : (xs ys : List ℕ) → digits_value 10 (xs ++ ys) ≡ digits_value 10 xs * 10 ^ length ys + digits_value 10 ys
value_append xs ys = after_append 0 xs ys ∙ after_number (digits_value 10 xs) ys

pub digits_append : (xs ys : List ℕ) → AllDigits 10 xs → AllDigits 10 ys → AllDigits 10 (xs ++ ys)
digits_append [] ys a b = b
digits_append (x ∷ xs) ys a b = (a.0, digits_append xs ys a.1 b)

pub digits_take : (i : ℕ) (xs : List ℕ) → AllDigits 10 xs → AllDigits 10 (take i xs)
digits_take zero xs a = tt
digits_take (suc i) [] a = tt
digits_take (suc i) (x ∷ xs) a = (a.0, digits_take i xs a.1)

pub digits_drop : (i : ℕ) (xs : List ℕ) → AllDigits 10 xs → AllDigits 10 (drop i xs)
digits_drop zero xs a = a
digits_drop (suc i) [] a = tt
digits_drop (suc i) (x ∷ xs) a = digits_drop i xs a.1

-- without the last m digits, and these m digits
pub record CutsOff (ds : List ℕ) (m : ℕ) : Type 0 where
  pub front : digits_value 10 ds / 10 ^ m ≡ digits_value 10 (take (length ds - m) ds)
  pub back : digits_value 10 ds % 10 ^ m ≡ digits_value 10 (drop (length ds - m) ds)

cut_within : (ds : List ℕ) (m : ℕ) → AllDigits 10 ds → m ≤ length ds → CutsOff ds m
cut_within ds m all within =
    let i : ℕ = length ds - m in
    let whole : digits_value 10 ds ≡ digits_value 10 (take i ds) * 10 ^ length (drop i ds) + digits_value 10 (drop i ds) =
    ap (digits_value 10) (sym (take-append-drop i ds)) ∙ value_append (take i ds) (drop i ds) in
    let size : length (drop i ds) ≡ m = omega (arith, length-drop i ds) in
    let whole2 : digits_value 10 ds ≡ digits_value 10 (take i ds) * 10 ^ m + digits_value 10 (drop i ds) =
    whole ∙ ap (λ k. digits_value 10 (take i ds) * 10 ^ k + digits_value 10 (drop i ds)) size in
    let small : digits_value 10 (drop i ds) < 10 ^ m =
    subst (λ (k : ℕ). digits_value 10 (drop i ds) < 10 ^ k) size (digits_value-lt 10 (drop i ds) (digits_drop i ds all)) in
    record {
      front = ap (λ n. n / 10 ^ m) whole2 ∙ div-mul-add (digits_value 10 (take i ds)) (10 ^ m) (digits_value 10 (drop i ds)) small;
      back = ap (λ n. n % 10 ^ m) whole2 ∙ mod-mul-add (digits_value 10 (take i ds)) (10 ^ m) (digits_value 10 (drop i ds)) small;
    }

cut_past : (ds : List ℕ) (m : ℕ) → AllDigits 10 ds → length ds < m → CutsOff ds m
cut_past ds m all past =
    let none : length ds - m ≡ 0 = omega arith in
    let more : 10 ^ length ds ≤ 10 ^ m = pow-le-pow_right (omega arith) (omega arith) in
    let small : digits_value 10 ds < 10 ^ m = omega (arith, more, digits_value-lt 10 ds all) in
    record {
      front = div-eq_of_lt small ∙ ap (λ k. digits_value 10 (take k ds)) (sym none);
      back = mod-eq_of_lt small ∙ ap (λ k. digits_value 10 (drop k ds)) (sym none);
    }

pub cuts_off : (ds : List ℕ) (m : ℕ) → AllDigits 10 ds → CutsOff ds m
cuts_off ds m all = elim (cases_lt (length ds) m) [ inl past ↦ cut_past ds m all past | inr within ↦ cut_within ds m all within ]

digit_at : (c : ℕ) → digit_value c < 10 → (48 ≤ c) × (digit_value c ≡ c - 48)
digit_at c h = grind (arith, nat_tests)

-- a digit at a place
pub digit_known : (ds : List ℕ) (i : ℕ) → AllDigits 10 ds → i < length ds → (48 ≤ get_or ds i 0) × (digit_value (get_or ds i 0) ≡ get_or ds i 0 - 48)
digit_known [] i all inside = absurd (omega arith)
digit_known (d ∷ ds) zero all inside = digit_at d all.0
digit_known (d ∷ ds) (suc i) all inside = digit_known ds i all.1 (omega arith)

take_first : (count : ℕ) (xs ys : List ℕ) → take count (xs ++ ys) ≡ take count xs ++ take (count - length xs) ys
take_first count xs ys =
    elim (cases_lt (length xs) count) [
      | inl past ↦
          (let sum : count ≡ length xs + (count - length xs) = omega arith in
          ap (λ k. take k (xs ++ ys)) sum ∙ take-append-add xs ys (count - length xs)
          ∙ ap (λ (l : List ℕ). l ++ take (count - length xs) ys) (sym (take_all count xs (omega arith))))
      | inr within ↦
          (let none : 0 ≡ count - length xs = omega arith in
          take-append-le count xs ys within ∙ sym (append-nil (take count xs)) ∙ ap (λ k. take count xs ++ take k ys) none)
    ]

drop_first : (count : ℕ) (xs ys : List ℕ) → drop count (xs ++ ys) ≡ drop count xs ++ drop (count - length xs) ys
drop_first count xs ys =
    elim (cases_lt (length xs) count) [
      | inl past ↦
          (let sum : count ≡ length xs + (count - length xs) = omega arith in
          ap (λ k. drop k (xs ++ ys)) sum ∙ drop-append-add xs ys (count - length xs)
          ∙ ap (λ (l : List ℕ). l ++ drop (count - length xs) ys) (sym (drop_all count xs (omega arith))))
      | inr within ↦
          (let none : 0 ≡ count - length xs = omega arith in
          drop-append-le count xs ys within ∙ ap (λ k. drop count xs ++ drop k ys) none)
    ]

-- the first or the last digits of two lists
pub take_both : (count : ℕ) (xs ys : List ℕ) → take count (xs ++ ys) ≡ take (min count (length xs)) xs ++ take (min (count - length xs) (length ys)) ys
take_both count xs ys =
    take_first count xs ys
    ∙ ap (λ (l : List ℕ). l ++ take (count - length xs) ys) (sym (take_min count xs))
    ∙ ap (λ (l : List ℕ). take (min count (length xs)) xs ++ l) (sym (take_min (count - length xs) ys))

pub drop_both : (count : ℕ) (xs ys : List ℕ) → drop count (xs ++ ys) ≡ drop (min count (length xs)) xs ++ drop (min (count - length xs) (length ys)) ys
drop_both count xs ys =
    drop_first count xs ys
    ∙ ap (λ (l : List ℕ). l ++ drop (count - length xs) ys) (sym (drop_min count xs))
    ∙ ap (λ (l : List ℕ). drop (min count (length xs)) xs ++ l) (sym (drop_min (count - length xs) ys))
