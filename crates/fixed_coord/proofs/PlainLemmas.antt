-- Texts of digits, a point and digits, with a sign or none.
use Rattle.std.proofs.Common.{◌≡◌, ℕ, suc, ◌+◌, ◌*◌, ◌/◌, ◌%◌, ◌^◌, ◌<◌, Bool, true, false, cond, if◌then◌else◌, List, [], ◌∷◌, ◌++◌, length, take, drop, refl, arith, sym, ◌∙◌, ap, pos, ◌-ℤ◌, Some, None, Option, Ok, Err, nat_lt, not, option_map, append-nil}
use Rattle.std.specs.List.{prefix_len}
use Rattle.std.specs.Char.{is_ascii_digit}
use Rattle.std.specs.Str.{all_ascii_digits}
use Rattle.std.specs.Str.Parse.{AllDigits, digits_value}
use Rattle.std.proofs.lemmas.Bool.{lt-ltb, eq-eqb, ltb-true, and_parts}
use Rattle.fixed_coord.specs.declared.fault.NumberFault.TheVariants.{NotWhole}
use Rattle.std.proofs.Math.Seq.{take-append_seam, drop-append_seam}
use Rattle.fixed_coord.specs.Number.{Parts, parts_of, digits_in_front, behind_digits, behind_sign, has_minus, decimals_in_front, behind_decimals, exponent_of}
use Rattle.fixed_coord.specs.Scaled.{capped, read_by}
use Rattle.fixed_coord.specs.Whole.{whole_of, whole_fraction, IsShort}
use Rattle.fixed_coord.proofs.TextLemmas.{digit_of, numeral_AllDigits}
use Rattle.fixed_coord.proofs.ReadLemmas.{capped_small}

-- no digit stands first
abbrev pub stops : List ℕ → Bool
stops [] = true
stops (c ∷ cs) = not (is_ascii_digit c)

pass_all : (b : Bool) (m n : ℕ) → b ≡ true → m ≡ n → cond b (1 + m) 0 ≡ suc n
pass_all b m n t e = rw t (omega arith)

stop_here : (rest : List ℕ) → stops rest ≡ true → prefix_len is_ascii_digit rest ≡ 0
stop_here [] h = refl
stop_here (c ∷ cs) h = go (is_ascii_digit c) h
  where
    go : (b : Bool) → not b ≡ true → cond b (1 + prefix_len is_ascii_digit cs) 0 ≡ 0
    go true h = cc
    go false h = refl

front_count : (ds rest : List ℕ) → AllDigits 10 ds → stops rest ≡ true → prefix_len is_ascii_digit (ds ++ rest) ≡ length ds
front_count [] rest all h = stop_here rest h
front_count (d ∷ ds) rest all h = pass_all (is_ascii_digit d) (prefix_len is_ascii_digit (ds ++ rest)) (length ds) (digit_of d all.0) (front_count ds rest all.1 h)

pub front_is : (ds rest : List ℕ) → AllDigits 10 ds → stops rest ≡ true → digits_in_front (ds ++ rest) ≡ ds
front_is ds rest all h = ap (λ k. take k (ds ++ rest)) (front_count ds rest all h) ∙ take-append_seam ds rest

pub behind_is : (ds rest : List ℕ) → AllDigits 10 ds → stops rest ≡ true → behind_digits (ds ++ rest) ≡ rest
behind_is ds rest all h = ap (λ k. drop k (ds ++ rest)) (front_count ds rest all h) ∙ drop-append_seam ds rest

-- what is read from the digits and what follows them
abbrev parts_with : Bool → List ℕ → List ℕ → List ℕ → Option Parts
parts_with negative whole fraction rest =
    if nat_lt 0 (length whole + length fraction)
    then option_map (λ e. record { negative = negative; whole = whole; fraction = fraction; down = e.0; power = e.1 }) (exponent_of rest)
    else None

abbrev plain : Bool → List ℕ → List ℕ → Parts
plain negative whole fraction = record { negative = negative; whole = whole; fraction = fraction; down = false; power = [] }

parts_are : (text whole rest : List ℕ) → digits_in_front (behind_sign text) ≡ whole → behind_digits (behind_sign text) ≡ rest
    → parts_of text ≡ parts_with (has_minus text) whole (decimals_in_front rest) (behind_decimals rest)
parts_are text whole rest a b =
    ap (λ (w : List ℕ). parts_with (has_minus text) w (decimals_in_front (behind_digits (behind_sign text))) (behind_decimals (behind_digits (behind_sign text)))) a
    ∙ ap (λ (r : List ℕ). parts_with (has_minus text) whole (decimals_in_front r) (behind_decimals r)) b

nothing_behind : (negative : Bool) (whole fraction : List ℕ) → 0 < length whole → parts_with negative whole fraction [] ≡ Some (plain negative whole fraction)
nothing_behind negative whole fraction some =
    ap (λ (b : Bool). if b then Some (plain negative whole fraction) else None) (lt-ltb 0 (length whole + length fraction) (omega arith))

-- digits behind a sign or none
pub whole_parts : (text ds : List ℕ) → behind_sign text ≡ ds → AllDigits 10 ds → 0 < length ds → parts_of text ≡ Some (plain (has_minus text) ds [])
whole_parts text ds e all some =
    let e2 : behind_sign text ≡ ds ++ [] = e ∙ sym (append-nil ds) in
    parts_are text ds [] (ap digits_in_front e2 ∙ front_is ds [] all refl) (ap behind_digits e2 ∙ behind_is ds [] all refl) ∙ nothing_behind (has_minus text) ds [] some

all_in_front : (fs : List ℕ) → AllDigits 10 fs → digits_in_front fs ≡ fs
all_in_front fs all = ap digits_in_front (sym (append-nil fs)) ∙ front_is fs [] all refl

none_behind : (fs : List ℕ) → AllDigits 10 fs → behind_digits fs ≡ []
none_behind fs all = ap behind_digits (sym (append-nil fs)) ∙ behind_is fs [] all refl

-- digits, a point and digits behind a sign or none
pub decimal_parts : (text ds fs : List ℕ) → behind_sign text ≡ ds ++ (46 ∷ fs) → AllDigits 10 ds → AllDigits 10 fs → 0 < length ds → parts_of text ≡ Some (plain (has_minus text) ds fs)
decimal_parts text ds fs e all others some =
    parts_are text ds (46 ∷ fs) (ap digits_in_front e ∙ front_is ds (46 ∷ fs) all refl) (ap behind_digits e ∙ behind_is ds (46 ∷ fs) all refl)
    ∙ ap (λ (f : List ℕ). parts_with (has_minus text) ds f (behind_digits fs)) (all_in_front fs others)
    ∙ ap (λ (r : List ℕ). parts_with (has_minus text) ds fs r) (none_behind fs others)
    ∙ nothing_behind (has_minus text) ds fs some

whole_over_one : (negative : Bool) (n : ℕ) → whole_fraction (record { negative = negative; above = n; below = 1 }) ≡ Ok (capped negative n)
whole_over_one negative n =
    ap (λ (b : Bool). if b then Ok (capped negative (n / 1)) else Err NotWhole) (eq-eqb (n % 1) 0 (omega arith))
    ∙ ap (λ x. Ok (capped negative x)) (omega arith)

value_alone : (ds : List ℕ) → digits_value 10 (ds ++ []) * 1 ≡ digits_value 10 ds
value_alone ds = ap (λ (l : List ℕ). digits_value 10 l * 1) (append-nil ds) ∙ omega arith

-- the whole number of digits behind a sign or none
pub whole_digits : (text ds : List ℕ) → behind_sign text ≡ ds → AllDigits 10 ds → 0 < length ds → whole_of text ≡ Ok (capped (has_minus text) (digits_value 10 ds))
whole_digits text ds e all some =
    ap (read_by whole_fraction) (whole_parts text ds e all some) ∙ whole_over_one (has_minus text) (digits_value 10 (ds ++ []) * 1)
    ∙ ap (λ x. Ok (capped (has_minus text) x)) (value_alone ds)

-- a short text's number, by its digits
pub short_whole_is : (text ds : List ℕ) (negative : Bool) (n : ℕ) → negative ≡ has_minus text → ds ≡ behind_sign text → n ≡ digits_value 10 ds → n < 10 ^ 18 → IsShort ds
    → whole_of text ≡ Ok (if negative then pos 0 -ℤ pos n else pos n)
short_whole_is text ds negative n minus rest value small short =
    let some : 0 < length ds = ltb-true 0 (length ds) (and_parts (nat_lt 0 (length ds)) (all_ascii_digits ds) short.all_digits).0 in
    whole_digits text ds (sym rest) (numeral_AllDigits ds short.all_digits) some
    ∙ ap (λ (b : Bool). Ok (capped b (digits_value 10 ds))) (sym minus)
    ∙ ap (λ k. Ok (capped negative k)) (sym value)
    ∙ ap Ok (capped_small negative n small)
