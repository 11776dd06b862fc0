-- The decimals of a number of units, digit after digit.
use Rattle.std.proofs.Common.{◌≡◌, ℕ, suc, zero, ◌+◌, ◌-◌, ◌/◌, ◌%◌, ◌^◌, ◌<◌, ◌≤◌, Bool, if◌then◌else◌, List, [], ◌∷◌, ◌++◌, length, take, refl, arith, sym, ◌∙◌, ap, append_assoc, length-take, take-take}
use Rattle.std.proofs.Math.Nat.{pow-suc, mul-div_cancel}
use Rattle.std.proofs.lemmas.List.{take-append-le}
use Rattle.std.proofs.lemmas.Bool.{ne_eqb}
use Rattle.fixed_coord.specs.Shortest.{decimals}

pub decimals_none : (places : ℕ) → decimals places 0 ≡ []
decimals_none zero = refl
decimals_none (suc places) = refl

pub decimals_next : (places rest : ℕ) → 0 < rest → decimals (suc places) rest ≡ (48 + rest / 10 ^ places) ∷ decimals places (rest % 10 ^ places)
decimals_next places rest some =
    ap (λ (b : Bool). if b then [] else (48 + rest / 10 ^ places) ∷ decimals places (rest % 10 ^ places)) (ne_eqb rest 0 (λ e. omega arith))

decimals_step : (places rest : ℕ) → 0 < rest → 0 < places → decimals places rest ≡ (48 + rest / 10 ^ (places - 1)) ∷ decimals (places - 1) (rest % 10 ^ (places - 1))
decimals_step places rest some more =
    let next : places ≡ suc (places - 1) = omega arith in
    ap (λ k. decimals k rest) next ∙ decimals_next (places - 1) rest some

pub some_left : (left rest : ℕ) → 0 < rest → rest < 10 ^ left → 0 < left
some_left zero rest some small = absurd (omega arith)
some_left (suc left) rest some small = omega arith

tenth_part : (left : ℕ) → 10 ^ suc left / 10 ≡ 10 ^ left
tenth_part left = ap (λ x. x / 10) (pow-suc 10 left) ∙ mul-div_cancel (10 ^ left) (omega arith)

pub scale_down : (left scale : ℕ) → 0 < left → scale ≡ 10 ^ left → scale / 10 ≡ 10 ^ (left - 1)
scale_down left scale some e =
    let next : left ≡ suc (left - 1) = omega arith in
    ap (λ x. x / 10) e ∙ ap (λ k. 10 ^ k / 10) next ∙ tenth_part (left - 1)

pub digit_pushed : (out new target : List ℕ) (left rest d : ℕ) → 0 < rest → 0 < left → out ++ decimals left rest ≡ target → new ≡ out ++ (d ∷ []) → d ≡ 48 + rest / 10 ^ (left - 1)
    → new ++ decimals (left - 1) (rest % 10 ^ (left - 1)) ≡ target
digit_pushed out new target left rest d some more before pushed digit =
    let more_digits : List ℕ = decimals (left - 1) (rest % 10 ^ (left - 1)) in
    ap (λ (l : List ℕ). l ++ more_digits) pushed ∙ append_assoc out (d ∷ []) more_digits
    ∙ ap (λ k. out ++ (k ∷ more_digits)) digit ∙ ap (λ (l : List ℕ). out ++ l) (sym (decimals_step left rest some more)) ∙ before

-- what stands in front stays in front
pub still_front : (old xs ys : List ℕ) → take (length old) xs ≡ old → take (length old) (xs ++ ys) ≡ old
still_front old xs ys e =
    let long : length old ≤ length xs = omega (arith, ap length e, length-take (length old) xs) in
    take-append-le (length old) xs ys long ∙ e

-- and what stands in front of that
pub front_of_front : (old xs new : List ℕ) → take (length old) xs ≡ old → take (length xs) new ≡ xs → take (length old) new ≡ old
front_of_front old xs new e f =
    let long : length old ≤ length xs = omega (arith, ap length e, length-take (length old) xs) in
    sym (take-take (length old) (length xs) new long) ∙ ap (take (length old)) f ∙ e
