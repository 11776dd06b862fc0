-- From what stands in front of the point and behind it to the number that is read.
use Rattle.std.proofs.Common.{◌≡◌, ℕ, ℤ, ◌+◌, ◌*◌, ◌/◌, ◌%◌, ◌^◌, ◌<◌, Bool, true, false, if◌then◌else◌, List, arith, sym, ◌∙◌, ap, min, pos, neg_ℤ, ◌-ℤ◌, Some, Ok, Err}
use Rattle.std.proofs.lemmas.Nat.{pow-add}
use Rattle.std.proofs.lemmas.Bool.{eq-eqb, ne_eqb}
use Rattle.std.proofs.lemmas.Int.{ints}
use Rattle.fixed_coord.specs.declared.fault.NumberFault.TheVariants.{NotWhole}
use Rattle.fixed_coord.specs.Round.{round_half_up}
use Rattle.fixed_coord.specs.Number.{Parts, parts_of, fraction_of}
use Rattle.fixed_coord.specs.Scaled.{capped, read_by, scaled_of, units_of_fraction}
use Rattle.fixed_coord.specs.Limits.{largest}
use Rattle.fixed_coord.specs.Inner.Cut.{cap}
use Rattle.fixed_coord.specs.Whole.{whole_of, whole_fraction}
use Rattle.fixed_coord.proofs.RoundLemmas.{round_by_tenths}

-- numbers that are one up to the largest are capped as one
capped_as : (negative : Bool) (m n : ℕ) → min m largest ≡ min n largest → capped negative m ≡ capped negative n
capped_as negative m n e = ap (λ k. if negative then neg_ℤ (pos k) else pos k) e

tenth_capped : (x front : ℕ) → front ≡ min x cap → min ((front + 5) / 10) largest ≡ min ((x + 5) / 10) largest
tenth_capped x front e = omega arith

ten_times : (n places : ℕ) → n * 10 ^ (places + 1) ≡ 10 * (n * 10 ^ places)
ten_times n places = ap (λ x. n * x) (pow-add 10 places 1) ∙ turn n (10 ^ places)
  where
    turn : (a b : ℕ) → a * (b * 10) ≡ 10 * (a * b)
    turn a b = omega arith

pub scaled_is : (text : List ℕ) (p : Parts) (places front tenth : ℕ) (result : ℤ) → parts_of text ≡ Some p
    → 0 < (fraction_of p).below
    → front ≡ min ((fraction_of p).above * 10 ^ (places + 1) / (fraction_of p).below) cap
    → tenth ≡ (front + 5) / 10
    → result ≡ capped p.negative tenth
    → Ok result ≡ scaled_of places text
scaled_is text p places front tenth result parts some in_front tenths answer =
    let n : ℕ = (fraction_of p).above in
    let d : ℕ = (fraction_of p).below in
    let rounded : round_half_up (n * 10 ^ places) d ≡ (n * 10 ^ (places + 1) / d + 5) / 10 =
    round_by_tenths (n * 10 ^ places) d some ∙ ap (λ x. (x / d + 5) / 10) (sym (ten_times n places)) in
    let same : min tenth largest ≡ min (round_half_up (n * 10 ^ places) d) largest =
    ap (λ x. min x largest) tenths ∙ tenth_capped (n * 10 ^ (places + 1) / d) front in_front ∙ ap (λ x. min x largest) (sym rounded) in
    ap Ok (answer ∙ capped_as p.negative tenth (round_half_up (n * 10 ^ places) d) same) ∙ sym (ap (read_by (λ f. Ok (units_of_fraction places f))) parts)

pub whole_is : (text : List ℕ) (p : Parts) (front : ℕ) (result : ℤ) → parts_of text ≡ Some p
    → (fraction_of p).above % (fraction_of p).below ≡ 0
    → front ≡ min ((fraction_of p).above / (fraction_of p).below) cap
    → result ≡ capped p.negative front
    → Ok result ≡ whole_of text
whole_is text p front result parts exact in_front answer =
    let n : ℕ = (fraction_of p).above in
    let d : ℕ = (fraction_of p).below in
    let same : min front largest ≡ min (n / d) largest = omega (arith, in_front) in
    ap Ok (answer ∙ capped_as p.negative front (n / d) same)
    ∙ sym (ap (λ (b : Bool). if b then Ok (capped p.negative (n / d)) else Err NotWhole) (eq-eqb (n % d) 0 exact))
    ∙ sym (ap (read_by whole_fraction) parts)

pub not_whole_is : (text : List ℕ) (p : Parts) → parts_of text ≡ Some p → ((fraction_of p).above % (fraction_of p).below ≡ 0 → ⊥) → Err NotWhole ≡ whole_of text
not_whole_is text p parts rest =
    let n : ℕ = (fraction_of p).above in
    let d : ℕ = (fraction_of p).below in
    sym (ap (λ (b : Bool). if b then Ok (capped p.negative (n / d)) else Err NotWhole) (ne_eqb (n % d) 0 rest))
    ∙ sym (ap (read_by whole_fraction) parts)

-- a size of at most 18 digits isn't capped
pub capped_small : (negative : Bool) (n : ℕ) → n < 10 ^ 18 → capped negative n ≡ (if negative then pos 0 -ℤ pos n else pos n)
capped_small true n small = omega (arith, ints)
capped_small false n small = omega (arith, ints)
