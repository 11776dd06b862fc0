-- A fraction of digits and a power of ten, cut to a whole number.
use Rattle.std.proofs.Common.{◌≡◌, ℕ, ◌+◌, ◌-◌, ◌*◌, ◌/◌, ◌%◌, ◌^◌, ◌<◌, ◌≤◌, List, [], ◌∷◌, ◌++◌, length, take, drop, arith, min, sym, ◌∙◌, ap, suc, ◌↔◌, inl, inr, length-append, Bool, true, false, if◌then◌else◌}
use Rattle.std.specs.Str.Parse.{digits_value, digits_value_after, AllDigits}
use Rattle.std.specs.Char.{digit_value}
use Rattle.std.proofs.Math.Nat.{one-le-pow, div-div-eq-div-mul, mul-div_cancel_left, mul-mod_right, pow-le-pow_right, mul-le-mul_left}
use Rattle.std.proofs.lemmas.Nat.{pow-add, div-add-mod', mod-mul-add}
use Rattle.std.proofs.lemmas.List.{take_all, drop_all, take_min, drop_min}
use Rattle.std.proofs.lemmas.Bool.{cases_lt}
use Rattle.fixed_coord.specs.Number.{Parts, fraction_of}
use Rattle.fixed_coord.specs.Inner.Cut.{CutsDigits, IsCut, cap}
use Rattle.fixed_coord.specs.Inner.Spelled.{IsSpelled}
use Rattle.fixed_coord.proofs.DigitLemmas.{cuts_off, CutsOff, after_append, digits_append}

pub pow10_pos : (k : ℕ) → 0 < 10 ^ k
pow10_pos k = one-le-pow k 10 (omega arith)

mul_zero : (p r : ℕ) → 0 < p → p * r ≡ 0 → r ≡ 0
mul_zero p r some none =
    elim (cases_lt 0 r) [ inl more ↦ absurd (let h : p * 1 ≤ p * r = mul-le-mul_left p (omega arith) in omega arith) | inr e ↦ omega arith ]

times_one : (n p : ℕ) → p ≡ 1 → n ≡ n * p
times_one n p one = sym (ap (λ x. n * x) one ∙ omega arith)

mul_mod_mul : (p n q : ℕ) → 0 < p → 0 < q → (p * n) % (p * q) ≡ p * (n % q)
mul_mod_mul p n q some other =
    let whole : p * n ≡ (n / q) * (p * q) + p * (n % q) = ap (λ x. p * x) (sym (div-add-mod' n q)) ∙ omega arith in
    let less : n % q < q = omega (arith, other) in
    let more : p * suc (n % q) ≤ p * q = mul-le-mul_left p less in
    let below : p * (n % q) < p * q = omega (arith, some, more) in
    ap (λ x. x % (p * q)) whole ∙ mod-mul-add (n / q) (p * q) (p * (n % q)) below

-- how many digits are left in front of the point after a move of it by `up` places up and `down` places down
abbrev pub kept : List ℕ → ℕ → ℕ → ℕ
kept ds up down = length ds + up - down

-- the whole part after such a move, and whether something is left behind it
pub record Moves (ds : List ℕ) (up down : ℕ) : Type 0 where
  pub front : digits_value 10 ds * 10 ^ up / 10 ^ down ≡ digits_value 10 (take (kept ds up down) ds) * 10 ^ (kept ds up down - length ds)
  pub back : (digits_value 10 (drop (kept ds up down) ds) ≡ 0) ↔ ((digits_value 10 ds * 10 ^ up) % 10 ^ down ≡ 0)

moves_up : (ds : List ℕ) (up down : ℕ) → down ≤ up → Moves ds up down
moves_up ds up down less =
    let n : ℕ = digits_value 10 ds in
    let e : ℕ = up - down in
    let count : kept ds up down ≡ length ds + e = omega arith in
    let power : n * 10 ^ up ≡ 10 ^ down * (n * 10 ^ e) =
    (let sum : up ≡ down + e = omega arith in
    let split : 10 ^ up ≡ 10 ^ down * 10 ^ e = ap (λ k. 10 ^ k) sum ∙ pow-add 10 down e in
    ap (λ x. n * x) split ∙ omega arith) in
    let all : take (kept ds up down) ds ≡ ds = take_all (kept ds up down) ds (omega arith) in
    let none : drop (kept ds up down) ds ≡ [] = drop_all (kept ds up down) ds (omega arith) in
    let more : kept ds up down - length ds ≡ e = omega arith in
    record {
      front =
          ap (λ x. x / 10 ^ down) power ∙ mul-div_cancel_left (n * 10 ^ e) (pow10_pos down)
          ∙ sym (ap (λ (l : List ℕ). digits_value 10 l * 10 ^ (kept ds up down - length ds)) all ∙ ap (λ k. n * 10 ^ k) more);
      back = (λ _. ap (λ x. x % 10 ^ down) power ∙ mul-mod_right (10 ^ down) (n * 10 ^ e), λ _. ap (digits_value 10) none);
    }

moves_down : (ds : List ℕ) (up down : ℕ) → AllDigits 10 ds → up < down → Moves ds up down
moves_down ds up down digits more =
    let n : ℕ = digits_value 10 ds in
    let m : ℕ = down - up in
    let count : kept ds up down ≡ length ds - m = omega arith in
    let split : 10 ^ down ≡ 10 ^ up * 10 ^ m = (let sum : down ≡ up + m = omega arith in ap (λ k. 10 ^ k) sum ∙ pow-add 10 up m) in
    let cut : CutsOff ds m = cuts_off ds m digits in
    let turned : n * 10 ^ up ≡ 10 ^ up * n = omega arith in
    let quotient : n * 10 ^ up / 10 ^ down ≡ n / 10 ^ m =
    ap (λ x. n * 10 ^ up / x) split ∙ sym (div-div-eq-div-mul (n * 10 ^ up) (10 ^ up) (10 ^ m))
    ∙ ap (λ x. x / 10 ^ m) (ap (λ x. x / 10 ^ up) turned ∙ mul-div_cancel_left n (pow10_pos up)) in
    let none : kept ds up down - length ds ≡ 0 = omega arith in
    let back1 : digits_value 10 (drop (kept ds up down) ds) ≡ n % 10 ^ m = ap (λ k. digits_value 10 (drop k ds)) count ∙ sym cut.back in
    let exact : (n * 10 ^ up) % 10 ^ down ≡ 10 ^ up * (n % 10 ^ m) =
    ap (λ x. (n * 10 ^ up) % x) split ∙ ap (λ x. x % (10 ^ up * 10 ^ m)) turned ∙ mul_mod_mul (10 ^ up) n (10 ^ m) (pow10_pos up) (pow10_pos m) in
    record {
      front =
          quotient ∙ cut.front ∙ ap (λ k. digits_value 10 (take k ds)) (sym count)
          ∙ times_one (digits_value 10 (take (kept ds up down) ds)) (10 ^ (kept ds up down - length ds)) (ap (λ k. 10 ^ k) none);
      back = (
        λ z. (let none2 : n % 10 ^ m ≡ 0 = sym back1 ∙ z in exact ∙ ap (λ x. 10 ^ up * x) none2 ∙ omega arith),
        λ z. back1 ∙ mul_zero (10 ^ up) (n % 10 ^ m) (pow10_pos up) (sym exact ∙ z),
      );
    }

pub moves : (ds : List ℕ) (up down : ℕ) → AllDigits 10 ds → Moves ds up down
moves ds up down digits = elim (cases_lt up down) [ inl more ↦ moves_down ds up down digits more | inr less ↦ moves_up ds up down less ]

-- capped numbers: what is past the end stays past it
pub capped_more : (n d end : ℕ) → 0 < end → min (min n end * 10 + d) end ≡ min (n * 10 + d) end
capped_more n d end some = omega arith

past_far : (n count end : ℕ) → 0 < n → end ≤ 10 ^ 33 → 33 ≤ count → end ≤ n * 10 ^ count
past_far n count end some small far =
    let power : 10 ^ 33 ≤ 10 ^ count = pow-le-pow_right (omega arith) far in
    let one : 10 ^ count * 1 ≤ 10 ^ count * n = mul-le-mul_left (10 ^ count) (omega arith) in
    omega (arith, power, one)

past_near : (n end p : ℕ) → 0 < p → end ≤ n → end ≤ n * p
past_near n end p some more =
    let one : n * 1 ≤ n * p = mul-le-mul_left n (omega arith) in
    omega (arith, one)

both_past : (x y end : ℕ) → end ≤ x → end ≤ y → min x end ≡ min y end
both_past x y end a b = omega arith

-- a number, and then zeros: more than 33 of them say no more than 33
pub capped_times : (n count end : ℕ) → 0 < end → end ≤ 10 ^ 33 → min (min n end * 10 ^ min count 33) end ≡ min (n * 10 ^ count) end
capped_times n count end some small =
    elim (cases_lt 0 n) [
      | inl more ↦
          elim (cases_lt count 33) [
            | inl near ↦
                (let all : min count 33 ≡ count = omega arith in
                ap (λ k. min (min n end * 10 ^ k) end) all
                ∙ elim (cases_lt n end) [
                  | inl inside ↦ (let same : min n end ≡ n = omega arith in ap (λ x. min (x * 10 ^ count) end) same)
                  | inr past ↦
                      (let capped : min n end ≡ end = omega arith in
                      both_past (min n end * 10 ^ count) (n * 10 ^ count) end
                      (past_near (min n end) end (10 ^ count) (pow10_pos count) (omega arith))
                      (past_near n end (10 ^ count) (pow10_pos count) past))
                ])
            | inr far ↦
                (let all : min count 33 ≡ 33 = omega arith in
                let capped : 0 < min n end = omega arith in
                ap (λ k. min (min n end * 10 ^ k) end) all
                ∙ both_past (min n end * 10 ^ 33) (n * 10 ^ count) end (past_far (min n end) 33 end capped small (omega arith)) (past_far n count end more small far))
          ]
      | inr none ↦ (let zero1 : n ≡ 0 = omega arith in let zero2 : min n end ≡ 0 = omega arith in omega (arith, ap (λ x. x * 10 ^ min count 33) zero2, ap (λ x. x * 10 ^ count) zero1))
    ]

-- capped digits behind capped digits
pub capped_after : (n : ℕ) (ds : List ℕ) (end : ℕ) → 0 < end → min (digits_value_after 10 (min n end) ds) end ≡ min (digits_value_after 10 n ds) end
capped_after n [] end some = omega arith
capped_after n (d ∷ ds) end some =
    sym (capped_after (min n end * 10 + digit_value d) ds end some)
    ∙ ap (λ x. min (digits_value_after 10 x ds) end) (capped_more n (digit_value d) end some)
    ∙ capped_after (n * 10 + digit_value d) ds end some

-- the same answer from any two counts of zeros that are one up to 33
pub capped_same : (n a b end : ℕ) → 0 < end → end ≤ 10 ^ 33 → min a 33 ≡ min b 33 → min (n * 10 ^ a) end ≡ min (n * 10 ^ b) end
capped_same n a b end some small same =
    sym (capped_times n a end some small) ∙ ap (λ k. min (min n end * 10 ^ k) end) same ∙ capped_times n b end some small

pub both_spelled : (a b : List ℕ) (r s end : ℕ) → 0 < end → r ≡ min (digits_value_after 10 0 a) end → s ≡ min (digits_value_after 10 r b) end → s ≡ min (digits_value 10 (a ++ b)) end
both_spelled a b r s end some first second =
    second ∙ ap (λ x. min (digits_value_after 10 x b) end) first ∙ capped_after (digits_value 10 a) b end some ∙ ap (λ x. min x end) (sym (after_append 0 a b))

pub zeros_behind : (r s z v count end : ℕ) → 0 < end → end ≤ 10 ^ 33 → r ≡ min (s * 10 ^ z) end → s ≡ min v end → z ≡ min count 33 → r ≡ min (v * 10 ^ count) end
zeros_behind r s z v count end some small whole front zeros =
    whole ∙ ap (λ x. min (x * 10 ^ z) end) front ∙ ap (λ k. min (min v end * 10 ^ k) end) zeros ∙ capped_times v count end some small

ten_more : (n p end : ℕ) → 0 < end → min (min (n * p) end * 10) end ≡ min (n * (p * 10)) end
ten_more n p end some = omega arith

pub one_zero_more : (n k size r end : ℕ) → 0 < end → size ≡ min (n * 10 ^ k) end → r ≡ min (size * 10) end → r ≡ min (n * 10 ^ (k + 1)) end
one_zero_more n k size r end some before after =
    after ∙ ap (λ x. min (x * 10) end) before ∙ ten_more n (10 ^ k) end some ∙ ap (λ x. min (n * x) end) (sym (pow-add 10 k 1))

-- an exponent capped at 10^32 keeps the answer
pub record Decides (length_digits kept count : ℕ) : Type 0 where
  pub inside : min kept length_digits ≡ min count length_digits
  pub zeros : min (kept - length_digits) 33 ≡ min (count - length_digits) 33

-- the front and the back, from any count that decides the same
pub record CutAt (ds : List ℕ) (up down count : ℕ) : Type 0 where
  pub front : min (digits_value 10 (take count ds) * 10 ^ (count - length ds)) cap ≡ min (digits_value 10 ds * 10 ^ up / 10 ^ down) cap
  pub behind : (min (digits_value 10 (drop count ds)) cap ≡ 0) ↔ ((digits_value 10 ds * 10 ^ up) % 10 ^ down ≡ 0)

pub cut_at : (ds : List ℕ) (up down count : ℕ) → AllDigits 10 ds → Decides (length ds) (kept ds up down) count → CutAt ds up down count
cut_at ds up down count digits same =
    let m : Moves ds up down = moves ds up down digits in
    let front : take count ds ≡ take (kept ds up down) ds = sym (take_min count ds) ∙ ap (λ k. take k ds) (sym same.inside) ∙ take_min (kept ds up down) ds in
    let back : drop count ds ≡ drop (kept ds up down) ds = sym (drop_min count ds) ∙ ap (λ k. drop k ds) (sym same.inside) ∙ drop_min (kept ds up down) ds in
    let value : digits_value 10 (drop count ds) ≡ digits_value 10 (drop (kept ds up down) ds) = ap (digits_value 10) back in
    record {
      front =
          ap (λ (l : List ℕ). min (digits_value 10 l * 10 ^ (count - length ds)) cap) front
          ∙ capped_same (digits_value 10 (take (kept ds up down) ds)) (count - length ds) (kept ds up down - length ds) cap (omega arith) (omega arith) (sym same.zeros)
          ∙ ap (λ x. min x cap) (sym m.front);
      behind = (λ z. m.back.0 (omega (arith, z, value)), λ z. (let none : digits_value 10 (drop (kept ds up down) ds) ≡ 0 = m.back.1 z in omega (arith, none, value)));
    }

-- the count of digits in front of the point
abbrev pub count_in_front : List ℕ → ℕ → Bool → ℕ → ℕ
count_in_front whole places down capped = if down then length whole + places - capped else length whole + places + capped

decides : (w f : List ℕ) (down : Bool) (power capped places : ℕ) → capped ≡ min power cap → length w + length f < 2 ^ 65 → places ≤ 11
    → Decides (length (w ++ f)) (kept (w ++ f) (places + (if down then 0 else power)) (length f + (if down then power else 0))) (count_in_front w places down capped)
decides w f true power capped places e small few = record { inside = omega (arith, length-append w f); zeros = omega (arith, length-append w f) }
decides w f false power capped places e small few = record { inside = omega (arith, length-append w f); zeros = omega (arith, length-append w f) }

regroup : (n x y : ℕ) → n * x * y ≡ n * (y * x)
regroup n x y = omega arith

move_again : (n a b : ℕ) → n * 10 ^ a * 10 ^ b ≡ n * 10 ^ (b + a)
move_again n a b = regroup n (10 ^ a) (10 ^ b) ∙ ap (λ x. n * x) (sym (pow-add 10 b a))

-- the fraction of some parts, by what was cut of their digits
pub is_cut : (p : Parts) (power places count front behind : ℕ) → IsSpelled p → power ≡ min (digits_value 10 p.power) cap
    → length p.whole + length p.fraction < 2 ^ 65 → places ≤ 11 → count ≡ count_in_front p.whole places p.down power
    → CutsDigits (p.whole ++ p.fraction) count front behind → IsCut (fraction_of p) places front behind
is_cut p power places count front behind digits e small few counted cuts =
    let ds : List ℕ = p.whole ++ p.fraction in
    let n : ℕ = digits_value 10 ds in
    let up : ℕ = if p.down then 0 else digits_value 10 p.power in
    let lower : ℕ = length p.fraction + (if p.down then digits_value 10 p.power else 0) in
    let here : ℕ = count_in_front p.whole places p.down power in
    let at : CutAt ds (places + up) lower here =
    cut_at ds (places + up) lower here (digits_append p.whole p.fraction digits.before_point digits.behind_point) (decides p.whole p.fraction p.down (digits_value 10 p.power) power places e small few) in
    let moved : n * 10 ^ up * 10 ^ places ≡ n * 10 ^ (places + up) = move_again n up places in
    let back : behind ≡ min (digits_value 10 (drop here ds)) cap = cuts.left ∙ ap (λ k. min (digits_value 10 (drop k ds)) cap) counted in
    let same : (n * 10 ^ up * 10 ^ places) % 10 ^ lower ≡ (n * 10 ^ (places + up)) % 10 ^ lower = ap (λ x. x % 10 ^ lower) moved in
    record {
      in_front =
          cuts.in_front ∙ ap (λ k. min (digits_value 10 (take k ds) * 10 ^ (k - length ds)) cap) counted
          ∙ at.front ∙ ap (λ x. min (x / 10 ^ lower) cap) (sym moved);
      left = (λ z. same ∙ at.behind.0 (sym back ∙ z), λ z. back ∙ at.behind.1 (sym same ∙ z));
    }
