-- Reading the shortest text gives the number of units back.
use Rattle.std.proofs.Common.{◌≡◌, ℕ, ℤ, suc, zero, ◌+◌, ◌-◌, ◌*◌, ◌/◌, ◌%◌, ◌^◌, ◌<◌, ◌≤◌, Bool, false, ◌==◌, if◌then◌else◌, List, [], ◌∷◌, ◌++◌, length, refl, arith, sym, ◌∙◌, ap, subst, min, pos, negsuc, neg_ℤ, Ok, append-nil, unsigned_abs, inl, inr, ◌||◌, Some}
use Rattle.std.specs.Fmt.{decimal, signed_decimal}
use Rattle.std.specs.Char.{digit_value}
use Rattle.std.specs.Str.Parse.{AllDigits, IsNumeral, digits_value}
use Rattle.std.proofs.lemmas.Fmt.{decimal_is_IsNumeral_wide}
use Rattle.std.proofs.lemmas.Nat.{pow-add, div-add-mod'}
use Rattle.std.proofs.lemmas.Bool.{ne_eqb, eq-eqb, cases_lt}
use Rattle.std.proofs.lemmas.Bool.Decides.{nat_tests}
use Rattle.std.proofs.Math.Nat.{pow-suc, div-lt_iff_lt-mul, div-le_self}
use Rattle.fixed_coord.specs.Round.{round_half_up}
use Rattle.fixed_coord.specs.Number.{parts_of, behind_sign, has_minus}
use Rattle.fixed_coord.specs.Scaled.{capped, read_by, scaled_of, units_of_fraction}
use Rattle.fixed_coord.specs.Limits.{largest}
use Rattle.fixed_coord.specs.Whole.{whole_of}
use Rattle.fixed_coord.specs.Shortest.{decimals, point_and_decimals, shortest, shortest_size}
use Rattle.fixed_coord.proofs.DigitLemmas.{after_number, value_append}
use Rattle.fixed_coord.proofs.CutLemmas.{pow10_pos}
use Rattle.fixed_coord.proofs.RoundLemmas.{round_whole}
use Rattle.fixed_coord.proofs.PlainLemmas.{whole_parts, decimal_parts, whole_digits}
use Rattle.fixed_coord.proofs.WriteLemmas.{decimals_none, decimals_next}

-- what the decimals of a number of units spell
pub record Spells (ds : List ℕ) (places rest : ℕ) : Type 0 where
  pub digits : AllDigits 10 ds
  pub few : length ds ≤ places
  pub value : digits_value 10 ds * 10 ^ (places - length ds) ≡ rest

glyph : (d : ℕ) → d < 10 → (digit_value (48 + d) < 10) × (digit_value (48 + d) ≡ d)
glyph d h = grind (arith, nat_tests)

spells_none : (places rest : ℕ) → rest ≡ 0 → Spells [] places rest
spells_none places rest none = record { digits = tt; few = omega arith; value = sym (none ∙ omega arith) }

lead : (d n p q r v : ℕ) → n * p ≡ q → v * p ≡ r → (d * n + v) * p ≡ d * q + r
lead d n p q r v e f = expand d n p v ∙ ap (λ x. d * x + v * p) e ∙ ap (λ x. d * q + x) f
  where
    expand : (d n p v : ℕ) → (d * n + v) * p ≡ d * (n * p) + v * p
    expand d n p v = omega arith

spells_more : (places rest d : ℕ) (ds : List ℕ) → d < 10 → Spells ds places rest → Spells ((48 + d) ∷ ds) (suc places) (d * 10 ^ places + rest)
spells_more places rest d ds small s =
    let known : (digit_value (48 + d) < 10) × (digit_value (48 + d) ≡ d) = glyph d small in
    let left : suc places - suc (length ds) ≡ places - length ds = omega arith in
    let whole : 10 ^ length ds * 10 ^ (places - length ds) ≡ 10 ^ places =
    sym (pow-add 10 (length ds) (places - length ds)) ∙ (let sum : length ds + (places - length ds) ≡ places = omega (arith, s.few) in ap (λ k. 10 ^ k) sum) in
    let value : digits_value 10 ((48 + d) ∷ ds) ≡ d * 10 ^ length ds + digits_value 10 ds =
    after_number (0 * 10 + digit_value (48 + d)) ds ∙ ap (λ x. x * 10 ^ length ds + digits_value 10 ds) (omega (arith, known.1)) in
    record {
      digits = (known.0, s.digits);
      few = omega (arith, s.few);
      value =
          ap (λ x. x * 10 ^ (suc places - suc (length ds))) value ∙ ap (λ k. (d * 10 ^ length ds + digits_value 10 ds) * 10 ^ k) left
          ∙ lead d (10 ^ length ds) (10 ^ (places - length ds)) (10 ^ places) rest (digits_value 10 ds) whole s.value;
    }

top_digit : (places rest : ℕ) → rest < 10 ^ suc places → rest / 10 ^ places < 10
top_digit places rest small =
    (div-lt_iff_lt-mul (pow10_pos places)).1 (omega (arith, pow-suc 10 places))

pub decimals_spell : (places rest : ℕ) → rest < 10 ^ places → Spells (decimals places rest) places rest
decimals_spell zero rest small = spells_none zero rest (omega arith)
decimals_spell (suc places) rest small =
    elim (cases_lt 0 rest) [
      | inl some ↦
          (let left : rest % 10 ^ places < 10 ^ places = omega (arith, pow10_pos places) in
          let more : Spells ((48 + rest / 10 ^ places) ∷ decimals places (rest % 10 ^ places)) (suc places) (rest / 10 ^ places * 10 ^ places + rest % 10 ^ places) =
          spells_more places (rest % 10 ^ places) (rest / 10 ^ places) (decimals places (rest % 10 ^ places)) (top_digit places rest small) (decimals_spell places (rest % 10 ^ places) left) in
          let there : Spells (decimals (suc places) rest) (suc places) (rest / 10 ^ places * 10 ^ places + rest % 10 ^ places) =
          subst (λ (l : List ℕ). Spells l (suc places) (rest / 10 ^ places * 10 ^ places + rest % 10 ^ places)) (sym (decimals_next places rest some)) more in
          subst (λ (n : ℕ). Spells (decimals (suc places) rest) (suc places) n) (div-add-mod' rest (10 ^ places)) there)
      | inr none ↦
          (let zero_rest : rest ≡ 0 = omega arith in
          subst (λ (l : List ℕ). Spells l (suc places) rest) (sym (ap (decimals (suc places)) zero_rest ∙ decimals_none (suc places))) (spells_none (suc places) rest zero_rest))
    ]

not_sign : (d : ℕ) → digit_value d < 10 → (((d == 43) || (d == 45)) ≡ false) × ((d == 45) ≡ false)
not_sign d h = grind (arith, nat_tests)

-- digits have no sign before them
record Unsigned (text : List ℕ) : Type 0 where
  rest : behind_sign text ≡ text
  plus : has_minus text ≡ false

unsigned_digits : (ds more : List ℕ) → AllDigits 10 ds → 0 < length ds → Unsigned (ds ++ more)
unsigned_digits [] more all some = absurd (omega arith)
unsigned_digits (d ∷ ds) more all some =
    let no : (((d == 43) || (d == 45)) ≡ false) × ((d == 45) ≡ false) = not_sign d all.0 in
    record { rest = ap (λ (b : Bool). if b then ds ++ more else d ∷ (ds ++ more)) no.0; plus = no.1 }

cross : (q n f p w r : ℕ) → p ≡ n * w → f * w ≡ r → (q * n + f) * 1 * p ≡ n * (q * p + r)
cross q n f p w r power left =
    expand q n f p ∙ ap (λ x. n * (q * p) + f * x) power ∙ turn q n f p w ∙ ap (λ x. n * (q * p) + n * x) left ∙ join n q p r
  where
    expand : (q n f p : ℕ) → (q * n + f) * 1 * p ≡ n * (q * p) + f * p
    expand q n f p = omega arith

    turn : (q n f p w : ℕ) → n * (q * p) + f * (n * w) ≡ n * (q * p) + n * (f * w)
    turn q n f p w = omega arith

    join : (n q p r : ℕ) → n * (q * p) + n * r ≡ n * (q * p + r)
    join n q p r = omega arith

-- whole digits and decimals stand for the units that they were made of
exact : (ds fs : List ℕ) (q r places : ℕ) → digits_value 10 ds ≡ q → Spells fs places r
    → round_half_up (digits_value 10 (ds ++ fs) * 1 * 10 ^ places) (10 ^ (length fs + 0)) ≡ q * 10 ^ places + r
exact ds fs q r places value s =
    let n : ℕ = 10 ^ length fs in
    let w : ℕ = 10 ^ (places - length fs) in
    let sum : places ≡ length fs + (places - length fs) = omega (arith, s.few) in
    let power : 10 ^ places ≡ n * w = ap (λ k. 10 ^ k) sum ∙ pow-add 10 (length fs) (places - length fs) in
    let whole : digits_value 10 (ds ++ fs) ≡ q * n + digits_value 10 fs = value_append ds fs ∙ ap (λ x. x * n + digits_value 10 fs) value in
    let above : digits_value 10 (ds ++ fs) * 1 * 10 ^ places ≡ n * (q * 10 ^ places + r) =
    ap (λ x. x * 1 * 10 ^ places) whole ∙ cross q n (digits_value 10 fs) (10 ^ places) w r power s.value in
    let same : length fs + 0 ≡ length fs = omega arith in
    let below : 10 ^ (length fs + 0) ≡ n = ap (λ k. 10 ^ k) same in
    ap (λ x. round_half_up x (10 ^ (length fs + 0))) above ∙ ap (λ x. round_half_up (n * (q * 10 ^ places + r)) x) below ∙ round_whole (q * 10 ^ places + r) n (pow10_pos (length fs))

-- the parts of a text of whole digits and decimals
plain_parts : (text ds : List ℕ) (places rest : ℕ) → behind_sign text ≡ ds ++ point_and_decimals places rest → AllDigits 10 ds → 0 < length ds → rest < 10 ^ places
    → (fs : List ℕ) × Spells fs places rest × (parts_of text ≡ Some (record { negative = has_minus text; whole = ds; fraction = fs; down = false; power = [] }))
plain_parts text ds places rest e all some small =
    elim (cases_lt 0 rest) [
      | inl more ↦
          (let point : point_and_decimals places rest ≡ 46 ∷ decimals places rest = ap (λ (b : Bool). if b then [] else 46 ∷ decimals places rest) (ne_eqb rest 0 (λ z. omega arith)) in
          let s : Spells (decimals places rest) places rest = decimals_spell places rest small in
          (decimals places rest, s, decimal_parts text ds (decimals places rest) (e ∙ ap (λ (l : List ℕ). ds ++ l) point) all s.digits some))
      | inr less ↦
          (let none : rest ≡ 0 = omega arith in
          let point : point_and_decimals places rest ≡ [] = ap (λ (b : Bool). if b then [] else 46 ∷ decimals places rest) (eq-eqb rest 0 none) in
          ([], spells_none places rest none, whole_parts text ds (e ∙ ap (λ (l : List ℕ). ds ++ l) point ∙ append-nil ds) all some))
    ]

-- what is read of a text of a size
size_read : (text : List ℕ) (size places : ℕ) → behind_sign text ≡ shortest_size size places → size < 10 ^ 64 → scaled_of places text ≡ Ok (capped (has_minus text) size)
size_read text size places e small =
    let scale : ℕ = 10 ^ places in
    let q : ℕ = size / scale in
    let r : ℕ = size % scale in
    let less : r < scale = omega (arith, pow10_pos places) in
    let few : q < 10 ^ 64 = omega (arith, div-le_self size scale) in
    let ds : List ℕ = decimal q in
    let numeral : IsNumeral 10 ds × (digits_value 10 ds ≡ q) = decimal_is_IsNumeral_wide q few in
    let plain : (fs : List ℕ) × Spells fs places r × (parts_of text ≡ Some (record { negative = has_minus text; whole = ds; fraction = fs; down = false; power = [] })) =
    plain_parts text ds places r e numeral.0.1 numeral.0.0 less in
    ap (read_by (λ f. Ok (units_of_fraction places f))) plain.2
    ∙ ap (λ x. Ok (capped (has_minus text) x)) (exact ds plain.0 q r places numeral.1 plain.1 ∙ div-add-mod' size scale)

unsigned_size : (size places : ℕ) → size < 10 ^ 64 → Unsigned (shortest_size size places)
unsigned_size size places small =
    let numeral : IsNumeral 10 (decimal (size / 10 ^ places)) × (digits_value 10 (decimal (size / 10 ^ places)) ≡ size / 10 ^ places) =
    decimal_is_IsNumeral_wide (size / 10 ^ places) (omega (arith, div-le_self size (10 ^ places))) in
    unsigned_digits (decimal (size / 10 ^ places)) (point_and_decimals places (size % 10 ^ places)) numeral.0.1 numeral.0.0

pub capped_self : (n : ℕ) → n ≤ largest → min n largest ≡ n
capped_self n small = omega arith

-- reading the shortest text gives the units back
pub shortest_reads : (v : ℤ) (places : ℕ) → unsigned_abs v ≤ largest → scaled_of places (shortest v places) ≡ Ok v
shortest_reads (pos size) places small =
    let u : Unsigned (shortest_size size places) = unsigned_size size places (omega arith) in
    size_read (shortest_size size places) size places u.rest (omega arith) ∙ ap (λ (b : Bool). Ok (capped b size)) u.plus ∙ ap (λ k. Ok (pos k)) (capped_self size small)
shortest_reads (negsuc size) places small =
    size_read (45 ∷ shortest_size (suc size) places) (suc size) places refl (omega arith) ∙ ap (λ k. Ok (neg_ℤ (pos k))) (capped_self (suc size) small)

-- at no places it is the decimal text
whole_size : (size : ℕ) → shortest_size size 0 ≡ decimal size
whole_size size =
    let whole : size / 1 ≡ size = omega arith in
    ap (λ (b : Bool). decimal (size / 1) ++ (if b then [] else 46 ∷ decimals 0 (size % 1))) (eq-eqb (size % 1) 0 (omega arith))
    ∙ append-nil (decimal (size / 1)) ∙ ap decimal whole

pub shortest_whole : (v : ℤ) → shortest v 0 ≡ signed_decimal v
shortest_whole (pos size) = whole_size size
shortest_whole (negsuc size) = ap (λ (l : List ℕ). 45 ∷ l) (whole_size (suc size))

whole_unsigned : (size : ℕ) → size ≤ largest → (text : List ℕ) → behind_sign text ≡ decimal size → whole_of text ≡ Ok (capped (has_minus text) size)
whole_unsigned size small text e =
    let numeral : IsNumeral 10 (decimal size) × (digits_value 10 (decimal size) ≡ size) = decimal_is_IsNumeral_wide size (omega arith) in
    whole_digits text (decimal size) e numeral.0.1 numeral.0.0 ∙ ap (λ x. Ok (capped (has_minus text) x)) numeral.1

-- reading the decimal text of a whole number gives it back
pub decimal_reads : (v : ℤ) → unsigned_abs v ≤ largest → whole_of (signed_decimal v) ≡ Ok v
decimal_reads (pos size) small =
    let numeral : IsNumeral 10 (decimal size) × (digits_value 10 (decimal size) ≡ size) = decimal_is_IsNumeral_wide size (omega arith) in
    let u : Unsigned (decimal size) = subst (λ (l : List ℕ). Unsigned l) (append-nil (decimal size)) (unsigned_digits (decimal size) [] numeral.0.1 numeral.0.0) in
    whole_unsigned size small (decimal size) u.rest ∙ ap (λ (b : Bool). Ok (capped b size)) u.plus ∙ ap (λ k. Ok (pos k)) (capped_self size small)
decimal_reads (negsuc size) small =
    whole_unsigned (suc size) small (45 ∷ decimal (suc size)) refl ∙ ap (λ k. Ok (neg_ℤ (pos k))) (capped_self (suc size) small)
