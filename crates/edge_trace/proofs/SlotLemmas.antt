-- Slots for the numbers of sides.
use Rattle.std.proofs.Common.{◌≡◌, ◌≢◌, ℕ, zero, suc, ◌+◌, ◌-◌, ◌*◌, ◌/◌, ◌%◌, ◌^◌, ◌<◌, ◌≤◌, inl, inr, List, [], ◌∷◌, ◌++◌, Some, length, length-append, length-set, set, get_or, replicate, ap, sym, ◌∙◌, subst, arith}
use Rattle.std.specs.Prelude.{bit_and, slice_get}
use Rattle.std.proofs.Math.Nat.{mul-le-mul_right}
use Rattle.std.proofs.lemmas.Bool.{cases_eq, cases_lt}
use Rattle.std.proofs.lemmas.List.{get_or-replicate, length-replicate}
use Rattle.std.proofs.lemmas.Nat.{and_mask, div-add-mod', pow_pos}
use Rattle.std.proofs.lemmas.Option.{get_or_from_slice_get, same_Some, slice_get-get_or, slice_get_within}
use Rattle.cell_base.proofs.PlaceLemmas.{element_at}
use Rattle.region_label.proofs.ListLemmas.{at_push_cases, slice_get-set_other, slice_get-set_same}
use Rattle.edge_trace.specs.Inner.Sides.{AreRising}
use Rattle.edge_trace.specs.Inner.Links.{AreFollowed, AreFoundFrom, AreNoted, AreSlots, AreTurns, Follows, IsAbsent, IsCut, IsFollower, IsIfThere, IsLeft, IsPowerOfTwo, IsRight, IsStraight, IsThere, IsWayTo}
use Rattle.edge_trace.specs.declared.links.Turns.{Turns}

pub masked : (m n bits : ℕ) → m ≡ 2 ^ bits → bit_and n (m - 1) ≡ n % m
masked m n bits is = subst (λ (k : ℕ). bit_and n (k - 1) ≡ n % k) (sym is) (and_mask n bits)

-- numbers that are less apart than there are slots have different slots
pub apart_slots : (m x y : ℕ) → x < y → y < x + m → x % m ≢ y % m
apart_slots m x y less near same =
    let of_x = div-add-mod' x m in
    let of_y = div-add-mod' y m in
    elim (cases_lt (x / m) (y / m)) [
      | inl rises ↦
          let further : (x / m + 1) * m ≤ y / m * m = mul-le-mul_right m (omega (arith, rises)) in
          omega (arith, further, of_x, of_y, same, near)
      | inr no_rise ↦
          let no_further : y / m * m ≤ x / m * m = mul-le-mul_right m no_rise in
          omega (arith, no_further, of_x, of_y, same, less)
    ]

some_slots : (numbers slots : List ℕ) → AreSlots numbers slots → 0 < length slots
some_slots numbers slots are = omega (arith, are.power.1, pow_pos are.power.0)

pub slots_set : (numbers slots : List ℕ) (slot v : ℕ) → AreSlots numbers slots → slot < length slots → v < length numbers → AreSlots numbers (set slots slot v)
slots_set numbers slots slot v are within inside = record {
  power = (are.power.0, length-set slots slot v ∙ are.power.1, are.power.2);
  inside = λ i j at. elim (cases_eq i slot) [
    | inl same ↦
        let here : slice_get (set slots slot v) slot ≡ Some j = ap (slice_get (set slots slot v)) (sym same) ∙ at in
        let value : v ≡ j = same_Some v j (sym (slice_get-set_same slots slot v within) ∙ here) in
        omega (arith, value, inside)
    | inr other ↦ are.inside i j (sym (slice_get-set_other slots slot i v other) ∙ at)
  ];
}

slot_kept : (slots : List ℕ) (slot v x j : ℕ) → x % length slots ≢ slot → slice_get slots (x % length slots) ≡ Some j → slice_get (set slots slot v) (x % length (set slots slot v)) ≡ Some j
slot_kept slots slot v x j other at = ap (λ (n : ℕ). slice_get (set slots slot v) (x % n)) (length-set slots slot v) ∙ slice_get-set_other slots slot (x % length slots) v other ∙ at

-- a number below the window gives its slot up
pub forget_step : (numbers slots : List ℕ) (at y slot old low high filled : ℕ) → AreRising numbers → slice_get numbers at ≡ Some y → old ≤ y → y < low → IsCut numbers high filled → high ≤ old + length slots → slot ≡ y % length slots → AreSlots numbers slots → AreNoted numbers slots low filled → AreSlots numbers (set slots slot 0) × AreNoted numbers (set slots slot 0) low filled
forget_step numbers slots at y slot old low high filled rising at_y past below cut narrow is_slot are noted =
    let some = some_slots numbers slots are in (
      slots_set numbers slots slot 0 are (omega (arith, is_slot, some)) (omega (arith, slice_get_within numbers at y at_y)),
      λ j x before at_x high_enough. slot_kept slots slot 0 x j (λ same. apart_slots (length slots) y x (omega (arith, below, high_enough)) (omega (arith, cut.early j x before at_x, narrow, past)) (sym is_slot ∙ sym same)) (noted j x before at_x high_enough),
    )

-- a number takes its slot
pub note_step : (numbers slots : List ℕ) (at y slot low high : ℕ) → AreRising numbers → slice_get numbers at ≡ Some y → y < high → high ≤ low + length slots → slot ≡ y % length slots → AreSlots numbers slots → AreNoted numbers slots low at → AreSlots numbers (set slots slot at) × AreNoted numbers (set slots slot at) low (at + 1)
note_step numbers slots at y slot low high rising at_y below narrow is_slot are noted =
    let some = some_slots numbers slots are in
    let within : slot < length slots = omega (arith, is_slot, some) in (
      slots_set numbers slots slot at are within (slice_get_within numbers at y at_y),
      λ j x before at_x high_enough. elim (cases_eq j at) [
        | inl same ↦
            let is : x ≡ y = same_Some x y (sym at_x ∙ ap (slice_get numbers) same ∙ at_y) in
            ap (λ (n : ℕ). slice_get (set slots slot at) (x % n)) (length-set slots slot at) ∙ ap (λ (n : ℕ). slice_get (set slots slot at) (n % length slots)) is ∙ ap (slice_get (set slots slot at)) (sym is_slot) ∙ slice_get-set_same slots slot at within ∙ ap (λ (n : ℕ). Some n) (sym same)
        | inr other ↦
            let less : x < y = rising j at x y (omega (arith, before, other)) at_x at_y in
            slot_kept slots slot at x j (λ same. apart_slots (length slots) x y less (omega (arith, below, narrow, high_enough)) (same ∙ is_slot)) (noted j x (omega (arith, before, other)) at_x high_enough)
      ],
    )

pub read_at : (xs : List ℕ) (i x : ℕ) → i < length xs → x ≡ get_or xs i x → slice_get xs i ≡ Some x
read_at xs i x within is = slice_get-get_or xs i x within ∙ ap (λ (y : ℕ). Some y) (sym is)

-- what stands in the slot of a number
pub in_slot : (numbers slots : List ℕ) (slot t : ℕ) → AreSlots numbers slots → slot ≡ t % length slots → slice_get slots (t % length slots) ≡ Some (get_or slots slot 0)
in_slot numbers slots slot t are is = ap (slice_get slots) (sym is) ∙ slice_get-get_or slots slot 0 (omega (arith, is, some_slots numbers slots are))

pub slot_inside : (numbers slots : List ℕ) (slot t : ℕ) → AreSlots numbers slots → slot ≡ t % length slots → get_or slots slot 0 < length numbers
slot_inside numbers slots slot t are is = are.inside (t % length slots) (get_or slots slot 0) (in_slot numbers slots slot t are is)

-- a side near another is at the index in its slot, or nowhere

abbrev pub IsNear : ℕ → ℕ → ℕ → Type 0
IsNear stride x t = (x ≤ t + (4 * stride + 5)) × (t ≤ x + (4 * stride + 3))

pub right_near : (stride side x t : ℕ) → IsRight stride side x t → IsNear stride x t
right_near stride zero x t is = (omega (arith, is), omega (arith, is))
right_near stride (suc zero) x t is = (omega (arith, is), omega (arith, is))
right_near stride (suc (suc zero)) x t is = (omega (arith, is), omega (arith, is))
right_near stride (suc (suc (suc side))) x t is = (omega (arith, is), omega (arith, is))

pub straight_near : (stride side x t : ℕ) → IsStraight stride side x t → 1 ≤ stride → IsNear stride x t
straight_near stride zero x t is some = (omega (arith, is), omega (arith, is))
straight_near stride (suc zero) x t is some = (omega (arith, is), omega (arith, is, some))
straight_near stride (suc (suc zero)) x t is some = (omega (arith, is), omega (arith, is))
straight_near stride (suc (suc (suc side))) x t is some = (omega (arith, is), omega (arith, is))

pub left_near : (stride side x t : ℕ) → IsLeft side x t → IsNear stride x t
left_near stride zero x t is = (omega (arith, is), omega (arith, is))
left_near stride (suc zero) x t is = (omega (arith, is), omega (arith, is))
left_near stride (suc (suc zero)) x t is = (omega (arith, is), omega (arith, is))
left_near stride (suc (suc (suc side))) x t is = (omega (arith, is), omega (arith, is))

there_if : (stride : ℕ) (numbers owners slots : List ℕ) (e x k slot t : ℕ) → AreSlots numbers slots → AreFoundFrom stride numbers slots e → slice_get numbers e ≡ Some x → slot ≡ t % length slots → IsNear stride x t → IsIfThere numbers owners k t (get_or slots slot 0)
there_if stride numbers owners slots e x k slot t are found at is near i there = same_Some i (get_or slots slot 0) (sym (found x i t at there.0 near.0 near.1) ∙ in_slot numbers slots slot t are is)

absent_if : (numbers owners : List ℕ) (k t j : ℕ) → IsIfThere numbers owners k t j → ¬ IsThere numbers owners k t j → IsAbsent numbers owners k t
absent_if numbers owners k t j only none i there = none (subst (λ (n : ℕ). IsThere numbers owners k t n) (only i there) there)

-- a way to what stands at an index
pub way_there : (numbers owners : List ℕ) (k t j way : ℕ) → way / 4 ≡ j → way % 4 ≡ t % 4 → IsThere numbers owners k t j → IsWayTo numbers owners k t way
way_there numbers owners k t j way index side there = (subst (λ (i : ℕ). IsThere numbers owners k t i) (sym index) there, side)

-- what follows a side, told by what was read
follows_read : (stride : ℕ) (numbers owners : List ℕ) (i x k way : ℕ) (turns : Turns) → slice_get numbers i ≡ Some x → slice_get owners i ≡ Some k → AreTurns stride x turns → IsFollower numbers owners k turns way → Follows stride numbers owners i way
follows_read stride numbers owners i x k way turns at_x at_k are follower y m at_y at_m =
    let same_x : x ≡ y = same_Some x y (sym at_x ∙ at_y) in
    let same_k : k ≡ m = same_Some k m (sym at_k ∙ at_m) in
    (turns, subst (λ (n : ℕ). AreTurns stride n turns) same_x are, subst (λ (n : ℕ). IsFollower numbers owners n turns way) same_k follower)

pub follows_right : (stride : ℕ) (numbers owners : List ℕ) (e x k way : ℕ) (turns : Turns) → slice_get numbers e ≡ Some x → slice_get owners e ≡ Some k → AreTurns stride x turns → IsWayTo numbers owners k turns.right way → Follows stride numbers owners e way
follows_right stride numbers owners e x k way turns at_x at_k are there = follows_read stride numbers owners e x k way turns at_x at_k are (inl there)

pub follows_straight : (stride : ℕ) (numbers owners slots : List ℕ) (e x k slot way : ℕ) (turns : Turns) → AreSlots numbers slots → AreFoundFrom stride numbers slots e → slice_get numbers e ≡ Some x → slice_get owners e ≡ Some k → AreTurns stride x turns → slot ≡ turns.right % length slots → ¬ IsThere numbers owners k turns.right (get_or slots slot 0) → IsWayTo numbers owners k turns.straight way → Follows stride numbers owners e way
follows_straight stride numbers owners slots e x k slot way turns are_slots found at_x at_k are is_slot none there =
    let only = there_if stride numbers owners slots e x k slot turns.right are_slots found at_x is_slot (right_near stride (x % 4) x turns.right are.right) in
    follows_read stride numbers owners e x k way turns at_x at_k are (inr (absent_if numbers owners k turns.right (get_or slots slot 0) only none, inl there))

pub follows_left : (stride : ℕ) (numbers owners slots : List ℕ) (e x k slot ahead last way : ℕ) (turns : Turns) → 1 ≤ stride → AreSlots numbers slots → AreFoundFrom stride numbers slots e → slice_get numbers e ≡ Some x → slice_get owners e ≡ Some k → AreTurns stride x turns → slot ≡ turns.right % length slots → ¬ IsThere numbers owners k turns.right (get_or slots slot 0) → ahead ≡ turns.straight % length slots → ¬ IsThere numbers owners k turns.straight (get_or slots ahead 0) → last ≡ turns.left % length slots → way / 4 ≡ get_or slots last 0 → way % 4 ≡ turns.left % 4 → Follows stride numbers owners e way
follows_left stride numbers owners slots e x k slot ahead last way turns some are_slots found at_x at_k are is_slot none is_ahead none_ahead is_last index side =
    let only = there_if stride numbers owners slots e x k slot turns.right are_slots found at_x is_slot (right_near stride (x % 4) x turns.right are.right) in
    let only_ahead = there_if stride numbers owners slots e x k ahead turns.straight are_slots found at_x is_ahead (straight_near stride (x % 4) x turns.straight are.straight some) in
    let only_last = subst (λ (j : ℕ). IsIfThere numbers owners k turns.left j) (sym index) (there_if stride numbers owners slots e x k last turns.left are_slots found at_x is_last (left_near stride (x % 4) x turns.left are.left)) in
    follows_read stride numbers owners e x k way turns at_x at_k are (inr (absent_if numbers owners k turns.right (get_or slots slot 0) only none, inr (absent_if numbers owners k turns.straight (get_or slots ahead 0) only_ahead none_ahead, (only_last, side))))

-- one more side is linked
pub followed_push : (stride : ℕ) (numbers owners ways : List ℕ) (j : ℕ) → AreFollowed stride numbers owners ways → length ways < length numbers → Follows stride numbers owners (length ways) j → AreFollowed stride numbers owners (ways ++ j ∷ [])
followed_push stride numbers owners ways j are within follows = record {
  within = omega (arith, length-append ways (j ∷ []), within);
  follows = λ i m at. elim (at_push_cases ways j i m at) [
    | inl old ↦ are.follows i m old
    | inr new ↦ subst (λ (n : ℕ). Follows stride numbers owners i n) (sym new.1) (subst (λ (n : ℕ). Follows stride numbers owners n j) (sym new.0) follows)
  ];
}

-- the numbers near a side of the row stand in their slots
pub found_in : (stride : ℕ) (numbers slots : List ℕ) (here low high filled e : ℕ) → IsCut numbers high filled → AreNoted numbers slots low filled → low ≤ here - (4 * stride + 5) → here + (8 * stride + 4) ≤ high → ((x : ℕ) → slice_get numbers e ≡ Some x → (here ≤ x) × (x < here + 4 * stride)) → AreFoundFrom stride numbers slots e
found_in stride numbers slots here low high filled e cut noted is_low is_high in_row x i t at_x at_t above below =
    let row = in_row x at_x in
    let before : i < filled = elim (cases_lt i filled) [
      | inl less ↦ less
      | inr past ↦ absurd (omega (arith, cut.late i t past at_t, is_high, row.1, below))
    ] in
    noted i t before at_t (omega (arith, is_low, row.0, above))

-- no number is noted in empty slots
pub slots_empty : (numbers : List ℕ) (n : ℕ) → IsPowerOfTwo n → 0 < length numbers → AreSlots numbers (replicate n 0)
slots_empty numbers n power some = record {
  power = (power.0, length-replicate n 0 ∙ power.1, power.2);
  inside = λ i j at.
      let within : i < n = omega (arith, slice_get_within (replicate n 0) i j at, length-replicate {A = ℕ} n 0) in
      let zero_is : j ≡ 0 = sym (get_or_from_slice_get (replicate n 0) i j 0 at) ∙ get_or-replicate n i 0 0 within in
      omega (arith, zero_is, some);
}

-- the numbers of the rows before a bound are all
pub all_linked : (numbers : List ℕ) (bound at : ℕ) → IsCut numbers bound at → ((i x : ℕ) → slice_get numbers i ≡ Some x → x < bound) → at ≡ length numbers
all_linked numbers bound at cut below = elim (cases_lt at (length numbers)) [
  | inl less ↦
      let here = element_at numbers at less in
      absurd (omega (arith, cut.late at here.0 (omega arith) here.1, below at here.0 here.1))
  | inr past ↦ omega (arith, past, cut.within)
]

-- a search has come to where the numbers below a bound end
pub cut_here : (numbers : List ℕ) (bound at : ℕ) → AreRising numbers → at ≤ length numbers → ((j x : ℕ) → j < at → slice_get numbers j ≡ Some x → x < bound) → (at < length numbers → bound ≤ get_or numbers at 0) → IsCut numbers bound at
cut_here numbers bound at rising within early late = record {
  within = within;
  early = early;
  late = λ j x past at_x.
      let here : at < length numbers = omega (arith, slice_get_within numbers j x at_x, past) in
      let bounded = late here in
      let at_here = slice_get-get_or numbers at 0 here in
      elim (cases_eq at j) [
        | inl same ↦
            let is : get_or numbers at 0 ≡ x = same_Some (get_or numbers at 0) x (sym at_here ∙ ap (slice_get numbers) same ∙ at_x) in
            omega (arith, is, bounded)
        | inr other ↦ omega (arith, rising at j (get_or numbers at 0) x (omega (arith, past, other)) at_here at_x, bounded)
      ];
}

-- one more number is below the bound
pub early_more : (numbers : List ℕ) (bound at y : ℕ) → ((j x : ℕ) → j < at → slice_get numbers j ≡ Some x → x < bound) → slice_get numbers at ≡ Some y → y < bound → (j x : ℕ) → j < at + 1 → slice_get numbers j ≡ Some x → x < bound
early_more numbers bound at y early at_y below j x less at_x = elim (cases_eq j at) [
  | inl same ↦
      let is : x ≡ y = same_Some x y (sym at_x ∙ ap (slice_get numbers) same ∙ at_y) in
      omega (arith, is, below)
  | inr other ↦ early j x (omega (arith, less, other)) at_x
]

pub cut_at : (numbers : List ℕ) (bound at y : ℕ) → AreRising numbers → ((j x : ℕ) → j < at → slice_get numbers j ≡ Some x → x < bound) → slice_get numbers at ≡ Some y → bound ≤ y → IsCut numbers bound at
cut_at numbers bound at y rising early at_y high =
    let within = slice_get_within numbers at y at_y in
    cut_here numbers bound at rising (omega (arith, within)) early (λ less. omega (arith, same_Some (get_or numbers at 0) y (sym (slice_get-get_or numbers at 0 less) ∙ at_y), high))

-- nothing has been linked yet
pub cut_first : (numbers : List ℕ) (bound : ℕ) → ((i x : ℕ) → slice_get numbers i ≡ Some x → bound ≤ x) → IsCut numbers bound 0
cut_first numbers bound low = record {
  within = omega arith;
  early = λ j x before. absurd (omega (arith, before));
  late = λ j x past at_x. low j x at_x;
}

pub followed_none : (stride : ℕ) (numbers owners : List ℕ) → AreFollowed stride numbers owners []
followed_none stride numbers owners = record {
  within = omega arith;
  follows = λ i j at. absurd (omega (arith, slice_get_within {A = ℕ} [] i j at));
}
