-- Sides and their numbers.
use Rattle.std.proofs.Common.{◌≡◌, ℕ, zero, suc, ◌+◌, ◌-◌, ◌*◌, ◌/◌, ◌%◌, ◌<◌, ◌≤◌, ◌⊎◌, inl, inr, List, Some, length, ap, sym, ◌∙◌, arith}
use Rattle.std.specs.Prelude.{slice_get}
use Rattle.std.proofs.Math.Nat.{mul-le-mul_right}
use Rattle.std.proofs.lemmas.Bool.{cases_lt}
use Rattle.std.proofs.lemmas.Nat.{div-mul-add, mod-mul-add}
use Rattle.std.proofs.lemmas.Option.{slice_get_within}
use Rattle.cell_base.specs.Raster.{Place}
use Rattle.cell_base.specs.Order.{IsBefore}
use Rattle.cell_base.proofs.PlaceLemmas.{element_at}
use Rattle.edge_trace.specs.Inner.Sides.{AreRising, cell_of, side_number}

-- the number of a place and a side
abbrev pub place_number : ℕ → ℕ → ℕ → ℕ → ℕ
place_number stride row col side = (row * stride + col) * 4 + side

pub number_quarter : (n s : ℕ) → s < 4 → (n * 4 + s) / 4 ≡ n
number_quarter n s few = omega (arith, few)

pub number_side : (n s : ℕ) → s < 4 → (n * 4 + s) % 4 ≡ s
number_side n s few = omega (arith, few)

-- the cell of a side's number
pub number_cell : (stride : ℕ) (cell : Place) (side : ℕ) → side < 4 → cell.1 + 1 < stride → cell_of stride (side_number stride cell side) ≡ cell
number_cell stride cell side few narrow =
    let at = (cell.0 + 1) * stride + (cell.1 + 1) in
    let quarter : side_number stride cell side / 4 ≡ at = number_quarter at side few in
    let row : at / stride ≡ cell.0 + 1 = div-mul-add (cell.0 + 1) stride (cell.1 + 1) narrow in
    let col : at % stride ≡ cell.1 + 1 = mod-mul-add (cell.0 + 1) stride (cell.1 + 1) narrow in
    let first : side_number stride cell side / 4 / stride - 1 ≡ cell.0 = ap (λ (n : ℕ). n / stride - 1) quarter ∙ ap (λ (n : ℕ). n - 1) row ∙ omega arith in
    let second : side_number stride cell side / 4 % stride - 1 ≡ cell.1 = ap (λ (n : ℕ). n % stride - 1) quarter ∙ ap (λ (n : ℕ). n - 1) col ∙ omega arith in
    let same : (side_number stride cell side / 4 / stride - 1, side_number stride cell side / 4 % stride - 1) ≡ (cell.0, cell.1) = cc in
    same

-- a number is that of one place and side
pub same_number : (stride a b c d s t : ℕ) → s < 4 → t < 4 → b < stride → d < stride → place_number stride a b s ≡ place_number stride c d t → (a ≡ c) × (b ≡ d) × (s ≡ t)
same_number stride a b c d s t few_s few_t narrow_b narrow_d same =
    let side : s ≡ t = sym (number_side (a * stride + b) s few_s) ∙ ap (λ (n : ℕ). n % 4) same ∙ number_side (c * stride + d) t few_t in
    let place : a * stride + b ≡ c * stride + d = sym (number_quarter (a * stride + b) s few_s) ∙ ap (λ (n : ℕ). n / 4) same ∙ number_quarter (c * stride + d) t few_t in (
      sym (div-mul-add a stride b narrow_b) ∙ ap (λ (n : ℕ). n / stride) place ∙ div-mul-add c stride d narrow_d,
      sym (mod-mul-add a stride b narrow_b) ∙ ap (λ (n : ℕ). n % stride) place ∙ mod-mul-add c stride d narrow_d,
      side,
    )

-- the numbers of an earlier cell are lower
pub number_before : (stride : ℕ) (a b : Place) (s t : ℕ) → s < 4 → a.1 + 1 < stride → IsBefore a b → side_number stride a s < side_number stride b t
number_before stride a b s t few narrow (inl row) =
    let rows : (a.0 + 1 + 1) * stride ≤ (b.0 + 1) * stride = mul-le-mul_right stride (omega (arith, row)) in
    omega (arith, rows, narrow, few)
number_before stride a b s t few narrow (inr col) =
    let rows : (a.0 + 1) * stride ≡ (b.0 + 1) * stride = ap (λ (n : ℕ). (n + 1) * stride) col.0 in
    omega (arith, rows, col.1, few)

-- so the lower of two numbers is that of an earlier cell, or of an earlier side of the same
pub before_number : (stride : ℕ) (a b : Place) (s t : ℕ) → s < 4 → t < 4 → a.1 + 1 < stride → b.1 + 1 < stride → side_number stride a s < side_number stride b t → IsBefore a b ⊎ ((a ≡ b) × (s < t))
before_number stride a b s t few_s few_t narrow_a narrow_b less = elim (cases_lt a.0 b.0) [
  | inl above ↦ inl (inl above)
  | inr not_above ↦ elim (cases_lt b.0 a.0) [
    | inl below ↦ absurd (omega (arith, number_before stride b a t s few_t narrow_b (inl below), less))
    | inr not_below ↦
        let row : a.0 ≡ b.0 = omega (arith, not_above, not_below) in
        elim (cases_lt a.1 b.1) [
          | inl left ↦ inl (inr (row, left))
          | inr not_left ↦ elim (cases_lt b.1 a.1) [
            | inl right ↦ absurd (omega (arith, number_before stride b a t s few_t narrow_b (inr (sym row, right)), less))
            | inr not_right ↦
                let col : a.1 ≡ b.1 = omega (arith, not_left, not_right) in
                let same : (a.0, a.1) ≡ (b.0, b.1) = cc in
                let rows : (a.0 + 1) * stride ≡ (b.0 + 1) * stride = ap (λ (n : ℕ). (n + 1) * stride) row in
                inr (same, omega (arith, rows, col, less))
          ]
        ]
  ]
]

-- rising numbers are at least as large as their indices
pub index_below : (numbers : List ℕ) → AreRising numbers → (i x : ℕ) → slice_get numbers i ≡ Some x → i ≤ x
index_below numbers rising zero x at = omega arith
index_below numbers rising (suc i) x at =
    let before = element_at numbers i (omega (arith, slice_get_within numbers (suc i) x at)) in
    let less : before.0 < x = rising i (suc i) before.0 x (omega arith) before.1 at in
    let below : i ≤ before.0 = index_below numbers rising i before.0 before.1 in
    omega (arith, less, below)

-- so there are no more than the bound of all
pub count_below : (numbers : List ℕ) (bound : ℕ) → AreRising numbers → ((i x : ℕ) → slice_get numbers i ≡ Some x → x < bound) → length numbers ≤ bound
count_below numbers bound rising below = elim (cases_lt 0 (length numbers)) [
  | inr none ↦ omega (arith, none)
  | inl some ↦
      let last = element_at numbers (length numbers - 1) (omega (arith, some)) in
      omega (arith, index_below numbers rising (length numbers - 1) last.0 last.1, below (length numbers - 1) last.0 last.1, some)
]
