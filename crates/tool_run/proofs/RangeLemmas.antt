-- The range of a grid's values, cell by cell.
use Rattle.std.proofs.Common.{◌≡◌, ◌≢◌, ◌∙◌, ◌+◌, ◌⊎◌, ◌≤ℤ◌, inl, inr, ℕ, ℤ, Bool, true, false, if◌then◌else◌, Option, Some, None, refl, sym, ap, subst, arith}
use Rattle.std.specs.Prelude.{int_le}
use Rattle.std.proofs.lemmas.Int.{ints}
use Rattle.std.proofs.lemmas.Bool.{cases_lt}
use Rattle.std.proofs.lemmas.Option.{same_Some}
use Rattle.cell_base.specs.Order.{IsBefore}
use Rattle.cell_base.specs.Raster.{IsRaster, Place, Raster, value_at}
use Rattle.cell_base.proofs.PlaceLemmas.{inside_from_value}
use Rattle.tool_outcome.specs.Contour.{IsRangeOf, IsValueOf}
use Rattle.tool_run.specs.Inner.Ranges.{IsValueBefore, Passes, widened}

-- either of two numbers

either : (Q : ℤ → Type 0) (b : Bool) (x y : ℤ) → Q x → Q y → Q (if b then x else y)
either Q true x y at_x at_y = at_x
either Q false x y at_x at_y = at_y

lower : (b : Bool) (low x v : ℤ) → int_le low x ≡ b → (low ≤ℤ v) ⊎ (v ≡ x) → (if b then low else x) ≤ℤ v
lower true low x v is (inl above) = above
lower true low x v is (inr same) = grind (arith, ints, is, same)
lower false low x v is (inl above) = grind (arith, ints, is, above)
lower false low x v is (inr same) = grind (arith, ints, same)

upper : (b : Bool) (high x v : ℤ) → int_le x high ≡ b → (v ≤ℤ high) ⊎ (v ≡ x) → v ≤ℤ (if b then high else x)
upper true high x v is (inl below) = below
upper true high x v is (inr same) = grind (arith, ints, is, same)
upper false high x v is (inl below) = grind (arith, ints, is, below)
upper false high x v is (inr same) = grind (arith, ints, same)

-- the range of one number more
pub range_more : (P Q : ℤ → Type 0) (range : Option (ℤ × ℤ)) (x : ℤ) → IsRangeOf P range → Q x → ((v : ℤ) → P v → Q v) → ((v : ℤ) → Q v → P v ⊎ (v ≡ x)) → IsRangeOf Q (widened range x)
range_more P Q None x none at_x into from = (
  at_x,
  at_x,
  λ v at. elim (from v at) [
    | inl before ↦ absurd (none v before)
    | inr same ↦ (grind (arith, ints, same), grind (arith, ints, same))
  ],
)
range_more P Q (Some (low, high)) x is at_x into from = (
  either Q (int_le low x) low x (into low is.0) at_x,
  either Q (int_le x high) high x (into high is.1) at_x,
  λ v at. elim (from v at) [
    | inl before ↦ (lower (int_le low x) low x v refl (inl (is.2 v before).0), upper (int_le x high) high x v refl (inl (is.2 v before).1))
    | inr same ↦ (lower (int_le low x) low x v refl (inr same), upper (int_le x high) high x v refl (inr same))
  ],
)

-- the range of the same numbers
pub range_same : (P Q : ℤ → Type 0) (range : Option (ℤ × ℤ)) → IsRangeOf P range → ((v : ℤ) → P v → Q v) → ((v : ℤ) → Q v → P v) → IsRangeOf Q range
range_same P Q None none into from = λ v at. none v (from v at)
range_same P Q (Some (low, high)) is into from = (into low is.0, into high is.1, λ v at. is.2 v (from v at))

-- the places before the next one of a row

before_next : (p : Place) (r c : ℕ) → IsBefore p (r, c) → IsBefore p (r, c + 1)
before_next p r c (inl row) = inl row
before_next p r c (inr (row, col)) = inr (row, omega (arith, col))

next_cases : (p : Place) (r c : ℕ) → IsBefore p (r, c + 1) → IsBefore p (r, c) ⊎ (p ≡ (r, c))
next_cases p r c (inl row) = inl (inl row)
next_cases (a, b) r c (inr (row, col)) = elim (cases_lt b c) [
  | inl less ↦ inl (inr (row, less))
  | inr past ↦
      let same : b ≡ c = omega (arith, col, past) in
      inr (ap (λ (i : ℕ). (i, b)) row ∙ ap (λ (j : ℕ). (r, j)) same)
]

module_value : (cells : Raster ℤ) (p q : Place) (v w : ℤ) → p ≡ q → value_at cells p ≡ Some v → value_at cells q ≡ Some w → v ≡ w
module_value cells p q v w same at_p at_q = same_Some v w (sym at_p ∙ ap (value_at cells) same ∙ at_q)

-- a valid cell more
cell_more : (cells : Raster ℤ) (nodata : Option ℤ) (r c : ℕ) (x : ℤ) (range : Option (ℤ × ℤ)) → value_at cells (r, c) ≡ Some x → nodata ≢ Some x → IsRangeOf (IsValueBefore cells nodata (r, c)) range → IsRangeOf (IsValueBefore cells nodata (r, c + 1)) (widened range x)
cell_more cells nodata r c x range at valid is =
    range_more (IsValueBefore cells nodata (r, c)) (IsValueBefore cells nodata (r, c + 1)) range x is
    ((r, c), inr (refl, omega arith), at, valid)
    (λ v before. (before.0, before_next before.0 r c before.1, before.2, before.3))
    (λ v before. elim (next_cases before.0 r c before.1) [
      | inl less ↦ inl (before.0, less, before.2, before.3)
      | inr same ↦ inr (module_value cells before.0 (r, c) v x same before.2 at)
    ])

-- a cell more that isn't valid
cell_skipped : (cells : Raster ℤ) (nodata : Option ℤ) (r c : ℕ) (x : ℤ) (range : Option (ℤ × ℤ)) → value_at cells (r, c) ≡ Some x → nodata ≡ Some x → IsRangeOf (IsValueBefore cells nodata (r, c)) range → IsRangeOf (IsValueBefore cells nodata (r, c + 1)) range
cell_skipped cells nodata r c x range at invalid is =
    range_same (IsValueBefore cells nodata (r, c)) (IsValueBefore cells nodata (r, c + 1)) range is
    (λ v before. (before.0, before_next before.0 r c before.1, before.2, before.3))
    (λ v before. elim (next_cases before.0 r c before.1) [
      | inl less ↦ (before.0, less, before.2, before.3)
      | inr same ↦ absurd (before.3 (invalid ∙ ap Some (sym (module_value cells before.0 (r, c) v x same before.2 at))))
    ])

-- a cell more
pub cell_passed : (cells : Raster ℤ) (nodata : Option ℤ) (r c : ℕ) (x : ℤ) (before after : Option (ℤ × ℤ)) → value_at cells (r, c) ≡ Some x → Passes nodata x before after → IsRangeOf (IsValueBefore cells nodata (r, c)) before → IsRangeOf (IsValueBefore cells nodata (r, c + 1)) after
cell_passed cells nodata r c x before after at (inl (valid, wider)) is = subst (IsRangeOf (IsValueBefore cells nodata (r, c + 1))) (sym wider) (cell_more cells nodata r c x before at valid is)
cell_passed cells nodata r c x before after at (inr (invalid, same)) is = subst (IsRangeOf (IsValueBefore cells nodata (r, c + 1))) (sym same) (cell_skipped cells nodata r c x before at invalid is)

-- a row more
pub row_more : (cells : Raster ℤ) (nodata : Option ℤ) (r c : ℕ) (range : Option (ℤ × ℤ)) → IsRaster cells → c ≡ cells.ncols → IsRangeOf (IsValueBefore cells nodata (r, c)) range → IsRangeOf (IsValueBefore cells nodata (r + 1, 0)) range
row_more cells nodata r c range shape all is =
    range_same (IsValueBefore cells nodata (r, c)) (IsValueBefore cells nodata (r + 1, 0)) range is
    (λ v before. (
      before.0,
      elim before.1 [
        | inl row ↦ inl (omega (arith, row))
        | inr here ↦ inl (omega (arith, here.0))
      ],
      before.2,
      before.3,
    ))
    (λ v before. (
      before.0,
      elim before.1 [
        | inl row ↦ elim (cases_lt before.0.0 r) [
          | inl less ↦ inl less
          | inr past ↦ inr (omega (arith, row, past), omega (arith, all, (inside_from_value cells before.0 v shape before.2).1))
        ]
        | inr here ↦ absurd (omega (arith, here.1))
      ],
      before.2,
      before.3,
    ))

-- no value stands before the first cell
pub none_before : (cells : Raster ℤ) (nodata : Option ℤ) → IsRangeOf (IsValueBefore cells nodata (0, 0)) None
none_before cells nodata = λ v before. elim before.1 [
  | inl row ↦ absurd (omega (arith, row))
  | inr here ↦ absurd (omega (arith, here.1))
]

-- all rows
pub all_rows : (cells : Raster ℤ) (nodata : Option ℤ) (r : ℕ) (range : Option (ℤ × ℤ)) → IsRaster cells → r ≡ cells.nrows → IsRangeOf (IsValueBefore cells nodata (r, 0)) range → IsRangeOf (IsValueOf cells nodata) range
all_rows cells nodata r range shape all is =
    range_same (IsValueBefore cells nodata (r, 0)) (IsValueOf cells nodata) range is
    (λ v before. (before.0, before.2, before.3))
    (λ v is. (is.0, inl (omega (arith, all, (inside_from_value cells is.0 v shape is.1).0)), is.1, is.2))
