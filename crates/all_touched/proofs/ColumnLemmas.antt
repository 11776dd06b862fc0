-- The columns of a frame whose sides are past a width, or before it.
use Rattle.std.proofs.Common.{◌≡◌, ℕ, ℤ, ◌+◌, ◌<◌, ◌<ℤ◌, ◌≤ℤ◌, Bool, refl, sym, ap, ◌∙◌, pos, negsuc, ◌+ℤ◌, ◌-ℤ◌, ◌*ℤ◌, arith}
use Rattle.std.specs.Prelude.{◌&&◌, int_le, int_lt, nat_le, nat_lt}
use Rattle.std.specs.Int.{int_max, int_min}
use Rattle.std.proofs.lemmas.Bool.Decides.{nat_tests}
use Rattle.std.proofs.lemmas.Int.{ints}
use Rattle.geo_transform.specs.Frame.{IsFrame}
use Rattle.geo_transform.specs.Corner.{corner_of}
use Rattle.geo_transform.specs.declared.frame.Frame.{Frame}
use Rattle.burn_scanline.specs.Steps.{IsLeastSteps}
use Rattle.wkt_text.specs.declared.geometry.Pt.{Pt}
use Rattle.all_touched.specs.Inner.Stretch.{IsAcross, IsEndBefore, IsFirstPast, is_from_to}
use Rattle.all_touched.specs.Touched.{meets_column}

right_by : (x : ℤ) (s c : ℕ) → x +ℤ pos (c + 1) *ℤ pos s ≡ (x +ℤ pos 1 *ℤ pos s) +ℤ pos s *ℤ pos c
right_by x s c = omega (arith, ints)

left_by : (x : ℤ) (s c : ℕ) → x +ℤ pos c *ℤ pos s ≡ (x +ℤ pos 0 *ℤ pos s) +ℤ pos s *ℤ pos c
left_by x s c = omega (arith, ints)

-- a column's sides, so many steps from those of the first
pub right_side : (f : Frame) (col : ℕ) → IsFrame f → (corner_of f 0 (col + 1)).0 ≡ (corner_of f 0 1).0 +ℤ f.cell *ℤ pos col
right_side f col is = elim f.cell as (λ z. f.cell ≡ z → (corner_of f 0 (col + 1)).0 ≡ (corner_of f 0 1).0 +ℤ f.cell *ℤ pos col) [
  | pos s ↦ λ cell. rw cell (right_by f.xll s col)
  | negsuc s ↦ λ cell. absurd (omega (arith, ints, is.some_size, cell))
] refl

pub left_side : (f : Frame) (col : ℕ) → IsFrame f → (corner_of f 0 col).0 ≡ (corner_of f 0 0).0 +ℤ f.cell *ℤ pos col
left_side f col is = elim f.cell as (λ z. f.cell ≡ z → (corner_of f 0 col).0 ≡ (corner_of f 0 0).0 +ℤ f.cell *ℤ pos col) [
  | pos s ↦ λ cell. rw cell (left_by f.xll s col)
  | negsuc s ↦ λ cell. absurd (omega (arith, ints, is.some_size, cell))
] refl

past_test : (x first p here reach : ℤ) (k col : ℕ) → here ≡ first +ℤ p → reach ≡ (x -ℤ first) +ℤ pos 1 → int_le reach p ≡ nat_le k col → int_lt x here ≡ nat_le k col
past_test x first p here reach k col is is_reach test = grind (arith, ints, nat_tests)

before_test : (x first p here reach : ℤ) (k col : ℕ) → here ≡ first +ℤ p → reach ≡ x -ℤ first → int_le reach p ≡ nat_le k col → int_lt here x ≡ nat_lt col k
before_test x first p here reach k col is is_reach test = grind (arith, ints, nat_tests)

pub is_first_past : (f : Frame) (x reach size : ℤ) (k : ℕ) → IsFrame f → size ≡ f.cell → reach ≡ (x -ℤ (corner_of f 0 1).0) +ℤ pos 1
    → IsLeastSteps reach size f.ncols k → IsFirstPast f x k
is_first_past f x reach size k is is_size is_reach steps = record {
  within = steps.within;
  at = λ col in_cols. past_test x (corner_of f 0 1).0 (f.cell *ℤ pos col) (corner_of f 0 (col + 1)).0 reach k col (right_side f col is) is_reach
      (ap (λ (z : ℤ). int_le reach (z *ℤ pos col)) (sym is_size) ∙ steps.at col in_cols);
}

pub is_end_before : (f : Frame) (x reach size : ℤ) (k : ℕ) → IsFrame f → size ≡ f.cell → reach ≡ x -ℤ (corner_of f 0 0).0
    → IsLeastSteps reach size f.ncols k → IsEndBefore f x k
is_end_before f x reach size k is is_size is_reach steps = record {
  within = steps.within;
  at = λ col in_cols. before_test x (corner_of f 0 0).0 (f.cell *ℤ pos col) (corner_of f 0 col).0 reach k col (left_side f col is) is_reach
      (ap (λ (z : ℤ). int_le reach (z *ℤ pos col)) (sym is_size) ∙ steps.at col in_cols);
}

-- the widths of an edge

is_across : (f : Frame) (a b : Pt) (left right : ℤ) (from to : ℕ) → int_min a.x b.x ≡ left → int_max a.x b.x ≡ right
    → IsFirstPast f left from → IsEndBefore f right to → IsAcross f (a, b) from to
is_across f a b left right from to is_left is_right past before = record {
  from_within = past.within;
  to_within = before.within;
  at = λ col in_cols.
      ap (λ (z : ℤ). int_lt z (corner_of f 0 (col + 1)).0 && int_lt (corner_of f 0 col).0 (int_max a.x b.x)) is_left
      ∙ ap (λ (z : ℤ). int_lt left (corner_of f 0 (col + 1)).0 && int_lt (corner_of f 0 col).0 z) is_right
      ∙ ap (λ (p : Bool). p && int_lt (corner_of f 0 col).0 right) (past.at col in_cols)
      ∙ ap (λ (p : Bool). nat_le from col && p) (before.at col in_cols);
}

pub across_right : (f : Frame) (a b : Pt) (from to : ℕ) → a.x <ℤ b.x → IsFirstPast f a.x from → IsEndBefore f b.x to → IsAcross f (a, b) from to
across_right f a b from to less past before = is_across f a b a.x b.x from to (least a.x b.x less) (most a.x b.x less) past before
  where
    least : (m n : ℤ) → m <ℤ n → int_min m n ≡ m
    least m n is = grind (arith, ints, is)

    most : (m n : ℤ) → m <ℤ n → int_max m n ≡ n
    most m n is = grind (arith, ints, is)

pub across_left : (f : Frame) (a b : Pt) (from to : ℕ) → b.x ≤ℤ a.x → IsFirstPast f b.x from → IsEndBefore f a.x to → IsAcross f (a, b) from to
across_left f a b from to less past before = is_across f a b b.x a.x from to (least a.x b.x less) (most a.x b.x less) past before
  where
    least : (m n : ℤ) → n ≤ℤ m → int_min m n ≡ n
    least m n is = grind (arith, ints, is)

    most : (m n : ℤ) → n ≤ℤ m → int_max m n ≡ m
    most m n is = grind (arith, ints, is)
