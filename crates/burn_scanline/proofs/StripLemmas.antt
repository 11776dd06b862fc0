-- The rows whose strips begin below a height, and those whose strips end above it.
use Rattle.std.proofs.Common.{◌≡◌, ℕ, ℤ, ◌+◌, ◌-◌, ◌<◌, refl, sym, ap, ◌∙◌, pos, negsuc, ◌+ℤ◌, ◌-ℤ◌, ◌*ℤ◌, arith}
use Rattle.std.specs.Prelude.{int_le, int_lt, nat_le, nat_lt}
use Rattle.std.proofs.lemmas.Bool.Decides.{nat_tests}
use Rattle.std.proofs.lemmas.Int.{ints}
use Rattle.geo_transform.specs.Frame.{IsFrame}
use Rattle.geo_transform.specs.Corner.{corner_of}
use Rattle.geo_transform.specs.declared.frame.Frame.{Frame}
use Rattle.burn_scanline.specs.Steps.{IsLeastSteps}

height_by : (y : ℤ) (s v r : ℕ) → y +ℤ pos (v + r) *ℤ pos s ≡ (y +ℤ pos v *ℤ pos s) +ℤ pos s *ℤ pos r
height_by y s v r = omega (arith, ints)

-- so many rows further down
lower_by : (f : Frame) (s row from to : ℕ) → f.cell ≡ pos s → from ≡ to + row → f.yll +ℤ pos from *ℤ f.cell ≡ (f.yll +ℤ pos to *ℤ f.cell) +ℤ f.cell *ℤ pos row
lower_by f s row from to is more = rw (is, more) (height_by f.yll s to row)

past_test : (y top p h reach : ℤ) (k row : ℕ) → top ≡ h +ℤ p → reach ≡ (top -ℤ y) +ℤ pos 1 → int_le reach p ≡ nat_le k row → int_lt h y ≡ nat_le k row
past_test y top p h reach k row is is_reach test = grind (arith, ints, nat_tests)

reaching_test : (y top p h reach : ℤ) (k row : ℕ) → top ≡ h +ℤ p → reach ≡ top -ℤ y → int_le reach p ≡ nat_le k row → int_lt y h ≡ nat_lt row k
reaching_test y top p h reach k row is is_reach test = grind (arith, ints, nat_tests)

pub strip_past : (f : Frame) (y reach size : ℤ) (k : ℕ) → IsFrame f → size ≡ f.cell → reach ≡ ((corner_of f 1 0).1 -ℤ y) +ℤ pos 1 → IsLeastSteps reach size f.nrows k
    → (row : ℕ) → row < f.nrows → int_lt (corner_of f (row + 1) 0).1 y ≡ nat_le k row
strip_past f y reach size k is is_size is_reach steps row in_rows = elim f.cell as (λ z. f.cell ≡ z → int_lt (corner_of f (row + 1) 0).1 y ≡ nat_le k row) [
  | pos s ↦ λ cell. past_test y (corner_of f 1 0).1 (f.cell *ℤ pos row) (corner_of f (row + 1) 0).1 reach k row
      (lower_by f s row (f.nrows - 1) (f.nrows - (row + 1)) cell (omega (arith, in_rows))) is_reach (ap (λ (z : ℤ). int_le reach (z *ℤ pos row)) (sym is_size) ∙ steps.at row in_rows)
  | negsuc s ↦ λ cell. absurd (omega (arith, ints, is.some_size, cell))
] refl

pub strip_reaching : (f : Frame) (y reach size : ℤ) (k : ℕ) → IsFrame f → size ≡ f.cell → reach ≡ (corner_of f 0 0).1 -ℤ y → IsLeastSteps reach size f.nrows k
    → (row : ℕ) → row < f.nrows → int_lt y (corner_of f row 0).1 ≡ nat_lt row k
strip_reaching f y reach size k is is_size is_reach steps row in_rows = elim f.cell as (λ z. f.cell ≡ z → int_lt y (corner_of f row 0).1 ≡ nat_lt row k) [
  | pos s ↦ λ cell. reaching_test y (corner_of f 0 0).1 (f.cell *ℤ pos row) (corner_of f row 0).1 reach k row
      (lower_by f s row (f.nrows - 0) (f.nrows - row) cell (omega (arith, in_rows))) is_reach (ap (λ (z : ℤ). int_le reach (z *ℤ pos row)) (sym is_size) ∙ steps.at row in_rows)
  | negsuc s ↦ λ cell. absurd (omega (arith, ints, is.some_size, cell))
] refl
