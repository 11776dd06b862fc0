-- Where an edge is at the height of a row.
use Rattle.std.proofs.Common.{◌≡◌, ℕ, ℤ, zero, suc, ◌+◌, ◌-◌, ◌*◌, ◌/◌, ◌^◌, ◌<◌, ◌≤◌, ◌≤ℤ◌, ◌<ℤ◌, ◌↔◌, inl, inr, Bool, true, false, Some, refl, sym, ap, ◌∙◌, subst, pos, negsuc, ◌+ℤ◌, ◌-ℤ◌, ◌*ℤ◌, unsigned_abs, arith}
use Rattle.std.proofs.Common.{to_z, of_z, w64}
use Rattle.std.specs.Int.{w128}
use Rattle.std.specs.Prelude.{◌&&◌, ◌||◌, nat_le, nat_lt, int_le, int_lt}
use Rattle.std.proofs.lemmas.Bool.{cases_lt, and_parts}
use Rattle.std.proofs.lemmas.Bool.Decides.{nat_tests}
use Rattle.std.proofs.lemmas.Int.{ints, unsigned_abs-mul}
use Rattle.std.proofs.Math.IntN.{*ℤ-zero}
use Rattle.std.proofs.Math.Nat.{div-lt_iff_lt-mul, mul-le-mul_left, mul-le-mul_right}
use Rattle.geo_transform.specs.Frame.{IsFrame}
use Rattle.geo_transform.specs.Corner.{centre2_of}
use Rattle.geo_transform.specs.declared.frame.Frame.{Frame}
use Rattle.geo_transform.proofs.CornerLemmas.{between}
use Rattle.wkt_text.specs.declared.geometry.Pt.{Pt}
use Rattle.burn_scanline.specs.Centre.{counts, counts_up, doubled, is_between, is_left}
use Rattle.burn_scanline.specs.EdgeTable.{IsSpanned, SpannedEdge}
use Rattle.burn_scanline.specs.Steps.{IsLeastSteps}
use Rattle.burn_scanline.specs.Inner.Crossing.{AreRowsAbove, IsColumnAt, IsTakenFrom, IsUprightAt, is_beside}
use Rattle.burn_scanline.specs.declared.crossing.ActiveEdge.{ActiveEdge}
use Rattle.burn_scanline.specs.declared.edge_rows.SpanRule.TheVariants.{Centre}
use Rattle.burn_scanline.proofs.RunLemmas.{or_none}

-- steps

pub least_none : (reach size : ℤ) (count : ℕ) → pos 0 <ℤ size → reach ≤ℤ pos 0 → IsLeastSteps reach size count 0
least_none reach (pos s) count some low = record { within = omega arith; at = λ n below. grind (arith, ints, nat_tests) }
least_none reach (negsuc s) count some low = absurd (omega (arith, ints, some))

step_test : (r s n short : ℕ) → 0 < s → 0 < r → short ≡ (r - 1) / s → int_le (pos r) (pos s *ℤ pos n) ≡ nat_le (short + 1) n
step_test r s n short some more is =
    let iff : ((r - 1) / s < n) ↔ (r - 1 < n * s) = div-lt_iff_lt-mul some in
    elim (cases_lt short n) [
      | inl below ↦
          let reach : r - 1 < n * s = iff.0 (omega (arith, is, below)) in
          grind (arith, ints, nat_tests, reach)
      | inr above ↦ elim (cases_lt (r - 1) (n * s)) [
        | inl reach ↦ absurd (omega (arith, iff.1 reach, is, above))
        | inr past ↦ grind (arith, ints, nat_tests, past)
      ]
    ]

pub least_some : (reach size : ℤ) (r s count short : ℕ) → reach ≡ pos r → size ≡ pos s → 0 < s → 0 < r → short ≡ (r - 1) / s → short < count → IsLeastSteps reach size count (short + 1)
least_some reach size r s count short is_reach is_size some more is below = rw (is_reach, is_size) (record { within = omega (arith, below); at = λ n in_count. step_test r s n short some more is })

pub least_all : (reach size : ℤ) (r s count short : ℕ) → reach ≡ pos r → size ≡ pos s → 0 < s → 0 < r → short ≡ (r - 1) / s → count ≤ short → IsLeastSteps reach size count count
least_all reach size r s count short is_reach is_size some more is above = rw (is_reach, is_size) (record {
  within = omega arith;
  at = λ n in_count.
      let test = step_test r s n short some more is in
      let past : nat_le (short + 1) n ≡ nat_le count n = grind (arith, nat_tests) in
      test ∙ past;
})

-- the centres of a frame

pub centre_within : (f : Frame) (row col : ℕ) → IsFrame f → row < f.nrows → col < f.ncols → (unsigned_abs (centre2_of f row col).0 ≤ 8 * 10 ^ 17) × (unsigned_abs (centre2_of f row col).1 ≤ 8 * 10 ^ 17)
centre_within f row col is in_row in_col =
    let left = (between f.xll f.cell f.ncols col is.some_size (omega (arith, in_col)) is.left is.right).end in
    let right = (between f.xll f.cell f.ncols (col + 1) is.some_size (omega (arith, in_col)) is.left is.right).end in
    let upper = (between f.yll f.cell f.nrows (f.nrows - row) is.some_size (omega arith) is.lower is.upper).end in
    let lower = (between f.yll f.cell f.nrows (f.nrows - (row + 1)) is.some_size (omega arith) is.lower is.upper).end in
    (omega (arith, ints, left.low, left.high, right.low, right.high), omega (arith, ints, upper.low, upper.high, lower.low, lower.high))

height_by : (y : ℤ) (s v r : ℕ) → (y +ℤ pos (v + 1) *ℤ pos s) +ℤ (y +ℤ pos v *ℤ pos s) ≡ ((y +ℤ pos ((v + r) + 1) *ℤ pos s) +ℤ (y +ℤ pos (v + r) *ℤ pos s)) -ℤ (pos 2 *ℤ pos s) *ℤ pos r
height_by y s v r = omega (arith, ints)

heights : (f : Frame) (s row : ℕ) → f.cell ≡ pos s → row < f.nrows → (centre2_of f row 0).1 ≡ (centre2_of f 0 0).1 -ℤ (pos 2 *ℤ f.cell) *ℤ pos row
heights f s row is in_row =
    let v : ℕ = f.nrows - (row + 1) in
    let one : f.nrows - row ≡ v + 1 = omega arith in
    let two : f.nrows - 0 ≡ (v + row) + 1 = omega arith in
    let three : f.nrows - (0 + 1) ≡ v + row = omega arith in
    rw (is, one, two, three) (height_by f.yll s v row)

left_by : (x : ℤ) (s c : ℕ) → (x +ℤ pos c *ℤ pos s) +ℤ (x +ℤ pos (c + 1) *ℤ pos s) ≡ ((x +ℤ pos 0 *ℤ pos s) +ℤ (x +ℤ pos (0 + 1) *ℤ pos s)) +ℤ (pos 2 *ℤ pos s) *ℤ pos c
left_by x s c = omega (arith, ints)

lefts : (f : Frame) (s row col : ℕ) → f.cell ≡ pos s → (centre2_of f row col).0 ≡ (centre2_of f row 0).0 +ℤ (pos 2 *ℤ f.cell) *ℤ pos col
lefts f s row col is = rw is (left_by f.xll s col)

row_test : (y top p h : ℤ) (k row : ℕ) → h ≡ top -ℤ p → int_le ((top -ℤ y) +ℤ pos 1) p ≡ nat_le k row → int_le y h ≡ nat_lt row k
row_test y top p h k row is test = grind (arith, ints, nat_tests)

pub rows_are : (f : Frame) (y reach size : ℤ) (k : ℕ) → IsFrame f → reach ≡ ((centre2_of f 0 0).1 -ℤ pos 2 *ℤ y) +ℤ pos 1 → size ≡ pos 2 *ℤ f.cell → IsLeastSteps reach size f.nrows k → AreRowsAbove f y k
rows_are f y reach size k is is_reach is_size steps = record {
  within = steps.within;
  at = λ row in_row. elim f.cell as (λ z. f.cell ≡ z → int_le (pos 2 *ℤ y) (centre2_of f row 0).1 ≡ nat_lt row k) [
    | pos s ↦ λ cell.
        let test : int_le (((centre2_of f 0 0).1 -ℤ pos 2 *ℤ y) +ℤ pos 1) ((pos 2 *ℤ f.cell) *ℤ pos row) ≡ nat_le k row = ap (λ (z : ℤ). int_le z ((pos 2 *ℤ f.cell) *ℤ pos row)) (sym is_reach) ∙ ap (λ (z : ℤ). int_le reach (z *ℤ pos row)) (sym is_size) ∙ steps.at row in_row in
        row_test (pos 2 *ℤ y) (centre2_of f 0 0).1 ((pos 2 *ℤ f.cell) *ℤ pos row) (centre2_of f row 0).1 k row (heights f s row cell in_row) test
    | negsuc s ↦ λ cell. absurd (omega (arith, ints, is.some_size, cell))
  ] refl;
}

-- an upright edge

zero_times : (e : ℤ) → pos 0 *ℤ e ≡ pos 0
zero_times (pos n) = ap pos (omega arith)
zero_times (negsuc n) = omega (arith, ints)

cross_positive : (w : ℤ) (d : ℕ) → 0 < d → int_le (pos 0) (w *ℤ pos d) ≡ int_le (pos 0) w
cross_positive (pos w) d some = grind (arith, ints)
cross_positive (negsuc w) d some =
    let more : 1 * d ≤ suc w * d = mul-le-mul_right d (omega arith) in
    grind (arith, ints, more)

cross_test : (z e w d : ℤ) → z ≡ pos 0 → pos 0 <ℤ d → int_le (z *ℤ e) (w *ℤ d) ≡ int_le (pos 0) w
cross_test z e w (pos d) none positive = ap (λ (x : ℤ). int_le (x *ℤ e) (w *ℤ pos d)) none ∙ ap (λ (x : ℤ). int_le x (w *ℤ pos d)) (zero_times e) ∙ cross_positive w d (omega (arith, ints, positive))
cross_test z e w (negsuc d) none positive = absurd (omega (arith, ints, positive))

rises : (a h b : ℤ) → (int_le a h && int_lt h b) ≡ true → (a ≤ℤ h) × (h <ℤ b)
rises a h b is =
    let parts = and_parts (int_le a h) (int_lt h b) is in
    (grind (arith, ints, parts.0), grind (arith, ints, parts.1))

column_test : (x left p here : ℤ) (k col : ℕ) → here ≡ left +ℤ p → int_le (x -ℤ left) p ≡ nat_le k col → int_le (pos 0) (here -ℤ x) ≡ nat_le k col
column_test x left p here k col is test = grind (arith, ints, nat_tests)

pub upright_is : (f : Frame) (x reach size : ℤ) (k : ℕ) → IsFrame f → reach ≡ pos 2 *ℤ x -ℤ (centre2_of f 0 0).0 → size ≡ pos 2 *ℤ f.cell → IsLeastSteps reach size f.ncols k → IsUprightAt f x k
upright_is f x reach size k is is_reach is_size steps = λ low high row is_low is_high beside. record {
  within = steps.within;
  at = λ col in_col. elim f.cell as (λ z. f.cell ≡ z → is_left (centre2_of f row col) (doubled low) (doubled high) ≡ nat_le k col) [
    | pos s ↦ λ cell.
        let centre = centre2_of f row col in
        let apart = rises (pos 2 *ℤ low.y) centre.1 (pos 2 *ℤ high.y) beside in
        let none : pos 2 *ℤ high.x -ℤ pos 2 *ℤ low.x ≡ pos 0 = omega (arith, ints, is_low, is_high) in
        let test : int_le (pos 2 *ℤ low.x -ℤ (centre2_of f row 0).0) ((pos 2 *ℤ f.cell) *ℤ pos col) ≡ nat_le k col = ap (λ (z : ℤ). int_le (pos 2 *ℤ z -ℤ (centre2_of f row 0).0) ((pos 2 *ℤ f.cell) *ℤ pos col)) is_low ∙ ap (λ (z : ℤ). int_le z ((pos 2 *ℤ f.cell) *ℤ pos col)) (sym is_reach) ∙ ap (λ (z : ℤ). int_le reach (z *ℤ pos col)) (sym is_size) ∙ steps.at col in_col in
        cross_test (pos 2 *ℤ high.x -ℤ pos 2 *ℤ low.x) (centre.1 -ℤ pos 2 *ℤ low.y) (centre.0 -ℤ pos 2 *ℤ low.x) (pos 2 *ℤ high.y -ℤ pos 2 *ℤ low.y) none (omega (arith, ints, apart.0, apart.1))
        ∙ column_test (pos 2 *ℤ low.x) (centre2_of f row 0).0 ((pos 2 *ℤ f.cell) *ℤ pos col) centre.0 k col (lefts f s row col cell) test
    | negsuc s ↦ λ cell. absurd (omega (arith, ints, is.some_size, cell))
  ] refl;
}

-- a slanted edge

times_suc : (a : ℤ) (d : ℕ) → a *ℤ pos (suc d) ≡ a *ℤ pos d +ℤ a
times_suc (pos a) d = omega (arith, ints)
times_suc (negsuc a) d = omega (arith, ints)

pub distributes : (a b : ℤ) (d : ℕ) → (a +ℤ b) *ℤ pos d ≡ a *ℤ pos d +ℤ b *ℤ pos d
distributes a b zero = omega (arith, ints, *ℤ-zero (a +ℤ b), *ℤ-zero a, *ℤ-zero b)
distributes a b (suc d) = omega (arith, ints, times_suc (a +ℤ b) d, times_suc a d, times_suc b d, distributes a b d)

pub times_sum : (a : ℤ) (d e : ℕ) → a *ℤ pos (d + e) ≡ a *ℤ pos d +ℤ a *ℤ pos e
times_sum a zero e = omega (arith, ints, *ℤ-zero a)
times_sum a (suc d) e = omega (arith, ints, times_suc a (d + e), times_suc a d, times_sum a d e)

twice_le : (a b c : ℤ) → int_le (a +ℤ a) ((b +ℤ c) +ℤ (b +ℤ c)) ≡ int_le (a -ℤ b) c
twice_le a b c = grind (arith, ints)

twice : (a b : ℤ) → pos 2 *ℤ a -ℤ pos 2 *ℤ b ≡ (a -ℤ b) +ℤ (a -ℤ b)
twice a b = omega (arith, ints)

swapped : (t n d : ℕ) → t * n * d ≡ t * d * n
swapped t n d = omega arith

slant_test : (hx lx x0 x : ℤ) (d e t n k : ℕ) → x ≡ x0 +ℤ (pos t) *ℤ pos n → int_le ((hx -ℤ lx) *ℤ pos e -ℤ (x0 -ℤ pos 2 *ℤ lx) *ℤ pos d) ((pos t *ℤ pos d) *ℤ pos n) ≡ nat_le k n
    → int_le ((pos 2 *ℤ hx -ℤ pos 2 *ℤ lx) *ℤ pos e) ((x -ℤ pos 2 *ℤ lx) *ℤ pos (d + d)) ≡ nat_le k n
slant_test hx lx x0 x d e t n k is test =
    let a : ℤ = (hx -ℤ lx) *ℤ pos e in
    let u : ℤ = x0 -ℤ pos 2 *ℤ lx in
    let b : ℤ = u *ℤ pos d in
    let c : ℤ = (pos t *ℤ pos d) *ℤ pos n in
    let across : (pos 2 *ℤ hx -ℤ pos 2 *ℤ lx) *ℤ pos e ≡ a +ℤ a = ap (λ (z : ℤ). z *ℤ pos e) (twice hx lx) ∙ distributes (hx -ℤ lx) (hx -ℤ lx) e in
    let further : x -ℤ pos 2 *ℤ lx ≡ u +ℤ pos (t * n) = omega (arith, ints, is) in
    let product : pos (t * n) *ℤ pos d ≡ c = ap pos (swapped t n d) in
    let once : (x -ℤ pos 2 *ℤ lx) *ℤ pos d ≡ b +ℤ c = ap (λ (z : ℤ). z *ℤ pos d) further ∙ distributes u (pos (t * n)) d ∙ ap (λ (z : ℤ). b +ℤ z) product in
    let up : (x -ℤ pos 2 *ℤ lx) *ℤ pos (d + d) ≡ (b +ℤ c) +ℤ (b +ℤ c) = times_sum (x -ℤ pos 2 *ℤ lx) d d ∙ ap (λ (z : ℤ). z +ℤ z) once in
    ap (λ (z : ℤ). int_le z ((x -ℤ pos 2 *ℤ lx) *ℤ pos (d + d))) across ∙ ap (int_le (a +ℤ a)) up ∙ twice_le a b c ∙ test

pub positive_is : (z : ℤ) → pos 0 <ℤ z → (d : ℕ) × (z ≡ pos d) × (0 < d)
positive_is (pos d) some = (d, refl, omega (arith, ints, some))
positive_is (negsuc d) some = absurd (omega (arith, ints, some))

natural_is : (z : ℤ) → pos 0 ≤ℤ z → (d : ℕ) × (z ≡ pos d)
natural_is (pos d) some = (d, refl)
natural_is (negsuc d) some = absurd (omega (arith, ints, some))

pub slanted_is : (f : Frame) (low high : Pt) (row k : ℕ) (across ahead step : ℤ) → IsFrame f → is_beside f low high row ≡ true → across ≡ (high.x -ℤ low.x) *ℤ ((centre2_of f row 0).1 -ℤ pos 2 *ℤ low.y) → ahead ≡ ((centre2_of f row 0).0 -ℤ pos 2 *ℤ low.x) *ℤ (high.y -ℤ low.y) → step ≡ (pos 2 *ℤ f.cell) *ℤ (high.y -ℤ low.y) → IsLeastSteps (across -ℤ ahead) step f.ncols k → IsColumnAt f low high row k
slanted_is f low high row k across ahead step is beside is_across is_ahead is_step steps =
    let apart = rises (pos 2 *ℤ low.y) (centre2_of f row 0).1 (pos 2 *ℤ high.y) beside in
    let rise = positive_is (high.y -ℤ low.y) (omega (arith, ints, apart.0, apart.1)) in
    let above = natural_is ((centre2_of f row 0).1 -ℤ pos 2 *ℤ low.y) (omega (arith, ints, apart.0)) in
    let cell = positive_is f.cell is.some_size in
    let double : pos 2 *ℤ f.cell ≡ pos (2 * cell.0) = ap (λ (z : ℤ). pos 2 *ℤ z) cell.1 in
    let height : pos 2 *ℤ high.y -ℤ pos 2 *ℤ low.y ≡ pos (rise.0 + rise.0) = omega (arith, ints, rise.1) in
    record {
      within = steps.within;
      at = λ col in_col.
          let x : ℤ = (centre2_of f row col).0 in
          let x0 : ℤ = (centre2_of f row 0).0 in
          let reach : across -ℤ ahead ≡ (high.x -ℤ low.x) *ℤ pos above.0 -ℤ (x0 -ℤ pos 2 *ℤ low.x) *ℤ pos rise.0 = ap (λ (z : ℤ). z -ℤ ahead) (is_across ∙ ap (λ (z : ℤ). (high.x -ℤ low.x) *ℤ z) above.1) ∙ ap (λ (z : ℤ). (high.x -ℤ low.x) *ℤ pos above.0 -ℤ z) (is_ahead ∙ ap (λ (z : ℤ). (x0 -ℤ pos 2 *ℤ low.x) *ℤ z) rise.1) in
          let size : step ≡ pos (2 * cell.0) *ℤ pos rise.0 = is_step ∙ ap (λ (z : ℤ). z *ℤ (high.y -ℤ low.y)) double ∙ ap (λ (z : ℤ). pos (2 * cell.0) *ℤ z) rise.1 in
          let test : int_le ((high.x -ℤ low.x) *ℤ pos above.0 -ℤ (x0 -ℤ pos 2 *ℤ low.x) *ℤ pos rise.0) ((pos (2 * cell.0) *ℤ pos rise.0) *ℤ pos col) ≡ nat_le k col = ap (λ (z : ℤ). int_le z ((pos (2 * cell.0) *ℤ pos rise.0) *ℤ pos col)) (sym reach) ∙ ap (λ (z : ℤ). int_le (across -ℤ ahead) (z *ℤ pos col)) (sym size) ∙ steps.at col in_col in
          let further : x ≡ x0 +ℤ pos (2 * cell.0) *ℤ pos col = lefts f cell.0 row col cell.1 ∙ ap (λ (z : ℤ). x0 +ℤ z *ℤ pos col) double in
          ap (λ (z : ℤ). int_le ((pos 2 *ℤ high.x -ℤ pos 2 *ℤ low.x) *ℤ z) ((x -ℤ pos 2 *ℤ low.x) *ℤ (pos 2 *ℤ high.y -ℤ pos 2 *ℤ low.y))) above.1
          ∙ ap (λ (z : ℤ). int_le ((pos 2 *ℤ high.x -ℤ pos 2 *ℤ low.x) *ℤ pos above.0) ((x -ℤ pos 2 *ℤ low.x) *ℤ z)) height
          ∙ slant_test high.x low.x x0 x rise.0 above.0 (2 * cell.0) col k further test;
    }

-- numbers as the code computes them

pub rise_some : (f : Frame) (low high : Pt) (row : ℕ) → is_beside f low high row ≡ true → pos 0 <ℤ (high.y -ℤ low.y)
rise_some f low high row beside =
    let apart = rises (pos 2 *ℤ low.y) (centre2_of f row 0).1 (pos 2 *ℤ high.y) beside in
    omega (arith, ints, apart.0, apart.1)

pub product_some : (a b : ℤ) → pos 0 <ℤ a → pos 0 <ℤ b → pos 0 <ℤ (a *ℤ b)
product_some a b some_a some_b =
    let x = positive_is a some_a in
    let y = positive_is b some_b in
    let same : a *ℤ b ≡ pos (x.0 * y.0) = ap (λ (z : ℤ). z *ℤ b) x.1 ∙ ap (λ (z : ℤ). pos x.0 *ℤ z) y.1 in
    let more : x.0 * 1 ≤ x.0 * y.0 = mul-le-mul_left x.0 y.2 in
    rw same (omega (arith, ints, more, x.2))

pub times_same : (a b c d r : ℤ) → a ≡ c → b ≡ d → r ≡ a *ℤ b → r ≡ c *ℤ d
times_same a b c d r is_a is_b is = is ∙ ap (λ (z : ℤ). z *ℤ b) is_a ∙ ap (λ (z : ℤ). c *ℤ z) is_b

-- which end is the lower one

not_between : (low here high : ℤ) → high ≤ℤ low → (int_le low here && int_lt here high) ≡ false
not_between low here high less = grind (arith, ints)

pub counts_lower : (p : ℤ × ℤ) (a b : Pt) → a.y <ℤ b.y → counts p (a, b) ≡ counts_up p (doubled a) (doubled b)
counts_lower p a b less =
    let none : is_between p (doubled b) (doubled a) ≡ false = not_between (pos 2 *ℤ b.y) p.1 (pos 2 *ℤ a.y) (omega (arith, ints, less)) in
    ap (λ (x : Bool). counts_up p (doubled a) (doubled b) || (x && is_left p (doubled b) (doubled a))) none ∙ or_none (counts_up p (doubled a) (doubled b))

pub counts_upper : (p : ℤ × ℤ) (a b : Pt) → b.y ≤ℤ a.y → counts p (a, b) ≡ counts_up p (doubled b) (doubled a)
counts_upper p a b less =
    let none : is_between p (doubled a) (doubled b) ≡ false = not_between (pos 2 *ℤ a.y) p.1 (pos 2 *ℤ b.y) (omega (arith, ints, less)) in
    ap (λ (x : Bool). (x && is_left p (doubled a) (doubled b)) || counts_up p (doubled b) (doubled a)) none

pub between_lower : (p : ℤ × ℤ) (a b : Pt) → a.y <ℤ b.y → (is_between p (doubled a) (doubled b) || is_between p (doubled b) (doubled a)) ≡ is_between p (doubled a) (doubled b)
between_lower p a b less =
    let none : is_between p (doubled b) (doubled a) ≡ false = not_between (pos 2 *ℤ b.y) p.1 (pos 2 *ℤ a.y) (omega (arith, ints, less)) in
    ap (λ (x : Bool). is_between p (doubled a) (doubled b) || x) none ∙ or_none (is_between p (doubled a) (doubled b))

pub between_upper : (p : ℤ × ℤ) (a b : Pt) → b.y ≤ℤ a.y → (is_between p (doubled a) (doubled b) || is_between p (doubled b) (doubled a)) ≡ is_between p (doubled b) (doubled a)
between_upper p a b less =
    let none : is_between p (doubled a) (doubled b) ≡ false = not_between (pos 2 *ℤ a.y) p.1 (pos 2 *ℤ b.y) (omega (arith, ints, less)) in
    ap (λ (x : Bool). x || is_between p (doubled b) (doubled a)) none

in_span : (first last r : ℕ) → first ≤ r → r ≤ last → (nat_le first r && nat_le r last) ≡ true
in_span first last r from to = grind (arith, nat_tests)

-- an edge of the table, by the end that is lower
pub taken_from : (f : Frame) (edge : SpannedEdge) (low high : Pt) (taken : ActiveEdge) → IsSpanned Centre f edge → ((p : ℤ × ℤ) → counts p (edge.start, edge.end) ≡ counts_up p (doubled low) (doubled high)) → ((p : ℤ × ℤ) → (is_between p (doubled edge.start) (doubled edge.end) || is_between p (doubled edge.end) (doubled edge.start)) ≡ is_between p (doubled low) (doubled high)) → taken.low ≡ low → taken.high ≡ high → taken.last ≡ edge.last → ((column row : ℕ) → taken.upright ≡ Some column → is_beside f low high row ≡ true → IsColumnAt f low high row column) → IsTakenFrom f edge taken
taken_from f edge low high taken spanned same_count same_rows is_low is_high is_last upright =
    let beside : (r : ℕ) → edge.first ≤ r → r ≤ edge.last → is_beside f low high r ≡ true = λ r from to.
    sym (same_rows (centre2_of f r 0)) ∙ spanned.rows r (omega (arith, to, spanned.within)) ∙ in_span edge.first edge.last r from to in
    let same : (p : ℤ × ℤ) → counts_up p (doubled taken.low) (doubled taken.high) ≡ counts_up p (doubled low) (doubled high) = λ p. ap (λ (z : Pt). counts_up p (doubled z) (doubled taken.high)) is_low ∙ ap (λ (z : Pt). counts_up p (doubled low) (doubled z)) is_high in
    let same_beside : (r : ℕ) → is_beside f taken.low taken.high r ≡ is_beside f low high r = λ r. ap (λ (z : Pt). is_beside f z taken.high r) is_low ∙ ap (λ (z : Pt). is_beside f low z r) is_high in
    record {
      last = is_last;
      active = record {
        current = omega (arith, is_last, spanned.some);
        within = omega (arith, is_last, spanned.within);
        beside = λ r from to. same_beside r ∙ beside r from (omega (arith, to, is_last));
        upright = λ column r is from to. subst (λ (z : Pt). IsColumnAt f z taken.high r column) (sym is_low) (subst (λ (z : Pt). IsColumnAt f low z r column) (sym is_high) (upright column r is (beside r from (omega (arith, to, is_last)))));
      };
      counts = λ p. same p ∙ sym (same_count p);
    }

pub same_narrow : (x : ℤ) → unsigned_abs x ≤ 4 * 10 ^ 18 → to_z w64 (of_z w64 x) ≡ x
same_narrow x small = omega (arith, ints, small)

pub same_wide : (x : ℤ) → unsigned_abs x ≤ 32 * 10 ^ 36 → to_z w128 (of_z w128 x) ≡ x
same_wide x small = omega (arith, ints, small)

pub short_bound : (a b : ℤ) → unsigned_abs a ≤ 2 ^ 30 → unsigned_abs b ≤ 2 ^ 30 → unsigned_abs (a *ℤ b) ≤ 2 ^ 60
short_bound a b small_a small_b =
    let left : unsigned_abs a * unsigned_abs b ≤ unsigned_abs a * 2 ^ 30 = mul-le-mul_left (unsigned_abs a) small_b in
    let right : unsigned_abs a * 2 ^ 30 ≤ 2 ^ 30 * 2 ^ 30 = mul-le-mul_right (2 ^ 30) small_a in
    omega (arith, unsigned_abs-mul a b, left, right)

pub product_passed : (a b : ℤ) → unsigned_abs a ≤ 4 * 10 ^ 18 → unsigned_abs b ≤ 4 * 10 ^ 18 → to_z w64 (of_z w64 a) *ℤ to_z w64 (of_z w64 b) ≡ a *ℤ b
product_passed a b small_a small_b = ap (λ (z : ℤ). z *ℤ to_z w64 (of_z w64 b)) (same_narrow a small_a) ∙ ap (λ (z : ℤ). a *ℤ z) (same_narrow b small_b)
