-- A side between two corners counts for a cell's centre exactly where it spans the cell's row at the cell's left or further left.
use Rattle.std.proofs.Common.{◌≡◌, ℕ, ℤ, suc, ◌+◌, ◌-◌, ◌*◌, ◌<◌, ◌≤◌, ◌⊎◌, inl, inr, Bool, true, false, not, refl, sym, ap, ◌∙◌, pos, negsuc, ◌-ℤ◌, ◌+ℤ◌, ◌*ℤ◌, ◌<ℤ◌, arith}
use Rattle.std.specs.Prelude.{◌&&◌, ◌||◌, nat_le, nat_lt, int_le, int_lt}
use Rattle.std.proofs.lemmas.Bool.{and_parts, cases_lt}
use Rattle.std.proofs.lemmas.Bool.Decides.{nat_tests}
use Rattle.std.proofs.lemmas.Int.{ints}
use Rattle.std.proofs.Math.Nat.{mul-le-mul_left, mul-le-mul_right}
use Rattle.cell_base.specs.Raster.{Place}
use Rattle.geo_transform.specs.Corner.{centre2_of}
use Rattle.geo_transform.specs.Frame.{IsFrame}
use Rattle.geo_transform.specs.declared.frame.Frame.{Frame}
use Rattle.edge_trace.specs.Edge.{Corner, Edge}
use Rattle.std.proofs.Math.Bool.{xor}
use Rattle.wkt_text.specs.declared.geometry.Pt.{Pt}
use Rattle.burn_scanline.specs.Centre.{doubled, counts, counts_up}
use Rattle.tool_outcome.specs.Polygonize.{point_of}

-- the side joins corners of which one is above the cell's row and one below it, no further right than the cell's left
abbrev pub spans : Place → Edge → Bool
spans (r, c) e = nat_le e.0.1 c && xor (nat_le e.0.0 r) (nat_le e.1.0 r)

-- a point by its numbers
abbrev pt : ℤ → ℤ → Pt
pt x y = record { x = x; y = y }

-- twice a corner's height, counted in cells, against a centre's
lower_test : (y : ℤ) (s u v : ℕ) → 0 < s → int_le (pos 2 *ℤ (y +ℤ pos u *ℤ pos s)) ((y +ℤ pos (v + 1) *ℤ pos s) +ℤ (y +ℤ pos v *ℤ pos s)) ≡ nat_le u v
lower_test y s u v some = elim (cases_lt v u) [
  | inl above ↦
      let more : s * (v + 1) ≤ s * u = mul-le-mul_left s (omega arith) in
      grind (arith, ints, nat_tests, more)
  | inr below ↦
      let more : s * u ≤ s * v = mul-le-mul_left s below in
      grind (arith, ints, nat_tests, more)
]

upper_test : (y : ℤ) (s v w : ℕ) → 0 < s → int_lt ((y +ℤ pos (v + 1) *ℤ pos s) +ℤ (y +ℤ pos v *ℤ pos s)) (pos 2 *ℤ (y +ℤ pos w *ℤ pos s)) ≡ nat_lt v w
upper_test y s v w some = elim (cases_lt v w) [
  | inl above ↦
      let more : s * (v + 1) ≤ s * w = mul-le-mul_left s (omega arith) in
      grind (arith, ints, nat_tests, more)
  | inr below ↦
      let more : s * w ≤ s * v = mul-le-mul_left s below in
      grind (arith, ints, nat_tests, more)
]

zero_times : (e : ℤ) → pos 0 *ℤ e ≡ pos 0
zero_times (pos n) = ap pos (omega arith)
zero_times (negsuc n) = omega (arith, ints)

cross_positive : (w : ℤ) (d : ℕ) → 0 < d → int_le (pos 0) (w *ℤ pos d) ≡ int_le (pos 0) w
cross_positive (pos w) d some = grind (arith, ints)
cross_positive (negsuc w) d some =
    let more : 1 * d ≤ suc w * d = mul-le-mul_right d (omega arith) in
    grind (arith, ints, more)

-- an upright side's column against a centre's
cross_test : (z e w d : ℤ) → z ≡ pos 0 → pos 0 <ℤ d → int_le (z *ℤ e) (w *ℤ d) ≡ int_le (pos 0) w
cross_test z e w (pos d) none positive = ap (λ (x : ℤ). int_le (x *ℤ e) (w *ℤ pos d)) none ∙ ap (λ (x : ℤ). int_le x (w *ℤ pos d)) (zero_times e) ∙ cross_positive w d (omega (arith, ints, positive))
cross_test z e w (negsuc d) none positive = absurd (omega (arith, ints, positive))

column_test : (x : ℤ) (s j c : ℕ) → 0 < s → int_le (pos 0) (((x +ℤ pos c *ℤ pos s) +ℤ (x +ℤ pos (c + 1) *ℤ pos s)) -ℤ pos 2 *ℤ (x +ℤ pos j *ℤ pos s)) ≡ nat_le j c
column_test x s j c some = elim (cases_lt c j) [
  | inl right ↦
      let more : s * (c + 1) ≤ s * j = mul-le-mul_left s (omega arith) in
      grind (arith, ints, nat_tests, more)
  | inr left ↦
      let more : s * j ≤ s * c = mul-le-mul_left s left in
      grind (arith, ints, nat_tests, more)
]

and_same : (p q x y : Bool) → p ≡ q → (q ≡ true → x ≡ y) → (p && x) ≡ (q && y)
and_same p true x y same rest = ap (λ (b : Bool). b && x) same ∙ rest refl
and_same p false x y same rest = ap (λ (b : Bool). b && x) same

-- the numbers of a side and a centre
record AreHeights (nrows r i j : ℕ) : Type 0 where
  low : nat_le (nrows - i) (nrows - (r + 1)) ≡ not (nat_le i r)
  high : nat_lt (nrows - (r + 1)) (nrows - j) ≡ nat_le j r
  next : nrows - r ≡ (nrows - (r + 1)) + 1

heights : (nrows r i j : ℕ) → r < nrows → i ≤ nrows → j ≤ nrows → AreHeights nrows r i j
heights nrows r i j in_row in_i in_j = record { low = grind (arith, nat_tests); high = grind (arith, nat_tests); next = omega arith }

differs : (r i j : ℕ) → i ≡ j → (not (nat_le i r) && nat_le j r) ≡ true → ⊥
differs r i j same is = grind (arith, nat_tests)

level_apart : (y : ℤ) (s u v w : ℕ) → 0 < s → u ≤ v → v < w → pos 0 <ℤ ((pos 2 *ℤ (y +ℤ pos w *ℤ pos s)) -ℤ (pos 2 *ℤ (y +ℤ pos u *ℤ pos s)))
level_apart y s u v w some low high =
    let more : s * (u + 1) ≤ s * w = mul-le-mul_left s (omega arith) in
    omega (arith, ints, more)

none_across : (z w : ℤ) → z ≡ w → z -ℤ w ≡ pos 0
none_across z w same = omega (arith, ints, same)

le_of : (m n : ℕ) → nat_le m n ≡ true → m ≤ n
le_of m n is = grind (arith, nat_tests)

lt_of : (m n : ℕ) → nat_lt m n ≡ true → m < n
lt_of m n is = grind (arith, nat_tests)

-- a side that leads up to its second corner
up_by : (x y : ℤ) (s nrows : ℕ) (r c : ℕ) (a b : Corner) → 0 < s → r < nrows → a.0 ≤ nrows → b.0 ≤ nrows → (a.0 ≡ b.0) ⊎ (a.1 ≡ b.1)
    → counts_up (((x +ℤ pos c *ℤ pos s) +ℤ (x +ℤ pos (c + 1) *ℤ pos s)), ((y +ℤ pos (nrows - r) *ℤ pos s) +ℤ (y +ℤ pos (nrows - (r + 1)) *ℤ pos s))) (doubled (pt (x +ℤ pos a.1 *ℤ pos s) (y +ℤ pos (nrows - a.0) *ℤ pos s))) (doubled (pt (x +ℤ pos b.1 *ℤ pos s) (y +ℤ pos (nrows - b.0) *ℤ pos s)))
    ≡ ((not (nat_le a.0 r) && nat_le b.0 r) && nat_le a.1 c)
up_by x y s nrows r c a b some in_row in_a in_b straight =
    let h = heights nrows r a.0 b.0 in_row in_a in_b in
    let v : ℕ = nrows - (r + 1) in
    let height : ℤ = (y +ℤ pos (nrows - r) *ℤ pos s) +ℤ (y +ℤ pos v *ℤ pos s) in
    let same : height ≡ (y +ℤ pos (v + 1) *ℤ pos s) +ℤ (y +ℤ pos v *ℤ pos s) = ap (λ (n : ℕ). (y +ℤ pos n *ℤ pos s) +ℤ (y +ℤ pos v *ℤ pos s)) h.next in
    let low : int_le (pos 2 *ℤ (y +ℤ pos (nrows - a.0) *ℤ pos s)) height ≡ not (nat_le a.0 r) = ap (int_le (pos 2 *ℤ (y +ℤ pos (nrows - a.0) *ℤ pos s))) same ∙ lower_test y s (nrows - a.0) v some ∙ h.low in
    let high : int_lt height (pos 2 *ℤ (y +ℤ pos (nrows - b.0) *ℤ pos s)) ≡ nat_le b.0 r = ap (λ (z : ℤ). int_lt z (pos 2 *ℤ (y +ℤ pos (nrows - b.0) *ℤ pos s))) same ∙ upper_test y s v (nrows - b.0) some ∙ h.high in
    and_same _ _ _ _ (ap (λ (t : Bool). t && int_lt height (pos 2 *ℤ (y +ℤ pos (nrows - b.0) *ℤ pos s))) low ∙ ap (λ (t : Bool). not (nat_le a.0 r) && t) high) (λ spans. elim straight [
      | inl level ↦ absurd (differs r a.0 b.0 level spans)
      | inr upright ↦
          let parts = and_parts (not (nat_le a.0 r)) (nat_le b.0 r) spans in
          let none : (pos 2 *ℤ (x +ℤ pos b.1 *ℤ pos s)) -ℤ (pos 2 *ℤ (x +ℤ pos a.1 *ℤ pos s)) ≡ pos 0 = none_across (pos 2 *ℤ (x +ℤ pos b.1 *ℤ pos s)) (pos 2 *ℤ (x +ℤ pos a.1 *ℤ pos s)) (ap (λ (j : ℕ). pos 2 *ℤ (x +ℤ pos j *ℤ pos s)) (sym upright)) in
          cross_test _ (height -ℤ (pos 2 *ℤ (y +ℤ pos (nrows - a.0) *ℤ pos s))) _ _ none
          (level_apart y s (nrows - a.0) v (nrows - b.0) some (le_of _ _ (h.low ∙ parts.0)) (lt_of _ _ (h.high ∙ parts.1))) ∙ column_test x s a.1 c some
    ])

-- either way round: an upright side's ends have one column, a level side's one row
either_way : (p q l : Bool) → (((not p && q) && l) || ((not q && p) && l)) ≡ (l && xor p q)
unfolding xor
either_way true true true = refl
either_way true true false = refl
either_way true false true = refl
either_way true false false = refl
either_way false true true = refl
either_way false true false = refl
either_way false false true = refl
either_way false false false = refl

neither_way : (p l m : Bool) → (((not p && p) && l) || ((not p && p) && m)) ≡ (l && xor p p)
unfolding xor
neither_way true true m = refl
neither_way true false m = refl
neither_way false true m = refl
neither_way false false m = refl

flip : (a b : Corner) → (a.0 ≡ b.0) ⊎ (a.1 ≡ b.1) → (b.0 ≡ a.0) ⊎ (b.1 ≡ a.1)
flip a b (inl level) = inl (sym level)
flip a b (inr upright) = inr (sym upright)

counts_by : (x y : ℤ) (s nrows : ℕ) (r c : ℕ) (a b : Corner) → 0 < s → r < nrows → a.0 ≤ nrows → b.0 ≤ nrows → (a.0 ≡ b.0) ⊎ (a.1 ≡ b.1)
    → counts (((x +ℤ pos c *ℤ pos s) +ℤ (x +ℤ pos (c + 1) *ℤ pos s)), ((y +ℤ pos (nrows - r) *ℤ pos s) +ℤ (y +ℤ pos (nrows - (r + 1)) *ℤ pos s))) (pt (x +ℤ pos a.1 *ℤ pos s) (y +ℤ pos (nrows - a.0) *ℤ pos s), pt (x +ℤ pos b.1 *ℤ pos s) (y +ℤ pos (nrows - b.0) *ℤ pos s))
    ≡ spans (r, c) (a, b)
counts_by x y s nrows r c a b some in_row in_a in_b straight =
    let one = up_by x y s nrows r c a b some in_row in_a in_b straight in
    let two = up_by x y s nrows r c b a some in_row in_b in_a (flip a b straight) in
    let both_ways : ((not (nat_le a.0 r) && nat_le b.0 r) && nat_le a.1 c) || ((not (nat_le b.0 r) && nat_le a.0 r) && nat_le b.1 c) ≡ spans (r, c) (a, b) = elim straight [
      | inl level ↦ ap (λ (i : ℕ). ((not (nat_le a.0 r) && nat_le i r) && nat_le a.1 c) || ((not (nat_le i r) && nat_le a.0 r) && nat_le b.1 c)) (sym level) ∙ neither_way (nat_le a.0 r) (nat_le a.1 c) (nat_le b.1 c) ∙ ap (λ (i : ℕ). nat_le a.1 c && xor (nat_le a.0 r) (nat_le i r)) level
      | inr upright ↦ ap (λ (j : ℕ). ((not (nat_le a.0 r) && nat_le b.0 r) && nat_le a.1 c) || ((not (nat_le b.0 r) && nat_le a.0 r) && nat_le j c)) (sym upright) ∙ either_way (nat_le a.0 r) (nat_le b.0 r) (nat_le a.1 c)
    ] in
    rw (one, two) both_ways

-- the same for any size of cells
counts_at : (x y size : ℤ) (nrows : ℕ) (r c : ℕ) (a b : Corner) → pos 0 <ℤ size → r < nrows → a.0 ≤ nrows → b.0 ≤ nrows → (a.0 ≡ b.0) ⊎ (a.1 ≡ b.1)
    → counts (((x +ℤ pos c *ℤ size) +ℤ (x +ℤ pos (c + 1) *ℤ size)), ((y +ℤ pos (nrows - r) *ℤ size) +ℤ (y +ℤ pos (nrows - (r + 1)) *ℤ size))) (pt (x +ℤ pos a.1 *ℤ size) (y +ℤ pos (nrows - a.0) *ℤ size), pt (x +ℤ pos b.1 *ℤ size) (y +ℤ pos (nrows - b.0) *ℤ size))
    ≡ spans (r, c) (a, b)
counts_at x y (pos s) nrows r c a b some in_row in_a in_b straight = counts_by x y s nrows r c a b (omega (arith, ints, some)) in_row in_a in_b straight
counts_at x y (negsuc s) nrows r c a b some in_row in_a in_b straight = absurd (omega (arith, ints, some))

-- a side that runs along a row or a column, between corners of the frame
pub counts_spans : (f : Frame) → IsFrame f → (cell : Place) → cell.0 < f.nrows → (e : Edge) → e.0.0 ≤ f.nrows → e.1.0 ≤ f.nrows → (e.0.0 ≡ e.1.0) ⊎ (e.0.1 ≡ e.1.1) → counts (centre2_of f cell.0 cell.1) (point_of f e.0, point_of f e.1) ≡ spans cell e
counts_spans f is cell in_row e in_start in_end straight = counts_at f.xll f.yll f.cell f.nrows cell.0 cell.1 e.0 e.1 is.some_size in_row in_start in_end straight

-- a side of no length never counts
never : (y height : ℤ) (b : Bool) → ((int_le y height && int_lt height y) && b) ≡ false
never y height b = grind (arith, ints)

pub counts_none : (centre : ℤ × ℤ) (p : Pt) → counts centre (p, p) ≡ false
counts_none centre p = rw (never (pos 2 *ℤ p.y) centre.1 _) refl
