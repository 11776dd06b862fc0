-- On which sides of a line the corners of a square lie.
use Rattle.std.proofs.Common.{◌≡◌, ℕ, ℤ, ◌<ℤ◌, ◌≤ℤ◌, Bool, true, false, refl, sym, ap, ◌∙◌, pos, ◌+ℤ◌, ◌-ℤ◌, ◌*ℤ◌, arith}
use Rattle.std.specs.Prelude.{◌&&◌, ◌||◌, int_lt}
use Rattle.std.proofs.lemmas.Int.{ints}
use Rattle.std.proofs.Math.IntN.{*ℤ-zero, *ℤ_comm}
use Rattle.burn_scanline.proofs.ColumnLemmas.{product_some}
use Rattle.burn_scanline.specs.Ring.{Edge}
use Rattle.wkt_text.specs.declared.geometry.Pt.{Pt}
use Rattle.all_touched.specs.Touched.{turn_at}
use Rattle.all_touched.proofs.ProductLemmas.{minus_times, neg_times, product_below, times_minus}

-- along u, up v, from a to a point that is P further and Q higher
swapped : (u v P Q : ℤ) → (pos 0 -ℤ u) *ℤ (Q -ℤ v) -ℤ (pos 0 -ℤ v) *ℤ (P -ℤ u) ≡ pos 0 -ℤ (u *ℤ Q -ℤ v *ℤ P)
swapped u v P Q =
    let one : (pos 0 -ℤ u) *ℤ (Q -ℤ v) ≡ pos 0 -ℤ (u *ℤ Q -ℤ u *ℤ v) = neg_times u (Q -ℤ v) ∙ ap (λ (z : ℤ). pos 0 -ℤ z) (times_minus Q v u) in
    let two : (pos 0 -ℤ v) *ℤ (P -ℤ u) ≡ pos 0 -ℤ (v *ℤ P -ℤ v *ℤ u) = neg_times v (P -ℤ u) ∙ ap (λ (z : ℤ). pos 0 -ℤ z) (times_minus P u v) in
    omega (arith, ints, one, two, *ℤ_comm u v)

-- seen from the other end of the edge, a point lies on the other side
pub turn_swaps : (a b : Pt) (x y : ℤ) → turn_at (b, a) (x, y) ≡ pos 0 -ℤ turn_at (a, b) (x, y)
turn_swaps a b x y =
    let u : ℤ = b.x -ℤ a.x in
    let v : ℤ = b.y -ℤ a.y in
    let along : a.x -ℤ b.x ≡ pos 0 -ℤ u = omega (arith, ints) in
    let up : a.y -ℤ b.y ≡ pos 0 -ℤ v = omega (arith, ints) in
    let further : x -ℤ b.x ≡ (x -ℤ a.x) -ℤ u = omega (arith, ints) in
    let higher : y -ℤ b.y ≡ (y -ℤ a.y) -ℤ v = omega (arith, ints) in
    ap (λ (z : ℤ). z *ℤ (y -ℤ b.y) -ℤ (a.y -ℤ b.y) *ℤ (x -ℤ b.x)) along
    ∙ ap (λ (z : ℤ). (pos 0 -ℤ u) *ℤ z -ℤ (a.y -ℤ b.y) *ℤ (x -ℤ b.x)) higher
    ∙ ap (λ (z : ℤ). (pos 0 -ℤ u) *ℤ ((y -ℤ a.y) -ℤ v) -ℤ z *ℤ (x -ℤ b.x)) up
    ∙ ap (λ (z : ℤ). (pos 0 -ℤ u) *ℤ ((y -ℤ a.y) -ℤ v) -ℤ (pos 0 -ℤ v) *ℤ z) further
    ∙ swapped u v (x -ℤ a.x) (y -ℤ a.y)

-- how far a turn changes from one width or height to another
pub turn_across : (a b : Pt) (x z y : ℤ) → turn_at (a, b) (z, y) ≡ turn_at (a, b) (x, y) -ℤ (b.y -ℤ a.y) *ℤ (z -ℤ x)
turn_across a b x z y =
    let v : ℤ = b.y -ℤ a.y in
    let way : z -ℤ x ≡ (z -ℤ a.x) -ℤ (x -ℤ a.x) = omega (arith, ints) in
    let product : v *ℤ (z -ℤ x) ≡ v *ℤ (z -ℤ a.x) -ℤ v *ℤ (x -ℤ a.x) = ap (λ (w : ℤ). v *ℤ w) way ∙ times_minus (z -ℤ a.x) (x -ℤ a.x) v in
    omega (arith, ints, product)

pub turn_up : (a b : Pt) (x y z : ℤ) → turn_at (a, b) (x, z) ≡ turn_at (a, b) (x, y) +ℤ (b.x -ℤ a.x) *ℤ (z -ℤ y)
turn_up a b x y z =
    let u : ℤ = b.x -ℤ a.x in
    let way : z -ℤ y ≡ (z -ℤ a.y) -ℤ (y -ℤ a.y) = omega (arith, ints) in
    let product : u *ℤ (z -ℤ y) ≡ u *ℤ (z -ℤ a.y) -ℤ u *ℤ (y -ℤ a.y) = ap (λ (w : ℤ). u *ℤ w) way ∙ times_minus (z -ℤ a.y) (y -ℤ a.y) u in
    omega (arith, ints, product)

-- corners: upper left, upper right, lower left, lower right
abbrev pub any_left : Edge → ℤ → ℤ → ℤ → ℤ → Bool
any_left e l r t b = int_lt (pos 0) (turn_at e (l, t)) || int_lt (pos 0) (turn_at e (r, t)) || int_lt (pos 0) (turn_at e (l, b)) || int_lt (pos 0) (turn_at e (r, b))

abbrev pub any_right : Edge → ℤ → ℤ → ℤ → ℤ → Bool
any_right e l r t b = int_lt (turn_at e (l, t)) (pos 0) || int_lt (turn_at e (r, t)) (pos 0) || int_lt (turn_at e (l, b)) (pos 0) || int_lt (turn_at e (r, b)) (pos 0)

-- of four turns that differ so, the greatest and the least decide
forward : (w A B w1 w2 w3 : ℤ) → pos 0 <ℤ A → pos 0 ≤ℤ B → w1 ≡ w -ℤ A → w2 ≡ w -ℤ B → w3 ≡ w2 -ℤ A
    → ((int_lt (pos 0) w || int_lt (pos 0) w1 || int_lt (pos 0) w2 || int_lt (pos 0) w3) ≡ int_lt (pos 0) w)
    × ((int_lt w (pos 0) || int_lt w1 (pos 0) || int_lt w2 (pos 0) || int_lt w3 (pos 0)) ≡ int_lt w3 (pos 0))
forward w A B w1 w2 w3 some more is1 is2 is3 = (grind (arith, ints), grind (arith, ints))

backward : (w A B w1 w2 w3 : ℤ) → pos 0 <ℤ A → B ≤ℤ pos 0 → w1 ≡ w -ℤ A → w2 ≡ w -ℤ B → w3 ≡ w2 -ℤ A
    → ((int_lt (pos 0) w || int_lt (pos 0) w1 || int_lt (pos 0) w2 || int_lt (pos 0) w3) ≡ int_lt (pos 0) w2)
    × ((int_lt w (pos 0) || int_lt w1 (pos 0) || int_lt w2 (pos 0) || int_lt w3 (pos 0)) ≡ int_lt w1 (pos 0))
backward w A B w1 w2 w3 some more is1 is2 is3 = (grind (arith, ints), grind (arith, ints))

-- an edge that leads up and not to the left: the upper left and the lower right corner decide
pub leads_right : (p q : Pt) (l r t b : ℤ) → pos 0 <ℤ (q.y -ℤ p.y) → p.x ≤ℤ q.x → l <ℤ r → b <ℤ t
    → (any_left (p, q) l r t b ≡ int_lt (pos 0) (turn_at (p, q) (l, t))) × (any_right (p, q) l r t b ≡ int_lt (turn_at (p, q) (r, b)) (pos 0))
leads_right p q l r t b up right wide high =
    let A : ℤ = (q.y -ℤ p.y) *ℤ (r -ℤ l) in
    let B : ℤ = (q.x -ℤ p.x) *ℤ (t -ℤ b) in
    forward (turn_at (p, q) (l, t)) A B (turn_at (p, q) (r, t)) (turn_at (p, q) (l, b)) (turn_at (p, q) (r, b))
    (product_some (q.y -ℤ p.y) (r -ℤ l) up (omega (arith, ints, wide))) (not_below (q.x -ℤ p.x) (t -ℤ b) (omega (arith, ints, right)) (omega (arith, ints, high)))
    (turn_across p q l r t) (down p q l t b) (turn_across p q l r b)
  where
    not_below : (m n : ℤ) → pos 0 ≤ℤ m → pos 0 <ℤ n → pos 0 ≤ℤ (m *ℤ n)
    not_below m n low some = decide (int_lt (pos 0) m) refl
      where
        decide : (x : Bool) → int_lt (pos 0) m ≡ x → pos 0 ≤ℤ (m *ℤ n)
        decide true is =
            let product = product_some m n (positive m is) some in
            omega (arith, ints, product)
          where
            positive : (k : ℤ) → int_lt (pos 0) k ≡ true → pos 0 <ℤ k
            positive k holds = grind (arith, ints, holds)
        decide false is =
            let none : m ≡ pos 0 = zero_is m low is in
            let product : m *ℤ n ≡ pos 0 = ap (λ (k : ℤ). k *ℤ n) none ∙ *ℤ_comm (pos 0) n ∙ *ℤ-zero n in
            omega (arith, ints, product)
          where
            zero_is : (k : ℤ) → pos 0 ≤ℤ k → int_lt (pos 0) k ≡ false → k ≡ pos 0
            zero_is k at_least fails = grind (arith, ints, at_least, fails)

    down : (a c : Pt) (x y z : ℤ) → turn_at (a, c) (x, z) ≡ turn_at (a, c) (x, y) -ℤ (c.x -ℤ a.x) *ℤ (y -ℤ z)
    down a c x y z = omega (arith, ints, turn_up a c x z y)

-- one that leads up and to the left: the lower left and the upper right corner decide
pub leads_left : (p q : Pt) (l r t b : ℤ) → pos 0 <ℤ (q.y -ℤ p.y) → q.x <ℤ p.x → l <ℤ r → b <ℤ t
    → (any_left (p, q) l r t b ≡ int_lt (pos 0) (turn_at (p, q) (l, b))) × (any_right (p, q) l r t b ≡ int_lt (turn_at (p, q) (r, t)) (pos 0))
leads_left p q l r t b up left wide high =
    let A : ℤ = (q.y -ℤ p.y) *ℤ (r -ℤ l) in
    let B : ℤ = (q.x -ℤ p.x) *ℤ (t -ℤ b) in
    let product : B <ℤ pos 0 = below (q.x -ℤ p.x) (t -ℤ b) (omega (arith, ints, left)) (omega (arith, ints, high)) in
    backward (turn_at (p, q) (l, t)) A B (turn_at (p, q) (r, t)) (turn_at (p, q) (l, b)) (turn_at (p, q) (r, b))
    (product_some (q.y -ℤ p.y) (r -ℤ l) up (omega (arith, ints, wide))) (omega (arith, ints, product))
    (turn_across p q l r t) (down p q l t b) (turn_across p q l r b)
  where
    below : (m n : ℤ) → m <ℤ pos 0 → pos 0 <ℤ n → (m *ℤ n) <ℤ pos 0
    below m n low some =
        let product = product_below n m some low in
        omega (arith, ints, product, *ℤ_comm n m)

    down : (a c : Pt) (x y z : ℤ) → turn_at (a, c) (x, z) ≡ turn_at (a, c) (x, y) -ℤ (c.x -ℤ a.x) *ℤ (y -ℤ z)
    down a c x y z = omega (arith, ints, turn_up a c x z y)

-- seen from the other end, left is right
pub sides_swap : (p q : Pt) (l r t b : ℤ) → (any_left (q, p) l r t b ≡ any_right (p, q) l r t b) × (any_right (q, p) l r t b ≡ any_left (p, q) l r t b)
sides_swap p q l r t b =
    let pq : ℤ → ℤ → ℤ = λ x y. turn_at (p, q) (x, y) in
    let qp : ℤ → ℤ → ℤ = λ x y. turn_at (q, p) (x, y) in (
      rw (turned_left (qp l t) (pq l t) (turn_swaps p q l t), turned_left (qp r t) (pq r t) (turn_swaps p q r t), turned_left (qp l b) (pq l b) (turn_swaps p q l b), turned_left (qp r b) (pq r b) (turn_swaps p q r b)) refl,
      rw (turned_right (qp l t) (pq l t) (turn_swaps p q l t), turned_right (qp r t) (pq r t) (turn_swaps p q r t), turned_right (qp l b) (pq l b) (turn_swaps p q l b), turned_right (qp r b) (pq r b) (turn_swaps p q r b)) refl,
    )
  where
    turned_left : (m n : ℤ) → m ≡ pos 0 -ℤ n → int_lt (pos 0) m ≡ int_lt n (pos 0)
    turned_left m n is = grind (arith, ints, is)

    turned_right : (m n : ℤ) → m ≡ pos 0 -ℤ n → int_lt m (pos 0) ≡ int_lt (pos 0) n
    turned_right m n is = grind (arith, ints, is)
