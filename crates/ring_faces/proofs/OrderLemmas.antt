-- Where the edges of a cycle come in the order of the cells on their left: the edge that leaves the least corner of a
-- hole is the first, and the left edge of the first cell is the first of all.
use Rattle.std.proofs.Common.{◌≡◌, ℕ, zero, suc, ◌+◌, ◌<◌, ◌≤◌, ◌⊎◌, inl, inr, Bool, false, List, [], ◌∷◌, Some, refl, sym, ap, ◌∙◌, subst, arith}
use Rattle.std.specs.Prelude.{Contains}
use Rattle.std.proofs.lemmas.Bool.{false≢true, cases_lt}
use Rattle.std.proofs.lemmas.Bool.Decides.{nat_tests}
use Rattle.std.proofs.Math.Bool.{xor}
use Rattle.cell_base.specs.Raster.{Place}
use Rattle.cell_base.specs.Order.{IsBefore}
use Rattle.cell_base.proofs.ListDeciders.{contains_here, contains_there}
use Rattle.edge_trace.specs.Edge.{Corner, Edge, HasOnLeft}
use Rattle.edge_trace.specs.Crossing.{is_crossed}
use Rattle.edge_trace.proofs.ParityLemmas.{is_odd, xor_false}
use Rattle.ring_faces.proofs.SpotLemmas.{edge_is, pair_is, left_spot, right_spot, side, spot, sw, ends_spots}
use Rattle.ring_faces.proofs.SideLemmas.{side_none, side_some}
use Rattle.ring_faces.proofs.PartLemmas.{IsOnePart, crossing_held, held_once}
use Rattle.ring_faces.proofs.CycleLemmas.{IsCycle, cycle_round}
use Rattle.ring_faces.proofs.InsideLemmas.{IsFirstCell, hole_set, left_edge, true_right}
use Rattle.ring_faces.proofs.TurnLemmas.{IsFrom}
use Rattle.ring_faces.proofs.ListingLemmas.{last_edge}
use Rattle.ring_faces.proofs.StartLemmas.{AllFrom, ends_from, last_in, least_edges}

-- no edge is crossed from a cell above all corners

odd_none : (test : Edge → Bool) (es : List Edge) → ((e : Edge) → Contains es e → test e ≡ false) → is_odd test es ≡ false
odd_none test [] none = refl
odd_none test (e ∷ es) none = ap (λ (b : Bool). xor b (is_odd test es)) (none e (contains_here e es)) ∙ xor_false (is_odd test es)
    ∙ odd_none test es (λ f member. none f (contains_there e es f member))

not_crossed : (r c : ℕ) (p : Corner) (e : Edge) → r < p.0 → IsFrom p e.0 → IsFrom p e.1 → is_crossed (r, c) e ≡ false
not_crossed r c p e above starts ends = grind (arith, nat_tests)

above_open : (test : Place → Bool) (x : Edge) (xs : List Edge) → IsCycle test x xs → AllFrom x.0 (x ∷ xs) → (r c : ℕ) → r < x.0.0
    → side (x ∷ xs) (Some (r, c)) ≡ false
above_open test x xs cycle from r c above = side_some (x ∷ xs) (r, c)
    ∙ odd_none (is_crossed (r, c)) (x ∷ xs) (λ e member. not_crossed r c x.0 e above (from e member) (ends_from test x xs cycle x.0 from e member))

spot_above_open : (test : Place → Bool) (x : Edge) (xs : List Edge) → IsCycle test x xs → AllFrom x.0 (x ∷ xs) → (r c : ℕ) → r ≡ x.0.0
    → side (x ∷ xs) (spot r c) ≡ false
spot_above_open test x xs cycle from zero c row = side_none (x ∷ xs)
spot_above_open test x xs cycle from (suc r) zero row = side_none (x ∷ xs)
spot_above_open test x xs cycle from (suc r) (suc c) row = above_open test x xs cycle from r c (omega arith)

-- a hole leaves its least corner to the right
pub hole_first : (test : Place → Bool) → IsOnePart test → (cell : Place) → IsFirstCell test cell → (x : Edge) (xs : List Edge) → IsCycle test x xs
    → ¬ Contains (x ∷ xs) (left_edge cell) → AllFrom x.0 (x ∷ xs) → x ≡ (x.0, (x.0.0, x.0.1 + 1))
hole_first test one cell first x xs cycle off from = elim (least_edges test x xs cycle from).right [
  | inl is ↦ is
  | inr comes ↦
      let edges = x ∷ xs in
      let round = cycle_round test x xs cycle in
      let p = x.0 in
      let y = last_edge x xs in
      let on = last_in x xs in
      let border = cycle.borders y on in
      let spots = ends_spots sw y (subst (λ (e : Edge). (e.0.0 ≡ e.1.0) × (e.0.1 ≡ e.1.1 + 1)) (sym comes) (refl, refl)) in
      let right : right_spot y ≡ spot p.0 (suc p.1) = spots.2 ∙ ap (λ (e : Edge). spot e.0.0 e.0.1) comes ∙ ap (spot p.0) (next p.1) in
      absurd (false≢true (sym (spot_above_open test x xs cycle from p.0 (suc p.1) refl) ∙ ap (side edges) (sym right)
      ∙ true_right _ _ (crossing_held edges test round y border (held_once edges y cycle.once on))
      (hole_set test one cell first edges round off (left_spot y) border.left)))
]
  where
    next : (n : ℕ) → n + 1 ≡ suc n
    next n = omega arith

-- so it comes first among the hole's edges

pub left_of_level : (p : Corner) (a : Place) → HasOnLeft (p, (p.0, p.1 + 1)) a → (a.0 + 1 ≡ p.0) × (a.1 ≡ p.1)
left_of_level p a (zero, within, is) = absurd (omega (arith, ap (λ (e : Edge). e.0.0) is, ap (λ (e : Edge). e.1.0) is))
left_of_level p a (suc zero, within, is) = (ap (λ (e : Edge). e.0.0) is, ap (λ (e : Edge). e.0.1) is)
left_of_level p a (suc (suc zero), within, is) = absurd (omega (arith, ap (λ (e : Edge). e.0.0) is, ap (λ (e : Edge). e.1.0) is))
left_of_level p a (suc (suc (suc zero)), within, is) = absurd (omega (arith, ap (λ (e : Edge). e.0.1) is, ap (λ (e : Edge). e.1.1) is))
left_of_level p a (suc (suc (suc (suc k))), within, is) = absurd (omega arith)

row_before : (p : Corner) (a b : Place) (q : Corner) → a.0 + 1 ≡ p.0 → IsFrom p q → q.0 ≡ b.0 → IsBefore a b
row_before p a b q row (inl is) same = inl (omega arith)
row_before p a b q row (inr is) same = inl (omega arith)

level_before : (p : Corner) (a b : Place) → a.0 + 1 ≡ p.0 → a.1 ≡ p.1 → IsFrom p (b.0 + 1, b.1) → IsBefore a b ⊎ ((b.0 + 1 ≡ p.0) × (b.1 ≡ p.1))
level_before p a b row col (inl is) = inl (inl (omega arith))
level_before p a b row col (inr is) = elim (cases_lt p.1 b.1) [ inl less ↦ inl (inr (omega arith, omega arith)) | inr on ↦ inr (omega arith, omega arith) ]

pub hole_order : (p : Corner) (e : Edge) (a b : Place) → HasOnLeft (p, (p.0, p.1 + 1)) a → HasOnLeft e b → IsFrom p e.0 → IsFrom p e.1
    → IsBefore a b ⊎ (e ≡ (p, (p.0, p.1 + 1)))
hole_order p e a b on_left (zero, within, is) starts ends =
    let at = left_of_level p a on_left in
    inl (row_before p a b e.0 at.0 starts (sym (ap (λ (f : Edge). f.0.0) is)))
hole_order p e a b on_left (suc zero, within, is) starts ends =
    let at = left_of_level p a on_left in
    elim (level_before p a b at.0 at.1 (subst (λ (q : Corner). IsFrom p q) (sym (ap (λ (f : Edge). f.0) is)) starts)) [
      | inl before ↦ inl before
      | inr same ↦ inr (edge_is e p (p.0, p.1 + 1) (pair_is e.0 p.0 p.1 (sym (ap (λ (f : Edge). f.0.0) is)
          ∙ same.0) (sym (ap (λ (f : Edge). f.0.1) is) ∙ same.1))
          (pair_is e.1 p.0 (p.1 + 1) (sym (ap (λ (f : Edge). f.1.0) is) ∙ same.0) (sym (ap (λ (f : Edge). f.1.1) is) ∙ ap (λ n. n + 1) same.1)))
    ]
hole_order p e a b on_left (suc (suc zero), within, is) starts ends =
    let at = left_of_level p a on_left in
    inl (row_before p a b e.1 at.0 ends (sym (ap (λ (f : Edge). f.1.0) is)))
hole_order p e a b on_left (suc (suc (suc zero)), within, is) starts ends =
    let at = left_of_level p a on_left in
    inl (row_before p a b e.0 at.0 starts (sym (ap (λ (f : Edge). f.0.0) is)))
hole_order p e a b on_left (suc (suc (suc (suc k))), within, is) starts ends = absurd (omega arith)

-- and of two holes the one whose first edge has the earlier cell starts before the other
pub holes_order : (p q : Corner) (a b : Place) → HasOnLeft (p, (p.0, p.1 + 1)) a → HasOnLeft (q, (q.0, q.1 + 1)) b → IsBefore a b → IsBefore p q
holes_order p q a b on_p on_q before = up p q a b (left_of_level p a on_p) (left_of_level q b on_q) before
  where
    up : (p q : Corner) (a b : Place) → (a.0 + 1 ≡ p.0) × (a.1 ≡ p.1) → (b.0 + 1 ≡ q.0) × (b.1 ≡ q.1) → IsBefore a b → IsBefore p q
    up p q a b at_p at_q (inl row) = inl (omega arith)
    up p q a b at_p at_q (inr same) = inr (omega arith, omega arith)

-- all corners of a cell that isn't before another come from its first corner on
pub from_cell : (cell b : Place) (e : Edge) → HasOnLeft e b → ¬ IsBefore b cell → IsFrom cell e.0
from_cell cell b e on_left not_before = at b e on_left (not_before_from cell b not_before)
  where
    not_before_from : (cell b : Place) → ¬ IsBefore b cell → IsFrom cell b
    not_before_from cell b none = elim (cases_lt cell.0 b.0) [
      | inl less ↦ inl less
      | inr past ↦ elim (cases_lt b.0 cell.0) [
        | inl above ↦ absurd (none (inl above))
        | inr level ↦ elim (cases_lt b.1 cell.1) [ inl left ↦ absurd (none (inr (omega arith, left))) | inr on ↦ inr (omega arith, on) ]
      ]
    ]

    down : (b : Place) (q : Corner) → IsFrom cell b → b.0 ≤ q.0 → b.1 ≤ q.1 → IsFrom cell q
    down b q (inl less) row col = inl (omega arith)
    down b q (inr same) row col = elim (cases_lt cell.0 q.0) [ inl less ↦ inl less | inr level ↦ inr (omega arith, omega arith) ]

    at : (b : Place) (e : Edge) → HasOnLeft e b → IsFrom cell b → IsFrom cell e.0
    at b e (zero, within, is) from = down b e.0 from (omega (arith, ap (λ (f : Edge). f.0.0) is)) (omega (arith, ap (λ (f : Edge). f.0.1) is))
    at b e (suc zero, within, is) from = down b e.0 from (omega (arith, ap (λ (f : Edge). f.0.0) is)) (omega (arith, ap (λ (f : Edge). f.0.1) is))
    at b e (suc (suc zero), within, is) from = down b e.0 from (omega (arith, ap (λ (f : Edge). f.0.0) is)) (omega (arith, ap (λ (f : Edge). f.0.1) is))
    at b e (suc (suc (suc zero)), within, is) from = down b e.0 from (omega (arith, ap (λ (f : Edge). f.0.0) is)) (omega (arith, ap (λ (f : Edge). f.0.1) is))
    at b e (suc (suc (suc (suc k))), within, is) from = absurd (omega arith)
