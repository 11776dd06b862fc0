-- A ring that lists its turns is what its edges' turns list.
use Rattle.std.proofs.Common.{◌≡◌, ◌≢◌, ℕ, zero, suc, ◌+◌, ◌-◌, ◌≤◌, ◌<◌, ◌⊎◌, inl, inr, Bool, true, false, not, List, [], ◌∷◌, ◌++◌, refl, sym, ap, ◌∙◌, subst, arith}
use Rattle.std.specs.Prelude.{◌==◌, All, Contains}
use Rattle.std.specs.List.{zip, flat_map}
use Rattle.std.specs.Int.{abs_diff}
use Rattle.std.proofs.lemmas.Bool.{cases_lt, eq-eqb, ne_eqb}
use Rattle.std.proofs.lemmas.Bool.Decides.{nat_tests}
use Rattle.std.proofs.lemmas.List.Elements.{All-contains, All-head, All-tail, Contains-append_cases}
use Rattle.cell_base.specs.Order.{IsBefore}
use Rattle.cell_base.proofs.ListDeciders.{contains_cases, contains_there}
use Rattle.edge_trace.specs.Edge.{Corner, Edge}
use Rattle.ring_faces.specs.Ring.{Ring, cut, edges_of, edges_towards, nearer, pairs_round}
use Rattle.ring_faces.specs.Inner.Turns.{turns_after, turns_of}
use Rattle.ring_faces.specs.CanonicalPolygon.{IsLevel, IsUpright, IsTurn, ListsTurns, StartsLeast}
use Rattle.ring_faces.proofs.MemberLemmas.{none_in, of_flat}

-- the side runs along a row (true) or a column
abbrev pub HasWay : Bool → Edge → Type 0
HasWay true side = IsLevel side
HasWay false side = IsUpright side

pub nearer_self : (m n : ℕ) → m ≡ n → nearer m n ≡ m
nearer_self m n same = grind (arith, nat_tests)

nearer_other : (m n : ℕ) → m ≢ n → m ≢ nearer m n
nearer_other m n other = grind (arith, nat_tests)

nearer_far : (m n k : ℕ) → abs_diff m n ≡ suc k → abs_diff (nearer m n) n ≡ k
nearer_far m n k far = grind (arith, nat_tests)

far_other : (m n k : ℕ) → abs_diff m n ≡ suc k → m ≢ n
far_other m n k far = omega arith

-- straight on

level_on : (n : ℕ) (a b : Corner) (es : List Edge) → a.0 ≡ b.0 → turns_after true (edges_towards n a b ++ es) ≡ turns_after true es
level_on zero a b es row = refl
level_on (suc n) a b es row =
    let stays : a.0 ≡ nearer a.0 b.0 = sym (nearer_self a.0 b.0 row) in
    let flag : (a.0 == nearer a.0 b.0) ≡ true = eq-eqb a.0 (nearer a.0 b.0) stays in
    rw flag (level_on n (nearer a.0 b.0, nearer a.1 b.1) b es (sym stays ∙ row))

upright_on : (n : ℕ) (a b : Corner) (es : List Edge) → abs_diff a.0 b.0 ≡ n → turns_after false (edges_towards n a b ++ es) ≡ turns_after false es
upright_on zero a b es far = refl
upright_on (suc n) a b es far =
    let flag : (a.0 == nearer a.0 b.0) ≡ false = ne_eqb a.0 (nearer a.0 b.0) (nearer_other a.0 b.0 (far_other a.0 b.0 n far)) in
    rw flag (upright_on n (nearer a.0 b.0, nearer a.1 b.1) b es (nearer_far a.0 b.0 n far))

-- round a corner

level_turn : (n : ℕ) (a b : Corner) (es : List Edge) → a.0 ≡ b.0 → turns_after false (edges_towards (suc n) a b ++ es) ≡ a ∷ turns_after true es
level_turn n a b es row =
    let stays : a.0 ≡ nearer a.0 b.0 = sym (nearer_self a.0 b.0 row) in
    let flag : (a.0 == nearer a.0 b.0) ≡ true = eq-eqb a.0 (nearer a.0 b.0) stays in
    rw flag (ap (λ (ps : List Corner). a ∷ ps) (level_on n (nearer a.0 b.0, nearer a.1 b.1) b es (sym stays ∙ row)))

upright_turn : (n : ℕ) (a b : Corner) (es : List Edge) → abs_diff a.0 b.0 ≡ suc n
    → turns_after true (edges_towards (suc n) a b ++ es) ≡ a ∷ turns_after false es
upright_turn n a b es far =
    let flag : (a.0 == nearer a.0 b.0) ≡ false = ne_eqb a.0 (nearer a.0 b.0) (nearer_other a.0 b.0 (far_other a.0 b.0 n far)) in
    rw flag (ap (λ (ps : List Corner). a ∷ ps) (upright_on n (nearer a.0 b.0, nearer a.1 b.1) b es (nearer_far a.0 b.0 n far)))

pub far_suc : (m n : ℕ) → m ≢ n → abs_diff m n ≡ suc (abs_diff m n - 1)
far_suc m n other = omega arith

pub far_none : (m n : ℕ) → m ≡ n → abs_diff m n ≡ 0
far_none m n same = omega arith

side_turn : (way : Bool) (a b : Corner) (es : List Edge) → HasWay way (a, b) → turns_after (not way) (cut (a, b) ++ es) ≡ a ∷ turns_after way es
side_turn true a b es (row, far) =
    let long : abs_diff a.0 b.0 + abs_diff a.1 b.1 ≡ suc (abs_diff a.1 b.1 - 1) = omega (arith, far_none a.0 b.0 row, far_suc a.1 b.1 far) in
    rw long (level_turn (abs_diff a.1 b.1 - 1) a b es row)
side_turn false a b es (col, far) =
    let long : abs_diff a.0 b.0 + abs_diff a.1 b.1 ≡ suc (abs_diff a.0 b.0 - 1) = omega (arith, far_none a.1 b.1 col, far_suc a.0 b.0 far) in
    rw long (upright_turn (abs_diff a.0 b.0 - 1) a b es (far_suc a.0 b.0 far))

-- each side turns from the one before
abbrev pub Turning : Bool → List Edge → Type 0
Turning way [] = Unit
Turning way (s ∷ ss) = HasWay way s × Turning (not way) ss

not_not : (b : Bool) → not (not b) ≡ b
not_not true = refl
not_not false = refl

sides_turns : (way : Bool) (first x : Corner) (xs : List Corner) → Turning way (zip (x ∷ xs) (xs ++ first ∷ []))
    → turns_after (not way) (flat_map cut (zip (x ∷ xs) (xs ++ first ∷ []))) ≡ x ∷ xs
sides_turns way first x [] turning = side_turn way x first [] turning.0
sides_turns way first x (y ∷ ys) turning = side_turn way x y (flat_map cut (zip (y ∷ ys) (ys ++ first ∷ []))) turning.0
    ∙ ap (λ (ps : List Corner). x ∷ ps) (ap (λ (b : Bool). turns_after b (flat_map cut (zip (y ∷ ys) (ys ++ first ∷ [])))) (sym (not_not way))
    ∙ sides_turns (not way) first y ys turning.1)

-- from the rule that a ring lists its turns

next_way : (way : Bool) (s t : Edge) → HasWay way s → IsTurn (s, t) → HasWay (not way) t
next_way true s t is (inl turn) = turn.1
next_way true s t is (inr turn) = absurd (is.1 turn.0.0)
next_way false s t is (inl turn) = absurd (is.1 turn.0.0)
next_way false s t is (inr turn) = turn.1

turning_from : (way : Bool) (first s : Edge) (ss : List Edge) → HasWay way s → All IsTurn (zip (s ∷ ss) (ss ++ first ∷ [])) → Turning way (s ∷ ss)
turning_from way first s [] is turns = (is, tt)
turning_from way first s (t ∷ ts) is turns =
    let more = zip (t ∷ ts) (ts ++ first ∷ []) in
    (is, turning_from (not way) first t ts (next_way way s t is (All-head IsTurn (s, t) more turns)) (All-tail IsTurn (s, t) more turns))

first_way : (s : Edge) (ss : List Edge) → All IsTurn (pairs_round (s ∷ ss)) → (way : Bool) × Turning way (s ∷ ss)
first_way s [] turns = elim (All-head IsTurn (s, s) [] turns) [
  | inl is ↦ (true, (is.0, tt))
  | inr is ↦ (false, (is.0, tt))
]
first_way s (t ∷ ts) turns = elim (All-head IsTurn (s, t) (zip (t ∷ ts) (ts ++ s ∷ [])) turns) [
  | inl is ↦ (true, turning_from true s s (t ∷ ts) is.0 turns)
  | inr is ↦ (false, turning_from false s s (t ∷ ts) is.0 turns)
]

pub ring_way : (x : Corner) (xs : List Corner) → ListsTurns (x ∷ xs) → (way : Bool) × Turning way (zip (x ∷ xs) (xs ++ x ∷ []))
ring_way x [] turns = first_way (x, x) [] turns
ring_way x (y ∷ ys) turns = first_way (x, y) (zip (y ∷ ys) (ys ++ x ∷ [])) turns

side_first : (way : Bool) (a b : Corner) (es : List Edge) → HasWay way (a, b) → turns_of (cut (a, b) ++ es) ≡ turns_after (not way) (cut (a, b) ++ es)
side_first true a b es (row, far) =
    let long : abs_diff a.0 b.0 + abs_diff a.1 b.1 ≡ suc (abs_diff a.1 b.1 - 1) = omega (arith, far_none a.0 b.0 row, far_suc a.1 b.1 far) in
    let flag : (a.0 == nearer a.0 b.0) ≡ true = eq-eqb a.0 (nearer a.0 b.0) (sym (nearer_self a.0 b.0 row)) in
    rw long (rw flag refl)
side_first false a b es (col, far) =
    let long : abs_diff a.0 b.0 + abs_diff a.1 b.1 ≡ suc (abs_diff a.0 b.0 - 1) = omega (arith, far_none a.1 b.1 col, far_suc a.0 b.0 far) in
    let flag : (a.0 == nearer a.0 b.0) ≡ false = ne_eqb a.0 (nearer a.0 b.0) (nearer_other a.0 b.0 far) in
    rw long (rw flag refl)

turns_first : (way : Bool) (first x : Corner) (xs : List Corner) → Turning way (zip (x ∷ xs) (xs ++ first ∷ []))
    → turns_of (flat_map cut (zip (x ∷ xs) (xs ++ first ∷ []))) ≡ turns_after (not way) (flat_map cut (zip (x ∷ xs) (xs ++ first ∷ [])))
turns_first way first x [] turning = side_first way x first [] turning.0
turns_first way first x (y ∷ ys) turning = side_first way x y (flat_map cut (zip (y ∷ ys) (ys ++ first ∷ []))) turning.0

-- a ring that lists its turns is known by its edges
pub turns_back : (ring : Ring) → ListsTurns ring → turns_of (edges_of ring) ≡ ring
turns_back [] turns = refl
turns_back (x ∷ xs) turns =
    let found = ring_way x xs turns in
    turns_first found.0 x x xs found.1 ∙ sides_turns found.0 x x xs found.1

-- the start is the least of all corners that the ring visits

-- not before
abbrev pub IsFrom : Corner → Corner → Type 0
IsFrom p q = (p.0 < q.0) ⊎ ((p.0 ≡ q.0) × (p.1 ≤ q.1))

from_before : (p q : Corner) → IsBefore p q → IsFrom p q
from_before p q (inl row) = inl row
from_before p q (inr same) = inr (same.0, omega arith)

from_itself : (p q : Corner) → p ≡ q → IsFrom p q
from_itself p q same = inr (ap (λ (r : Corner). r.0) same, omega (arith, ap (λ (r : Corner). r.1) same))

from_further : (p a c : Corner) → IsFrom p a → a.0 ≤ c.0 → a.1 ≡ c.1 → IsFrom p c
from_further p a c (inl row) down same = inl (omega arith)
from_further p a c (inr is) down same = elim (cases_lt p.0 c.0) [ inl less ↦ inl less | inr past ↦ inr (omega arith, omega arith) ]

from_beside : (p a c : Corner) → IsFrom p a → a.0 ≡ c.0 → a.1 ≤ c.1 → IsFrom p c
from_beside p a c (inl row) same on = inl (omega arith)
from_beside p a c (inr is) same on = inr (omega arith, omega arith)

pub from_both : (p q : Corner) → IsFrom p q → IsFrom q p → p ≡ q
from_both p q (inl one) (inl two) = absurd (omega arith)
from_both p q (inl one) (inr two) = absurd (omega arith)
from_both p q (inr one) (inl two) = absurd (omega arith)
from_both p q (inr one) (inr two) =
    let rows : p.0 ≡ q.0 = omega arith in
    let cols : p.1 ≡ q.1 = omega arith in
    let same : (p.0, p.1) ≡ (q.0, q.1) = cc in
    same

nearer_up : (m n : ℕ) → m ≤ n → m ≤ nearer m n
nearer_up m n up = grind (arith, nat_tests)

nearer_down : (m n : ℕ) → n < m → n ≤ nearer m n
nearer_down m n down = grind (arith, nat_tests)

nearer_between : (m n x : ℕ) → nearer m n ≤ x → (m ≤ x) ⊎ (n ≤ x)
nearer_between m n x is = elim (cases_lt n m) [
  | inl down ↦ inr (omega (arith, nearer_down m n down))
  | inr up ↦ inl (omega (arith, nearer_up m n up))
]

level_between : (n : ℕ) (a b : Corner) → a.0 ≡ b.0 → (e : Edge) → Contains (edges_towards n a b) e → (e.0.0 ≡ a.0) × ((a.1 ≤ e.0.1) ⊎ (b.1 ≤ e.0.1))
level_between zero a b row e member = absurd (none_in e member)
level_between (suc n) a b row e member =
    let stays : nearer a.0 b.0 ≡ a.0 = nearer_self a.0 b.0 row in
    elim (contains_cases _ _ e member) [
      | inl here ↦ (ap (λ (f : Edge). f.0.0) (sym here), inl (omega (arith, ap (λ (f : Edge). f.0.1) here)))
      | inr there ↦
          let found = level_between n (nearer a.0 b.0, nearer a.1 b.1) b (stays ∙ row) e there in
          (found.0 ∙ stays, elim found.1 [ inl on ↦ nearer_between a.1 b.1 e.0.1 on | inr past ↦ inr past ])
    ]

upright_between : (n : ℕ) (a b : Corner) → a.1 ≡ b.1 → (e : Edge) → Contains (edges_towards n a b) e → (e.0.1 ≡ a.1) × ((a.0 ≤ e.0.0) ⊎ (b.0 ≤ e.0.0))
upright_between zero a b col e member = absurd (none_in e member)
upright_between (suc n) a b col e member =
    let stays : nearer a.1 b.1 ≡ a.1 = nearer_self a.1 b.1 col in
    elim (contains_cases _ _ e member) [
      | inl here ↦ (ap (λ (f : Edge). f.0.1) (sym here), inl (omega (arith, ap (λ (f : Edge). f.0.0) here)))
      | inr there ↦
          let found = upright_between n (nearer a.0 b.0, nearer a.1 b.1) b (stays ∙ col) e there in
          (found.0 ∙ stays, elim found.1 [ inl on ↦ nearer_between a.0 b.0 e.0.0 on | inr past ↦ inr past ])
    ]

side_from : (way : Bool) (p a b : Corner) → HasWay way (a, b) → IsFrom p a → IsFrom p b → (e : Edge) → Contains (cut (a, b)) e → IsFrom p e.0
side_from true p a b (row, far) from_a from_b e member =
    let found = level_between _ a b row e member in
    elim found.1 [ inl on ↦ from_beside p a e.0 from_a (sym found.0) on | inr past ↦ from_beside p b e.0 from_b (sym row ∙ sym found.0) past ]
side_from false p a b (col, far) from_a from_b e member =
    let found = upright_between _ a b col e member in
    elim found.1 [ inl on ↦ from_further p a e.0 from_a on (sym found.0) | inr past ↦ from_further p b e.0 from_b past (sym col ∙ sym found.0) ]

turning_way : (way : Bool) (sides : List Edge) → Turning way sides → (s : Edge) → Contains sides s → (w : Bool) × HasWay w s
turning_way way [] turning s member = absurd (none_in s member)
turning_way way (t ∷ ts) turning s member = elim (contains_cases t ts s member) [
  | inl here ↦ (way, subst (λ (u : Edge). HasWay way u) here turning.0)
  | inr there ↦ turning_way (not way) ts turning.1 s there
]

of_zip : (xs ys : List Corner) (s : Edge) → Contains (zip xs ys) s → Contains xs s.0 × Contains ys s.1
of_zip [] ys s member = absurd (none_in s member)
of_zip (x ∷ xs) [] s member = absurd (none_in s member)
of_zip (x ∷ xs) (y ∷ ys) s member = elim (contains_cases (x, y) (zip xs ys) s member) [
  | inl here ↦ ((0, omega arith, ap (λ (e : Edge). e.0) here), (0, omega arith, ap (λ (e : Edge). e.1) here))
  | inr there ↦
      let found = of_zip xs ys s there in
      (contains_there x xs s.0 found.0, contains_there y ys s.1 found.1)
]

pub all_from : (x : Corner) (xs : List Corner) → ListsTurns (x ∷ xs) → StartsLeast (x ∷ xs) → (e : Edge) → Contains (edges_of (x ∷ xs)) e → IsFrom x e.0
all_from x xs turns least e member =
    let sides = zip (x ∷ xs) (xs ++ x ∷ []) in
    let way = ring_way x xs turns in
    let found = of_flat cut sides e member in
    let s = found.0 in
    let ends = of_zip (x ∷ xs) (xs ++ x ∷ []) s found.1 in
    let its = turning_way way.0 sides way.1 s found.1 in
    side_from its.0 x s.0 s.1 its.1 (from_corner s.0 ends.0)
    (elim (Contains-append_cases xs (x ∷ []) s.1 ends.1) [
      | inl later ↦ from_before x s.1
          (All-contains (IsBefore x) xs s.1 least later)
      | inr last ↦ from_corner s.1 (only_one s.1 last)
    ]) e found.2
  where
    from_corner : (p : Corner) → Contains (x ∷ xs) p → IsFrom x p
    from_corner p on = elim (contains_cases x xs p on) [
      | inl here ↦ from_itself x p here
      | inr later ↦ from_before x p
          (All-contains (IsBefore x) xs p least later)
    ]

    only_one : (p : Corner) → Contains (x ∷ []) p → Contains (x ∷ xs) p
    only_one p last = elim (contains_cases x [] p last) [ inl here ↦ (0, omega arith, here) | inr none ↦ absurd (none_in p none) ]
