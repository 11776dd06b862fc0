-- A cycle that starts at its least corner turns there; the ring of its turns is canonical; no two cycles start at one corner.
use Rattle.std.proofs.Common.{◌≡◌, ◌≢◌, ℕ, ◌+◌, ◌≤◌, ◌<◌, ◌⊎◌, inl, inr, Bool, true, false, not, List, [], ◌∷◌, refl, sym, ap, ◌∙◌, subst, arith}
use Rattle.std.specs.Prelude.{Contains}
use Rattle.std.proofs.lemmas.Bool.{eq-eqb, ne_eqb}
use Rattle.cell_base.specs.Raster.{Place}
use Rattle.cell_base.specs.Order.{IsBefore}
use Rattle.cell_base.proofs.ListDeciders.{contains_cases, contains_here, contains_there}
use Rattle.edge_trace.specs.Edge.{Corner, Edge, IsUnitEdge, turned, is_level}
use Rattle.ring_faces.specs.Ring.{Ring, edges_of}
use Rattle.ring_faces.specs.CanonicalPolygon.{ListsTurns, StartsLeast}
use Rattle.ring_faces.specs.Inner.Turns.{at_turn, turns_after, turns_of}
use Rattle.ring_faces.proofs.SpotLemmas.{IsBorder, edge_is, pair_is}
use Rattle.ring_faces.proofs.PartLemmas.{IsOnePart, border_not_turned}
use Rattle.ring_faces.proofs.CycleLemmas.{Follows, Runs, IsCycle, cycle_leads, next_of}
use Rattle.ring_faces.proofs.TurnLemmas.{IsFrom}
use Rattle.ring_faces.proofs.SimpleLemmas.{start_apart}
use Rattle.ring_faces.proofs.MemberLemmas.{all_of, none_in}
use Rattle.ring_faces.proofs.ListingLemmas.{GoesOn, last_edge, rings}

-- no corner of the edges is before this one
abbrev pub AllFrom : Corner → List Edge → Type 0
AllFrom p edges = (e : Edge) → Contains edges e → IsFrom p e.0

-- nor is one where an edge ends
pub ends_from : (test : Place → Bool) (x : Edge) (xs : List Edge) → IsCycle test x xs → (p : Corner) → AllFrom p (x ∷ xs) → (e : Edge)
    → Contains (x ∷ xs) e → IsFrom p e.1
ends_from test x xs cycle p from e member =
    let found = next_of test x xs x cycle.runs e member in
    subst (λ (q : Corner). IsFrom p q) found.follows.begins (elim found.where_is [
      | inl later ↦ from found.next (contains_there x xs found.next later)
      | inr is ↦ subst (λ (f : Edge). IsFrom p f.0) (sym is) (from x (contains_here x xs))
    ])

last_follows : (test : Place → Bool) (x : Edge) (xs : List Edge) (end : Edge) → Runs test x xs end → Follows test (last_edge x xs) end
unfolding last_edge
last_follows test x [] end runs = runs
last_follows test x (y ∷ ys) end runs = last_follows test y ys end runs.1

pub last_in : (x : Edge) (xs : List Edge) → Contains (x ∷ xs) (last_edge x xs)
unfolding last_edge
last_in x [] = contains_here x []
last_in x (y ∷ ys) = contains_there x (y ∷ ys) (last_edge y ys) (last_in y ys)

goes_on : (test : Place → Bool) (x : Edge) (xs : List Edge) → ((e : Edge) → Contains (x ∷ xs) e → IsBorder test e) → GoesOn (x ∷ xs)
goes_on test x [] borders = tt
goes_on test x (y ∷ ys) borders = (
  λ same. border_not_turned test x (borders x (contains_here x (y ∷ ys)))
      (subst (λ (e : Edge). IsBorder test e) same (borders y (contains_there x (y ∷ ys) y (contains_here y ys)))),
  goes_on test y ys (λ e member. borders e (contains_there x (y ∷ ys) e member)),
)

-- from the least corner an edge leads right or down
abbrev LeadsAway : Corner → Corner → Type 0
LeadsAway p q = ((q.0 ≡ p.0) × (q.1 ≡ p.1 + 1)) ⊎ ((q.0 ≡ p.0 + 1) × (q.1 ≡ p.1))

not_from_left : (p q : Corner) → p.0 ≡ q.0 → q.1 + 1 ≡ p.1 → ¬ IsFrom p q
not_from_left p q row col (inl is) = omega arith
not_from_left p q row col (inr is) = omega arith

not_from_above : (p q : Corner) → q.0 + 1 ≡ p.0 → ¬ IsFrom p q
not_from_above p q row (inl is) = omega arith
not_from_above p q row (inr is) = omega arith

away : (p q : Corner) → IsUnitEdge (p, q) → IsFrom p q → LeadsAway p q
away p q (inl (row, inl col)) from = absurd (not_from_left p q row (omega arith) from)
away p q (inl (row, inr col)) from = inl (sym row, col)
away p q (inr (col, inl row)) from = absurd (not_from_above p q (omega arith) from)
away p q (inr (col, inr row)) from = inr (row, sym col)

unit_back : (e : Edge) → IsUnitEdge e → IsUnitEdge (e.1, e.0)
unit_back e (inl (row, inl col)) = inl (sym row, inr col)
unit_back e (inl (row, inr col)) = inl (sym row, inl col)
unit_back e (inr (col, inl row)) = inr (sym col, inr row)
unit_back e (inr (col, inr row)) = inr (sym col, inl row)

-- the edge that leaves the least corner and the one that comes to it: one goes right or comes from there, the other is upright
pub record AtLeast (p : Corner) (x y : Edge) : Type 0 where
  pub way : is_level x ≡ not (is_level y)
  pub right : (x ≡ (p, (p.0, p.1 + 1))) ⊎ (y ≡ ((p.0, p.1 + 1), p))

level_is : (e : Edge) → e.0.0 ≡ e.1.0 → is_level e ≡ true
level_is e same = eq-eqb e.0.0 e.1.0 same

upright_is : (e : Edge) → e.0.0 ≢ e.1.0 → is_level e ≡ false
upright_is e other = ne_eqb e.0.0 e.1.0 other

at_least : (test : Place → Bool) (p : Corner) (x y : Edge) → IsBorder test x → IsBorder test y → x.0 ≡ p → y.1 ≡ p → LeadsAway p x.1
    → LeadsAway p y.0 → AtLeast p x y
at_least test p x y border_x border_y starts ends (inl one) (inl two) =
    absurd (border_not_turned test x border_x (subst (λ (e : Edge). IsBorder test e)
    (edge_is y x.1 x.0 (pair_is y.0 x.1.0 x.1.1 (two.0 ∙ sym one.0) (two.1 ∙ sym one.1)) (ends ∙ sym starts)) border_y))
at_least test p x y border_x border_y starts ends (inr one) (inr two) =
    absurd (border_not_turned test x border_x (subst (λ (e : Edge). IsBorder test e)
    (edge_is y x.1 x.0 (pair_is y.0 x.1.0 x.1.1 (two.0 ∙ sym one.0) (two.1 ∙ sym one.1)) (ends ∙ sym starts)) border_y))
at_least test p x y border_x border_y starts ends (inl one) (inr two) = record {
  way = level_is x (ap (λ (q : Corner). q.0) starts ∙ sym one.0)
      ∙ sym (ap not (upright_is y (λ same. more p.0 (sym two.0 ∙ same ∙ ap (λ (q : Corner). q.0) ends))));
  right = inl (edge_is x p (p.0, p.1 + 1) starts (pair_is x.1 p.0 (p.1 + 1) one.0 one.1));
}
  where
    more : (n : ℕ) → n + 1 ≢ n
    more n same = omega arith
at_least test p x y border_x border_y starts ends (inr one) (inl two) = record {
  way = upright_is x (λ same. more p.0 (sym one.0 ∙ sym same ∙ ap (λ (q : Corner). q.0) starts))
      ∙ sym (ap not (level_is y (two.0 ∙ sym (ap (λ (q : Corner). q.0) ends))));
  right = inr (edge_is y (p.0, p.1 + 1) p (pair_is y.0 p.0 (p.1 + 1) two.0 two.1) ends);
}
  where
    more : (n : ℕ) → n + 1 ≢ n
    more n same = omega arith

pub least_edges : (test : Place → Bool) (x : Edge) (xs : List Edge) → IsCycle test x xs → AllFrom x.0 (x ∷ xs) → AtLeast x.0 x (last_edge x xs)
least_edges test x xs cycle from =
    let y = last_edge x xs in
    let has_y = last_in x xs in
    let border_x = cycle.borders x (contains_here x xs) in
    let border_y = cycle.borders y has_y in
    let ends : y.1 ≡ x.0 = sym (last_follows test x xs x cycle.runs).begins in
    let unit_y : IsUnitEdge (x.0, y.0) = subst (λ (q : Corner). IsUnitEdge (q, y.0)) ends (unit_back y border_y.unit) in
    at_least test x.0 x y border_x border_y refl ends (away x.0 x.1 border_x.unit (ends_from test x xs cycle x.0 from x (contains_here x xs)))
    (away x.0 y.0 unit_y (from y has_y))

-- the corners of the turns are starts of later edges
of_turns : (way : Bool) (es : List Edge) (p : Corner) → Contains (turns_after way es) p → (e : Edge) × Contains es e × (e.0 ≡ p)
of_turns way [] p member = absurd (none_in p member)
of_turns way (e ∷ es) p member = elim (of_turn way (is_level e) e.0 (turns_after (is_level e) es) p member) [
  | inl here ↦ (e, contains_here e es, here)
  | inr there ↦
      let found = of_turns (is_level e) es p there in
      (found.0, contains_there e es found.0 found.1, found.2)
]
  where
    of_turn : (v w : Bool) (q : Corner) (qs : List Corner) (p : Corner) → Contains (at_turn v w q qs) p → (q ≡ p) ⊎ Contains qs p
    of_turn true true q qs p has = inr has
    of_turn false false q qs p has = inr has
    of_turn true false q qs p has = contains_cases q qs p has
    of_turn false true q qs p has = contains_cases q qs p has

-- and those of the turns of a closed list are starts of its edges
pub start_of_turn : (es : List Edge) (p : Corner) → Contains (turns_of es) p → (e : Edge) × Contains es e × (e.0 ≡ p)
start_of_turn [] p member = absurd (none_in p member)
start_of_turn (e ∷ es) p member = of_turns (not (is_level e)) (e ∷ es) p member

pub before_from : (p q : Corner) → IsFrom p q → p ≢ q → IsBefore p q
before_from p q (inl row) other = inl row
before_from p q (inr is) other = inr (is.0, less p.1 q.1 is.1 (λ same. other (pair_is p q.0 q.1 is.0 same)))
  where
    less : (m n : ℕ) → m ≤ n → m ≢ n → m < n
    less m n le apart = omega arith

-- the ring of a cycle
pub record RingOf (x : Edge) (xs : List Edge) (ring : Ring) : Type 0 where
  pub first : ring ≡ x.0 ∷ turns_after (is_level x) xs
  pub edges : edges_of ring ≡ x ∷ xs
  pub turns : ListsTurns ring
  pub least : StartsLeast ring

-- the turns of a cycle from its least corner are such a ring
pub ring_of_cycle : (test : Place → Bool) → IsOnePart test → (x : Edge) (xs : List Edge) → IsCycle test x xs → AllFrom x.0 (x ∷ xs)
    → RingOf x xs (turns_of (x ∷ xs))
ring_of_cycle test one x xs cycle from =
    let at = least_edges test x xs cycle from in
    let found = rings x.0 x xs (cycle_leads test x xs cycle) (goes_on test x xs cycle.borders) at.way in
    record {
      first = found.first;
      edges = found.edges;
      turns = found.turns;
      least = subst (λ (r : Ring). StartsLeast r) (sym found.first) (all_of (IsBefore x.0) (turns_after (is_level x) xs) (λ p member.
          let e = of_turns (is_level x) xs p member in
          before_from x.0 p (subst (λ (q : Corner). IsFrom x.0 q) e.2 (from e.0 (contains_there x xs e.0 e.1)))
          (λ same. start_apart test one x xs x cycle.runs cycle.once cycle.borders e.0 e.1 (same ∙ sym e.2))));
    }

-- two cycles that start at one least corner have an edge in common
pub least_meet : (test : Place → Bool) (x : Edge) (xs : List Edge) (y : Edge) (ys : List Edge) → IsCycle test x xs → IsCycle test y ys
    → AllFrom x.0 (x ∷ xs) → AllFrom y.0 (y ∷ ys) → x.0 ≡ y.0 → (e : Edge) × Contains (x ∷ xs) e × Contains (y ∷ ys) e
least_meet test x xs y ys cycle_x cycle_y from_x from_y same = meet (least_edges test x xs cycle_x from_x).right
    (subst (λ (p : Corner). (y ≡ (p, (p.0, p.1 + 1))) ⊎ (last_edge y ys ≡ ((p.0, p.1 + 1), p))) (sym same) (least_edges test y ys cycle_y from_y).right)
  where
    meet : ((x ≡ (x.0, (x.0.0, x.0.1 + 1))) ⊎ (last_edge x xs ≡ ((x.0.0, x.0.1 + 1), x.0)))
        → ((y ≡ (x.0, (x.0.0, x.0.1 + 1))) ⊎ (last_edge y ys ≡ ((x.0.0, x.0.1 + 1), x.0))) → (e : Edge) × Contains (x ∷ xs) e × Contains (y ∷ ys) e
    meet (inl one) (inl two) = (x, contains_here x xs, subst (λ (e : Edge). Contains (y ∷ ys) e) (two ∙ sym one) (contains_here y ys))
    meet (inr one) (inr two) = (last_edge x xs, last_in x xs, subst (λ (e : Edge). Contains (y ∷ ys) e) (two ∙ sym one) (last_in y ys))
    meet (inl one) (inr two) = absurd (border_not_turned test x (cycle_x.borders x (contains_here x xs))
        (subst (λ (e : Edge). IsBorder test e) (two ∙ sym (ap turned one)) (cycle_y.borders (last_edge y ys) (last_in y ys))))
    meet (inr one) (inl two) = absurd (border_not_turned test y (cycle_y.borders y (contains_here y ys))
        (subst (λ (e : Edge). IsBorder test e) (one ∙ sym (ap turned two)) (cycle_x.borders (last_edge x xs) (last_in x xs))))
