-- The edges of a ring lead round.
use Rattle.std.proofs.Common.{◌≡◌, ◌≢◌, ℕ, zero, suc, ◌+◌, inl, inr, List, [], ◌∷◌, ◌++◌, refl, sym, ap, arith}
use Rattle.std.specs.Prelude.{All}
use Rattle.std.specs.Int.{abs_diff}
use Rattle.std.specs.List.{zip, flat_map}
use Rattle.std.proofs.lemmas.Bool.Decides.{nat_tests}
use Rattle.std.proofs.lemmas.List.Elements.{All-nil, All-cons, All-head, All-tail}
use Rattle.cell_base.specs.Steps.{AreNext}
use Rattle.edge_trace.specs.Edge.{Corner, Edge, IsUnitEdge}
use Rattle.ring_faces.specs.Ring.{cut, edges_of, edges_towards, nearer, IsRing}

-- the edges lead from one corner to another, each a unit edge that begins where the one before ends
abbrev pub Leads : Corner → List Edge → Corner → Type 0
Leads a [] b = a ≡ b
Leads a (e ∷ es) b = (e.0 ≡ a) × IsUnitEdge e × Leads e.1 es b

pub leads-append : (a b c : Corner) (es fs : List Edge) → Leads a es b → Leads b fs c → Leads a (es ++ fs) c
leads-append a b c [] fs first second = rw first second
leads-append a b c (e ∷ es) fs first second = (first.0, first.1, leads-append e.1 b c es fs first.2 second)

far_none : (m n : ℕ) → abs_diff m n ≡ 0 → m ≡ n
far_none m n none = omega (arith, none)

-- where a number changes on the way, it is one nearer
nearer_less : (m n : ℕ) → nearer m n ≢ m → abs_diff m n ≡ abs_diff (nearer m n) n + 1
nearer_less m n moves = grind (arith, nat_tests)

nearer_same : (m n : ℕ) → nearer m n ≡ m → abs_diff (nearer m n) n ≡ abs_diff m n
nearer_same m n stays = ap (λ k. abs_diff k n) stays

next_differs : (m n : ℕ) → AreNext m n → n ≢ m
next_differs m n (inl up) = omega arith
next_differs m n (inr down) = omega arith

-- a unit edge towards a corner brings one nearer
unit_nearer : (a b : Corner) (n : ℕ) → abs_diff a.0 b.0 + abs_diff a.1 b.1 ≡ suc n → IsUnitEdge (a, (nearer a.0 b.0, nearer a.1 b.1)) → abs_diff (nearer a.0 b.0) b.0 + abs_diff (nearer a.1 b.1) b.1 ≡ n
unit_nearer a b n far (inl (row, next)) =
    let same = nearer_same a.0 b.0 (sym row) in
    let less = nearer_less a.1 b.1 (next_differs a.1 (nearer a.1 b.1) next) in
    omega (arith, far, same, less)
unit_nearer a b n far (inr (col, next)) =
    let same = nearer_same a.1 b.1 (sym col) in
    let less = nearer_less a.0 b.0 (next_differs a.0 (nearer a.0 b.0) next) in
    omega (arith, far, same, less)

towards_leads : (n : ℕ) (a b : Corner) → abs_diff a.0 b.0 + abs_diff a.1 b.1 ≡ n → All IsUnitEdge (edges_towards n a b) → Leads a (edges_towards n a b) b
towards_leads zero a b far units =
    let rows : a.0 ≡ b.0 = far_none a.0 b.0 (omega (arith, far)) in
    let cols : a.1 ≡ b.1 = far_none a.1 b.1 (omega (arith, far)) in
    let same : (a.0, a.1) ≡ (b.0, b.1) = cc in
    same
towards_leads (suc n) a b far units =
    let unit = All-head IsUnitEdge _ _ units in
    (refl, unit, towards_leads n (nearer a.0 b.0, nearer a.1 b.1) b (unit_nearer a b n far unit) (All-tail IsUnitEdge _ _ units))

cut_leads : (a b : Corner) → All IsUnitEdge (cut (a, b)) → Leads a (cut (a, b)) b
cut_leads a b units = towards_leads (abs_diff a.0 b.0 + abs_diff a.1 b.1) a b refl units

all_front : {A : Type 0} (P : A → Type 0) (xs ys : List A) → All P (xs ++ ys) → All P xs
all_front P [] ys all = All-nil P
all_front P (x ∷ xs) ys all = All-cons P x xs (All-head P x (xs ++ ys) all) (all_front P xs ys (All-tail P x (xs ++ ys) all))

all_rest : {A : Type 0} (P : A → Type 0) (xs ys : List A) → All P (xs ++ ys) → All P ys
all_rest P [] ys all = all
all_rest P (x ∷ xs) ys all = all_rest P xs ys (All-tail P x (xs ++ ys) all)

sides_lead : (first x : Corner) (xs : List Corner) → All IsUnitEdge (flat_map cut (zip (x ∷ xs) (xs ++ first ∷ []))) → Leads x (flat_map cut (zip (x ∷ xs) (xs ++ first ∷ []))) first
sides_lead first x [] units = leads-append x first first (cut (x, first)) [] (cut_leads x first (all_front IsUnitEdge (cut (x, first)) [] units)) refl
sides_lead first x (y ∷ ys) units =
    let rest = flat_map cut (zip (y ∷ ys) (ys ++ first ∷ [])) in
    leads-append x y first (cut (x, y)) rest (cut_leads x y (all_front IsUnitEdge (cut (x, y)) rest units)) (sides_lead first y ys (all_rest IsUnitEdge (cut (x, y)) rest units))

-- the edges of a ring lead from its first corner back to it
pub ring_leads : (first : Corner) (others : List Corner) → IsRing (first ∷ others) → Leads first (edges_of (first ∷ others)) first
ring_leads first others ring = sides_lead first first others ring.units
