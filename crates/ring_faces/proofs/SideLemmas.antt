-- Crossing a unit edge changes sides of a closed walk exactly where the walk holds the edge, or the turned one, an odd number of times.
use Rattle.std.proofs.Common.{◌≡◌, ℕ, zero, suc, ◌+◌, Bool, true, false, List, [], ◌∷◌, Option, Some, None, refl, sym, ap, ◌∙◌, subst, arith}
use Rattle.std.specs.Prelude.{◌==◌, ◌&&◌, nat_le}
use Rattle.std.proofs.lemmas.Bool.Decides.{nat_tests}
use Rattle.std.proofs.Math.Bool.{xor}
use Rattle.cell_base.specs.Raster.{Place}
use Rattle.edge_trace.specs.Edge.{Corner, Edge, IsUnitEdge, turned}
use Rattle.edge_trace.specs.Crossing.{is_crossed}
use Rattle.edge_trace.proofs.EdgeDeciders.{same_edge}
use Rattle.edge_trace.proofs.ParityLemmas.{change_beside, xor_false, xor_self, is_level_at, is_odd, is_upright_at, odd_xor, odd_is_count}
use Rattle.ring_faces.proofs.RingLemmas.{Leads}
use Rattle.ring_faces.proofs.WalkParityLemmas.{changes_sides, odd_below, odd_same}
use Rattle.ring_faces.proofs.SpotLemmas.{Quarter, nw, ne, se, sw, turn, spot, spot_at, quarter, left_spot, right_spot, side, edge_is, pair_is, Ends, unit_ends, ends_unit, left_at_start, right_at_start, turned_left, turned_right}

pub side_none : (edges : List Edge) → side edges None ≡ false
unfolding side
side_none edges = refl

pub side_some : (edges : List Edge) (cell : Place) → side edges (Some cell) ≡ is_odd (is_crossed cell) edges
unfolding side
side_some edges cell = sym (odd_is_count cell edges)

pub xor_swap : (a b : Bool) → xor a b ≡ xor b a
unfolding xor
xor_swap true true = refl
xor_swap true false = refl
xor_swap false true = refl
xor_swap false false = refl

xor_gone : (a b : Bool) → xor (xor a b) a ≡ b
unfolding xor
xor_gone true true = refl
xor_gone true false = refl
xor_gone false true = refl
xor_gone false false = refl

xor_none : (a : Bool) → xor a false ≡ a
unfolding xor
xor_none true = refl
xor_none false = refl

pub same_by_xor : (a b : Bool) → xor a b ≡ false → a ≡ b
unfolding xor
same_by_xor true true is = refl
same_by_xor true false is = is
same_by_xor false true is = sym is
same_by_xor false false is = refl

odd_each : (p q : Edge → Bool) → ((e : Edge) → p e ≡ q e) → (es : List Edge) → is_odd p es ≡ is_odd q es
odd_each p q same [] = refl
odd_each p q same (e ∷ es) = rw (same e, odd_each p q same es) refl

-- upright edges

first_column : (r : ℕ) (e : Edge) → is_crossed (r, 0) e ≡ is_upright_at r 0 e
first_column r e = grind (arith, nat_tests)

next_column : (r c : ℕ) (e : Edge) → is_crossed (r, suc c) e ≡ xor (is_crossed (r, c) e) (is_upright_at r (suc c) e)
next_column r c e =
    let next : c + 1 ≡ suc c = omega arith in
    subst (λ (k : ℕ). is_crossed (r, k) e ≡ xor (is_crossed (r, c) e) (is_upright_at r k e)) next (change_beside r c e)

across_upright : (edges : List Edge) (r j : ℕ) → xor (side edges (spot (suc r) (suc j))) (side edges (spot (suc r) j)) ≡ is_odd (is_upright_at r j) edges
across_upright edges r zero = ap (xor (side edges (Some (r, 0)))) (side_none edges) ∙ xor_none (side edges (Some (r, 0))) ∙ side_some edges (r, 0)
    ∙ odd_each _ _ (first_column r) edges
across_upright edges r (suc c) =
    let here : side edges (Some (r, suc c)) ≡ xor (side edges (Some (r, c))) (is_odd (is_upright_at r (suc c)) edges) = side_some edges (r, suc c)
    ∙ odd_each _ _ (next_column r c) edges ∙ odd_xor (is_crossed (r, c)) (is_upright_at r (suc c)) edges
    ∙ ap (λ (b : Bool). xor b (is_odd (is_upright_at r (suc c)) edges)) (sym (side_some edges (r, c))) in
    ap (λ (b : Bool). xor b (side edges (Some (r, c)))) here ∙ xor_gone (side edges (Some (r, c))) (is_odd (is_upright_at r (suc c)) edges)

-- level edges

in_front : ℕ → ℕ → Corner → Bool
in_front row col p = (p.0 == row) && nat_le p.1 col

top_edge : (col : ℕ) (e : Edge) → IsUnitEdge e → xor (in_front 0 col e.0) (in_front 0 col e.1) ≡ xor (is_crossed (0, col) e) (is_level_at 0 col e)
unfolding in_front xor
top_edge col e unit = grind (arith, nat_tests)

across_level : (a : Corner) (edges : List Edge) → Leads a edges a → (i j : ℕ)
    → xor (side edges (spot i (suc j))) (side edges (spot (suc i) (suc j))) ≡ is_odd (is_level_at i j) edges
across_level a edges closed zero j =
    let part = in_front 0 j in
    let even : is_odd (λ e. xor (part e.0) (part e.1)) edges ≡ false = changes_sides part a a edges closed ∙ xor_self (part a) in
    let same = odd_same _ _ (top_edge j) a a edges closed in
    let split = odd_xor (is_crossed (0, j)) (is_level_at 0 j) edges in
    ap (λ (b : Bool). xor b (side edges (Some (0, j)))) (side_none edges) ∙ xor_false (side edges (Some (0, j))) ∙ side_some edges (0, j)
    ∙ same_by_xor (is_odd (is_crossed (0, j)) edges) (is_odd (is_level_at 0 j) edges) (sym split ∙ sym same ∙ even)
across_level a edges closed (suc r) j =
    let next : r + 1 ≡ suc r = omega arith in
    let even = subst (λ (k : ℕ). xor (xor (is_odd (is_crossed (r, j)) edges) (is_odd (is_crossed (k, j)) edges))
    (is_odd (is_level_at k j) edges) ≡ false) next (odd_below a edges r j closed) in
    ap (λ (b : Bool). xor b (side edges (Some (suc r, j)))) (side_some edges (r, j))
    ∙ ap (xor (is_odd (is_crossed (r, j)) edges)) (side_some edges (suc r, j))
    ∙ same_by_xor (xor (is_odd (is_crossed (r, j)) edges) (is_odd (is_crossed (suc r, j)) edges)) (is_odd (is_level_at (suc r) j) edges) even

-- whether a list holds an edge an odd number of times
abbrev pub odd_held : List Edge → Edge → Bool
odd_held edges e = is_odd (λ x. same_edge x e) edges

split_upright : (r j : ℕ) (e : Edge) → is_upright_at r j e ≡ xor (same_edge e ((r, j), (r + 1, j))) (same_edge e ((r + 1, j), (r, j)))
unfolding xor
split_upright r j e = grind (arith, nat_tests)

split_level : (r j : ℕ) (e : Edge) → is_level_at r j e ≡ xor (same_edge e ((r, j), (r, j + 1))) (same_edge e ((r, j + 1), (r, j)))
unfolding xor
split_level r j e = grind (arith, nat_tests)

-- what crossing an edge changes
abbrev pub IsCrossing : List Edge → Edge → Type 0
IsCrossing edges e = xor (side edges (left_spot e)) (side edges (right_spot e)) ≡ xor (odd_held edges e) (odd_held edges (turned e))

crossing_by : (edges : List Edge) (e : Edge) (a b : Option Place) → left_spot e ≡ a → right_spot e ≡ b
    → xor (side edges a) (side edges b) ≡ xor (odd_held edges e) (odd_held edges (turned e)) → IsCrossing edges e
crossing_by edges e a b left right is = rw (left, right) is

crossing_down : (edges : List Edge) (r j : ℕ) → IsCrossing edges ((r, j), (r + 1, j))
crossing_down edges r j =
    let e : Edge = ((r, j), (r + 1, j)) in
    let q : quarter e ≡ se = (ends_unit se e (refl, refl)).1 in
    crossing_by edges e (spot (suc r) (suc j)) (spot (suc r) j) (left_at_start e ∙ ap (spot_at e.0) q) (right_at_start e
    ∙ ap (λ (k : Quarter). spot_at e.0 (turn k)) q) (across_upright edges r j ∙ odd_each _ _ (split_upright r j) edges
    ∙ odd_xor (λ x. same_edge x e) (λ x. same_edge x (turned e)) edges)

crossing_right : (a : Corner) (edges : List Edge) → Leads a edges a → (r j : ℕ) → IsCrossing edges ((r, j), (r, j + 1))
crossing_right a edges closed r j =
    let e : Edge = ((r, j), (r, j + 1)) in
    let q : quarter e ≡ ne = (ends_unit ne e (refl, refl)).1 in
    crossing_by edges e (spot r (suc j)) (spot (suc r) (suc j)) (left_at_start e ∙ ap (spot_at e.0) q) (right_at_start e
    ∙ ap (λ (k : Quarter). spot_at e.0 (turn k)) q) (across_level a edges closed r j ∙ odd_each _ _ (split_level r j) edges
    ∙ odd_xor (λ x. same_edge x e) (λ x. same_edge x (turned e)) edges)

crossing_back : (edges : List Edge) (e : Edge) → IsUnitEdge e → IsCrossing edges (turned e) → IsCrossing edges e
crossing_back edges e unit is = xor_swap (side edges (left_spot e)) (side edges (right_spot e))
    ∙ sym (ap (λ (o : Option Place). xor (side edges o) (side edges (right_spot (turned e)))) (turned_left e unit)
    ∙ ap (λ (o : Option Place). xor (side edges (right_spot e)) (side edges o)) (turned_right e unit)) ∙ is
    ∙ xor_swap (odd_held edges (turned e)) (odd_held edges e)

crossing_cases : (a : Corner) (edges : List Edge) → Leads a edges a → (k : Quarter) (e : Edge) → IsUnitEdge e → Ends k e.0 e.1 → IsCrossing edges e
crossing_cases a edges closed se e unit ends =
    let is : e ≡ ((e.0.0, e.0.1), (e.0.0 + 1, e.0.1)) = edge_is e (e.0.0, e.0.1) (e.0.0 + 1, e.0.1) (pair_is e.0 _ _ refl refl)
    (pair_is e.1 _ _ ends.1 (sym ends.0)) in
    subst (λ (f : Edge). IsCrossing edges f) (sym is) (crossing_down edges e.0.0 e.0.1)
crossing_cases a edges closed ne e unit ends =
    let is : e ≡ ((e.0.0, e.0.1), (e.0.0, e.0.1 + 1)) = edge_is e (e.0.0, e.0.1) (e.0.0, e.0.1 + 1) (pair_is e.0 _ _ refl refl)
    (pair_is e.1 _ _ (sym ends.0) ends.1) in
    subst (λ (f : Edge). IsCrossing edges f) (sym is) (crossing_right a edges closed e.0.0 e.0.1)
crossing_cases a edges closed nw e unit ends =
    let is : turned e ≡ ((e.1.0, e.1.1), (e.1.0 + 1, e.1.1)) = edge_is (turned e) (e.1.0, e.1.1) (e.1.0 + 1, e.1.1) (pair_is e.1 _ _ refl refl)
    (pair_is e.0 _ _ ends.1 ends.0) in
    crossing_back edges e unit (subst (λ (f : Edge). IsCrossing edges f) (sym is) (crossing_down edges e.1.0 e.1.1))
crossing_cases a edges closed sw e unit ends =
    let is : turned e ≡ ((e.1.0, e.1.1), (e.1.0, e.1.1 + 1)) = edge_is (turned e) (e.1.0, e.1.1) (e.1.0, e.1.1 + 1) (pair_is e.1 _ _ refl refl)
    (pair_is e.0 _ _ ends.0 ends.1) in
    crossing_back edges e unit (subst (λ (f : Edge). IsCrossing edges f) (sym is) (crossing_right a edges closed e.1.0 e.1.1))

-- the formula
pub crossing : (a : Corner) (edges : List Edge) → Leads a edges a → (e : Edge) → IsUnitEdge e → IsCrossing edges e
crossing a edges closed e unit = crossing_cases a edges closed (quarter e) e unit (unit_ends e unit)
