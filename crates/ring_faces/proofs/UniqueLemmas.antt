-- A set has at most one canonical polygon.
use Rattle.std.proofs.Common.{◌≡◌, ◌≢◌, ◌≤◌, inl, inr, Bool, true, false, List, [], ◌∷◌, length, Option, Some, None, refl, sym, ap, ◌∙◌, subst, arith}
use Rattle.std.specs.Prelude.{AllPairs, Contains}
use Rattle.std.proofs.lemmas.Bool.{false≢true, cases_Bool}
use Rattle.std.proofs.lemmas.List.Elements.{All-contains}
use Rattle.std.proofs.Math.Bool.{xor}
use Rattle.cell_base.specs.Raster.{Place}
use Rattle.cell_base.specs.Walk.{IsConnected}
use Rattle.cell_base.specs.Steps.{four}
use Rattle.cell_base.proofs.OrderLemmas.{before_not_itself, before_trans}
use Rattle.cell_base.proofs.ListDeciders.{contains_cases, contains_here, contains_there}
use Rattle.edge_trace.specs.Edge.{Corner, Edge, IsUnitEdge, turned}
use Rattle.edge_trace.proofs.BoundaryLemmas.{Tests}
use Rattle.ring_faces.specs.Ring.{Ring, edges_of, IsInsideRing, IsRing, IsSimpleRing}
use Rattle.ring_faces.specs.LatticePolygon.{Polygon, rings_of, SharesNoEdge}
use Rattle.ring_faces.specs.EdgePolygon.{all_edges}
use Rattle.ring_faces.specs.CanonicalPolygon.{IsCanonicalPolygon, IsOnly, ListsTurns, StartsLeast, StartsBefore}
use Rattle.ring_faces.specs.Inner.Turns.{turns_of}
use Rattle.ring_faces.proofs.RingLemmas.{Leads, ring_leads}
use Rattle.ring_faces.proofs.SpotLemmas.{left_spot, right_spot, side, in_set, IsBorder, on_left_tells}
use Rattle.ring_faces.proofs.PartLemmas.{IsOnePart, IsRound, border_tells, cell_in, connected_is_part, crossing_other, held_once, held_or_not, not_held}
use Rattle.ring_faces.proofs.InsideLemmas.{true_right, left_edge, IsFirstCell, IsCycleList, hole_set}
use Rattle.ring_faces.proofs.TurnLemmas.{all_from, from_both, IsFrom, turns_back}
use Rattle.ring_faces.proofs.SideLemmas.{crossing, odd_held, side_none}
use Rattle.ring_faces.proofs.SimpleLemmas.{once_by_starts, same_cycle, same_edges, simple_cycle, starts_of}
use Rattle.ring_faces.proofs.RoundLemmas.{not_back}
use Rattle.ring_faces.proofs.MemberLemmas.{all_of, AreApart, in_flat, none_in, of_flat, once_flat, pairs_head, pairs_tail, pairs_weaker}
use Rattle.ring_faces.proofs.PolygonLemmas.{enclosed_tells, enclosed_told, covers_set, hole_off, IsTraced, one_part, traced_valid}

-- a ring's edges, from its first corner

record Closed (edges : List Edge) : Type 0 where
  start : Corner
  closed : Leads start edges start

ring_closed : (ring : Ring) → IsRing ring → Closed (edges_of ring)
ring_closed [] is = record { start = (0, 0); closed = refl }
ring_closed (x ∷ xs) is = record { start = x; closed = ring_leads x xs is }

-- crossing an edge of a simple ring
ring_crossing : (ring : Ring) → IsSimpleRing ring → (e : Edge) → IsUnitEdge e → Contains (edges_of ring) e
    → xor (side (edges_of ring) (left_spot e)) (side (edges_of ring) (right_spot e)) ≡ true
unfolding xor
ring_crossing ring simple e unit has =
    let edges = edges_of ring in
    let at = ring_closed ring simple.closed in
    let once = once_by_starts edges simple.simple in
    let back = not_back at.start edges at.closed simple.simple (omega (arith, simple.closed.long)) e has in
    crossing at.start edges at.closed e unit ∙ ap (λ (b : Bool). xor b (odd_held edges (turned e))) (held_once edges e once has)
    ∙ ap (xor true) (not_held edges (turned e) back)

false_right : (a b : Bool) → xor a b ≡ true → a ≡ true → b ≡ false
unfolding xor
false_right true true is other = absurd (false≢true is)
false_right true false is other = refl
false_right false b is other = absurd (false≢true other)

-- the case of a canonical polygon
record IsCase (set : Place → Type 0) (test : Place → Bool) (cell : Place) (polygon : Polygon) : Type 0 where
  tests : Tests set test
  connected : IsConnected four set
  first : IsFirstCell test cell
  canonical : IsCanonicalPolygon set polygon

simple_of : (set : Place → Type 0) (test : Place → Bool) (cell : Place) (polygon : Polygon) → IsCase set test cell polygon → (ring : Ring)
    → Contains (rings_of polygon) ring → IsSimpleRing ring
simple_of set test cell polygon is ring member = All-contains IsSimpleRing (rings_of polygon) ring is.canonical.valid.simple member

-- what is covered, by sides
inside_shell : (set : Place → Type 0) (test : Place → Bool) (cell : Place) (polygon : Polygon) → IsCase set test cell polygon → (a : Option Place)
    → in_set test a ≡ true → side (edges_of polygon.shell) a ≡ true
inside_shell set test cell polygon is a within =
    let found = cell_in test a within in
    let covered = (is.canonical.covers found.0).1 ((is.tests found.0).0 found.2) in
    ap (side (edges_of polygon.shell)) found.1 ∙ enclosed_tells (edges_of polygon.shell) found.0 covered.shell

outside_hole : (set : Place → Type 0) (test : Place → Bool) (cell : Place) (polygon : Polygon) → IsCase set test cell polygon → (hole : Ring)
    → Contains polygon.holes hole → (a : Option Place) → in_set test a ≡ true → side (edges_of hole) a ≡ false
outside_hole set test cell polygon is hole member a within = elim (cases_Bool (side (edges_of hole) a)) [
  | inl inside ↦
      let found = cell_in test a within in
      let covered = (is.canonical.covers found.0).1 ((is.tests found.0).0 found.2) in
      absurd (All-contains (λ h. ¬ IsInsideRing h found.0) polygon.holes hole covered.holes member
      (enclosed_told (edges_of hole) found.0 (ap (side (edges_of hole)) (sym found.1) ∙ inside)))
  | inr outside ↦ outside
]

covered_in : (set : Place → Type 0) (test : Place → Bool) (cell : Place) (polygon : Polygon) → IsCase set test cell polygon → (a : Option Place)
    → side (edges_of polygon.shell) a ≡ true → ((hole : Ring) → Contains polygon.holes hole → side (edges_of hole) a ≡ false) → in_set test a ≡ true
covered_in set test cell polygon is None inside outside = absurd (false≢true (sym (side_none (edges_of polygon.shell)) ∙ inside))
covered_in set test cell polygon is (Some c) inside outside = (is.tests c).1 ((is.canonical.covers c).0 (record {
  shell = enclosed_told (edges_of polygon.shell) c inside;
  holes = all_of (λ h. ¬ IsInsideRing h c) polygon.holes
      (λ hole member within. false≢true (sym (outside hole member) ∙ enclosed_tells (edges_of hole) c within));
}))

-- each edge is a boundary edge
edge_border : (set : Place → Type 0) (test : Place → Bool) (cell : Place) (polygon : Polygon) → IsCase set test cell polygon → (ring : Ring)
    → Contains (rings_of polygon) ring → (e : Edge) → Contains (edges_of ring) e → IsBorder test e
edge_border set test cell polygon is ring member e has =
    let simple = simple_of set test cell polygon is ring member in
    let unit = All-contains IsUnitEdge (edges_of ring) e simple.closed.units has in
    let found = is.canonical.left e (in_flat edges_of (rings_of polygon) ring e member has) in
    let left : in_set test (left_spot e) ≡ true = ap (in_set test) (on_left_tells e found.0 found.1).1 ∙ (is.tests found.0).1 found.2 in
    let change = ring_crossing ring simple e unit has in
    record {
      unit = unit;
      left = left;
      right = elim (cases_Bool (in_set test (right_spot e))) [
        | inr out ↦ out
        | inl within ↦ elim (contains_cases polygon.shell polygon.holes ring member) [
          | inl shell ↦ absurd (false≢true (sym (false_right _ _ change (ap (λ (g : Ring). side (edges_of g) (left_spot e)) (sym shell)
              ∙ inside_shell set test cell polygon is (left_spot e) left)) ∙ ap (λ (g : Ring). side (edges_of g) (right_spot e)) (sym shell)
              ∙ inside_shell set test cell polygon is (right_spot e) within))
          | inr hole ↦ absurd (false≢true (sym (outside_hole set test cell polygon is ring hole (right_spot e) within)
              ∙ true_right _ _ change (outside_hole set test cell polygon is ring hole (left_spot e) left)))
        ]
      ];
    }

ring_round : (set : Place → Type 0) (test : Place → Bool) (cell : Place) (polygon : Polygon) → IsCase set test cell polygon → (ring : Ring)
    → Contains (rings_of polygon) ring → IsRound test (edges_of ring)
ring_round set test cell polygon is ring member =
    let at = ring_closed ring (simple_of set test cell polygon is ring member).closed in
    record { start = at.start; closed = at.closed; borders = edge_border set test cell polygon is ring member }

-- an edge that no ring holds changes no side
same_sides : (set : Place → Type 0) (test : Place → Bool) (cell : Place) (polygon : Polygon) → IsCase set test cell polygon → (e : Edge)
    → IsBorder test e → ¬ Contains (all_edges polygon) e → (ring : Ring) → Contains (rings_of polygon) ring
    → side (edges_of ring) (left_spot e) ≡ side (edges_of ring) (right_spot e)
same_sides set test cell polygon is e border none ring member = crossing_other (edges_of ring) test
    (ring_round set test cell polygon is ring member) e border (λ has. none (in_flat edges_of (rings_of polygon) ring e member has))

-- each boundary edge is held
border_held : (set : Place → Type 0) (test : Place → Bool) (cell : Place) (polygon : Polygon) → IsCase set test cell polygon → (e : Edge)
    → IsBorder test e → Contains (all_edges polygon) e
border_held set test cell polygon is e border = elim (held_or_not (all_edges polygon) e) [
  | inl has ↦ has
  | inr none ↦
      let same = same_sides set test cell polygon is e border none in
      absurd (false≢true (sym border.right ∙ covered_in set test cell polygon is (right_spot e)
      (sym (same polygon.shell (contains_here polygon.shell polygon.holes))
      ∙ inside_shell set test cell polygon is (left_spot e) border.left)
      (λ hole member. sym (same hole (contains_there polygon.shell polygon.holes hole member))
      ∙ outside_hole set test cell polygon is hole member (left_spot e) border.left)))
]

held_apart : (set : Place → Type 0) (test : Place → Bool) (cell : Place) (polygon : Polygon) → IsCase set test cell polygon
    → AllPairs (λ g h. AreApart (edges_of g) (edges_of h)) (rings_of polygon)
held_apart set test cell polygon is = pairs_weaker SharesNoEdge (λ g h. AreApart (edges_of g) (edges_of h)) (rings_of polygon)
    (λ g h in_g in_h shares e on_g on_h. shares e (inl on_g) (inl on_h)) is.canonical.valid.no_shared_edge

to_cycle : (test : Place → Bool) → IsOnePart test → (edges : List Edge) → 4 ≤ length edges → IsRound test edges
    → AllPairs (λ a b. a ≢ b) (starts_of edges) → IsCycleList test edges
to_cycle test one [] long round apart = absurd (omega arith)
to_cycle test one (x ∷ xs) long round apart = simple_cycle test one x xs round apart

shell_first : (set : Place → Type 0) (test : Place → Bool) (cell : Place) (polygon : Polygon) → IsCase set test cell polygon → IsOnePart test
    → Contains (edges_of polygon.shell) (left_edge cell)
shell_first set test cell polygon is one = elim (held_or_not (edges_of polygon.shell) (left_edge cell)) [
  | inl has ↦ has
  | inr off ↦ absurd (false≢true (sym (hole_set test one cell is.first (edges_of polygon.shell)
      (ring_round set test cell polygon is polygon.shell (contains_here polygon.shell polygon.holes)) off (Some cell) is.first.is_in)
      ∙ inside_shell set test cell polygon is (Some cell) is.first.is_in))
]

-- the rings of a canonical polygon are the cycles
pub canonical_traced : (set : Place → Type 0) (test : Place → Bool) (cell : Place) (polygon : Polygon) → Tests set test → IsConnected four set
    → IsFirstCell test cell → IsCanonicalPolygon set polygon → IsTraced set test cell polygon
canonical_traced set test cell polygon tests connected first canonical =
    let is : IsCase set test cell polygon = record { tests = tests; connected = connected; first = first; canonical = canonical } in
    let one = connected_is_part set test tests connected in
    record {
      tests = tests;
      connected = connected;
      first = first;
      has = record {
        cycles = λ ring member.
            let simple = simple_of set test cell polygon is ring member in
            to_cycle test one (edges_of ring) simple.closed.long (ring_round set test cell polygon is ring member) simple.simple;
        edges = record {
          all = λ e. (
            λ held.
                let found = of_flat edges_of (rings_of polygon) e held in
                edge_border set test cell polygon is found.0 found.1 e found.2,
            λ border. border_held set test cell polygon is e border,
          );
          once = once_flat edges_of (rings_of polygon)
              (λ ring member. once_by_starts (edges_of ring) (simple_of set test cell polygon is ring member).simple) (held_apart set test cell polygon is);
        };
        shell = shell_first set test cell polygon is one;
      };
    }

-- two rings that list their turns from the least, over the same cycle, are the same

first_at : (p : Corner) (edges : List Edge) (test : Place → Bool) → IsCycleList test edges → Leads p edges p → (e : Edge) × Contains edges e × (e.0 ≡ p)
first_at p [] test cycle leads = absurd cycle
first_at p (x ∷ xs) test cycle leads = (x, contains_here x xs, leads.0)

list_same : (test : Place → Bool) → IsOnePart test → (p : Corner) (es fs : List Edge) → IsCycleList test es → IsCycleList test fs → Leads p es p
    → Leads p fs p → ((e : Edge) → Contains es e → Contains fs e) → es ≡ fs
list_same test one p [] fs cycle_e cycle_f leads_e leads_f more = absurd cycle_e
list_same test one p (x ∷ xs) [] cycle_e cycle_f leads_e leads_f more = absurd cycle_f
list_same test one p (x ∷ xs) (y ∷ ys) cycle_e cycle_f leads_e leads_f more = same_cycle test one x xs y ys cycle_e cycle_f (leads_e.0
    ∙ sym leads_f.0) (more x (contains_here x xs))

-- a ring of a canonical polygon
pub record IsGoodRing (test : Place → Bool) (ring : Ring) : Type 0 where
  pub closed : IsRing ring
  pub cycle : IsCycleList test (edges_of ring)
  pub turns : ListsTurns ring
  pub least : StartsLeast ring

pub ring_same : (test : Place → Bool) → IsOnePart test → (g h : Ring) → IsGoodRing test g → IsGoodRing test h
    → ((e : Edge) → Contains (edges_of g) e → Contains (edges_of h) e) → ((e : Edge) → Contains (edges_of h) e → Contains (edges_of g) e) → g ≡ h
ring_same test one [] h good_g good_h more less = absurd good_g.cycle
ring_same test one (p ∷ ps) [] good_g good_h more less = absurd good_h.cycle
ring_same test one (p ∷ ps) (q ∷ qs) good_g good_h more less =
    let leads_g = ring_leads p ps good_g.closed in
    let leads_h = ring_leads q qs good_h.closed in
    let x = first_at p (edges_of (p ∷ ps)) test good_g.cycle leads_g in
    let y = first_at q (edges_of (q ∷ qs)) test good_h.cycle leads_h in
    let q_first = subst (λ (r : Corner). IsFrom q r) x.2 (all_from q qs good_h.turns good_h.least x.0 (more x.0 x.1)) in
    let p_first = subst (λ (r : Corner). IsFrom p r) y.2 (all_from p ps good_g.turns good_g.least y.0 (less y.0 y.1)) in
    let start : q ≡ p = from_both q p q_first p_first in
    let same : edges_of (p ∷ ps) ≡ edges_of (q ∷ qs) = list_same test one p (edges_of (p ∷ ps)) (edges_of (q ∷ qs)) good_g.cycle good_h.cycle leads_g
    (subst (λ (r : Corner). Leads r (edges_of (q ∷ qs)) r) start leads_h) more in
    sym (turns_back (p ∷ ps) good_g.turns) ∙ ap turns_of same ∙ turns_back (q ∷ qs) good_h.turns

good_ring : (set : Place → Type 0) (test : Place → Bool) (cell : Place) (polygon : Polygon) → IsTraced set test cell polygon
    → IsCanonicalPolygon set polygon → (ring : Ring) → Contains (rings_of polygon) ring → IsGoodRing test ring
good_ring set test cell polygon traced canonical ring member = record {
  closed = (All-contains IsSimpleRing (rings_of polygon) ring canonical.valid.simple member).closed;
  cycle = traced.has.cycles ring member;
  turns = All-contains ListsTurns (rings_of polygon) ring canonical.turns member;
  least = All-contains StartsLeast (rings_of polygon) ring canonical.starts member;
}

-- two lists in strict order with the same members are the same
pub sorted_same : {A : Type 0} (R : A → A → Type 0) (xs ys : List A) → ((x y : A) → Contains xs x → Contains xs y → R x y → R y x → ⊥)
    → AllPairs R xs → AllPairs R ys → ((x : A) → Contains xs x → Contains ys x) → ((x : A) → Contains ys x → Contains xs x) → xs ≡ ys
sorted_same R [] [] strict order_x order_y more less = refl
sorted_same R [] (y ∷ ys) strict order_x order_y more less = absurd (none_in y (less y (contains_here y ys)))
sorted_same R (x ∷ xs) [] strict order_x order_y more less = absurd (none_in x (more x (contains_here x xs)))
sorted_same {A} R (x ∷ xs) (y ∷ ys) strict order_x order_y more less =
    let here = contains_here x xs in
    let heads : x ≡ y = elim (contains_cases y ys x (more x here)) [
      | inl is ↦ sym is
      | inr later_y ↦ elim (contains_cases x xs y (less y (contains_here y ys))) [
        | inl is ↦ is
        | inr later_x ↦ absurd (strict x y here (contains_there x xs y later_x) (pairs_head R x xs order_x y later_x) (pairs_head R y ys order_y x later_y))
      ]
    ] in
    let rest : xs ≡ ys = sorted_same R xs ys (λ a b in_a in_b. strict a b (contains_there x xs a in_a) (contains_there x xs b in_b))
    (pairs_tail R x xs order_x) (pairs_tail R y ys order_y)
    (λ z member. elim (contains_cases y ys z (more z (contains_there x xs z member))) [
      | inl is ↦
          let before : R x x = subst (λ (w : A). R x w) (sym (heads ∙ is)) (pairs_head R x xs order_x z member) in
          absurd (strict x x here here before before)
      | inr later ↦ later
    ])
    (λ z member. elim (contains_cases x xs z (less z (contains_there y ys z member))) [
      | inl is ↦
          let after : R y z = pairs_head R y ys order_y z member in
          let before : R x x = subst (λ (w : A). R w x) (sym heads) (subst (λ (w : A). R y w) (sym is) after) in
          absurd (strict x x here here before before)
      | inr later ↦ later
    ]) in
    cc

pub list_edges : (test : Place → Bool) → IsOnePart test → (es fs : List Edge) → IsCycleList test es → IsCycleList test fs → (e : Edge)
    → Contains es e → Contains fs e → (f : Edge) → Contains es f → Contains fs f
list_edges test one [] fs cycle_e cycle_f e in_e in_f f has = absurd cycle_e
list_edges test one (x ∷ xs) [] cycle_e cycle_f e in_e in_f f has = absurd cycle_f
list_edges test one (x ∷ xs) (y ∷ ys) cycle_e cycle_f e in_e in_f f has = same_edges test one x xs y ys cycle_e cycle_f e in_e in_f f has

-- two rings with an edge in common
meeting_same : (test : Place → Bool) → IsOnePart test → (g h : Ring) → IsGoodRing test g → IsGoodRing test h → (e : Edge) → Contains (edges_of g) e
    → Contains (edges_of h) e → g ≡ h
meeting_same test one g h good_g good_h e in_g in_h = ring_same test one g h good_g good_h
    (list_edges test one (edges_of g) (edges_of h) good_g.cycle good_h.cycle e in_g in_h)
    (list_edges test one (edges_of h) (edges_of g) good_h.cycle good_g.cycle e in_h in_g)

some_edge : (test : Place → Bool) (es : List Edge) → IsCycleList test es → (e : Edge) × Contains es e
some_edge test [] cycle = absurd cycle
some_edge test (x ∷ xs) cycle = (x, contains_here x xs)

-- each hole of the one is a hole of the other
hole_found : (set : Place → Type 0) (test : Place → Bool) (cell : Place) (P Q : Polygon) → IsTraced set test cell P → IsTraced set test cell Q
    → IsCanonicalPolygon set P → IsCanonicalPolygon set Q → (hole : Ring) → Contains P.holes hole → Contains Q.holes hole
hole_found set test cell P Q traced_P traced_Q canonical_P canonical_Q hole member =
    let one = one_part set test cell P traced_P in
    let in_rings = contains_there P.shell P.holes hole member in
    let good = good_ring set test cell P traced_P canonical_P hole in_rings in
    let some = some_edge test (edges_of hole) good.cycle in
    let border = (traced_P.has.edges.all some.0).0 (in_flat edges_of (rings_of P) hole some.0 in_rings some.1) in
    let found = of_flat edges_of (rings_of Q) some.0 ((traced_Q.has.edges.all some.0).1 border) in
    let same : hole ≡ found.0 = meeting_same test one hole found.0 good
    (good_ring set test cell Q traced_Q canonical_Q found.0 found.1) some.0 some.1 found.2 in
    elim (contains_cases Q.shell Q.holes found.0 found.1) [
      | inl shell ↦ absurd (hole_off set test cell P traced_P hole member
          (subst (λ (g : Ring). Contains (edges_of g) (left_edge cell)) (shell ∙ sym same) traced_Q.has.shell))
      | inr later ↦ subst (λ (g : Ring). Contains Q.holes g) (sym same) later
    ]

starts_strict : (g h : Ring) (test : Place → Bool) → IsCycleList test (edges_of g) → IsCycleList test (edges_of h) → StartsBefore g h → StartsBefore h g → ⊥
starts_strict [] h test cycle_g cycle_h one two = cycle_g
starts_strict (a ∷ more_a) [] test cycle_g cycle_h one two = cycle_h
starts_strict (a ∷ more_a) (b ∷ more_b) test cycle_g cycle_h one two = before_not_itself a (before_trans a b a (one a b refl refl) (two b a refl refl))

polygon_of : Ring → List Ring → Polygon
polygon_of shell holes = record { shell = shell; holes = holes }

polygon_is : (P : Polygon) → P ≡ polygon_of P.shell P.holes
unfolding polygon_of
polygon_is P = refl

traced_same : (set : Place → Type 0) (test : Place → Bool) (cell : Place) (P Q : Polygon) → IsTraced set test cell P → IsTraced set test cell Q
    → IsCanonicalPolygon set P → IsCanonicalPolygon set Q → P ≡ Q
traced_same set test cell P Q traced_P traced_Q canonical_P canonical_Q =
    let one = one_part set test cell P traced_P in
    let good_P = good_ring set test cell P traced_P canonical_P in
    let good_Q = good_ring set test cell Q traced_Q canonical_Q in
    let shells : P.shell ≡ Q.shell = meeting_same test one P.shell Q.shell (good_P P.shell (contains_here P.shell P.holes))
    (good_Q Q.shell (contains_here Q.shell Q.holes)) (left_edge cell) traced_P.has.shell traced_Q.has.shell in
    let holes : P.holes ≡ Q.holes = sorted_same StartsBefore P.holes Q.holes
    (λ g h in_g in_h. starts_strict g h test (good_P g (contains_there P.shell P.holes g in_g)).cycle
    (good_P h (contains_there P.shell P.holes h in_h)).cycle) canonical_P.order canonical_Q.order
    (hole_found set test cell P Q traced_P traced_Q canonical_P canonical_Q) (hole_found set test cell Q P traced_Q traced_P canonical_Q canonical_P) in
    polygon_is P ∙ ap (λ (g : Ring). polygon_of g P.holes) shells ∙ ap (polygon_of Q.shell) holes ∙ sym (polygon_is Q)

-- a connected set has at most one canonical polygon
pub one_polygon : (set : Place → Type 0) (test : Place → Bool) (cell : Place) → Tests set test → IsConnected four set → IsFirstCell test cell
    → (P Q : Polygon) → IsCanonicalPolygon set P → IsCanonicalPolygon set Q → P ≡ Q
one_polygon set test cell tests connected first P Q canonical_P canonical_Q = traced_same set test cell P Q
    (canonical_traced set test cell P tests connected first canonical_P)
    (canonical_traced set test cell Q tests connected first canonical_Q) canonical_P canonical_Q

pub canonical_only : (set : Place → Type 0) (test : Place → Bool) (cell : Place) → Tests set test → IsConnected four set → IsFirstCell test cell
    → (polygon : Polygon) → IsCanonicalPolygon set polygon → IsOnly (IsCanonicalPolygon set) polygon
canonical_only set test cell tests connected first polygon canonical = (
  canonical,
  λ other is. one_polygon set test cell tests connected first other polygon is canonical,
)

-- the polygon of the cycles, listed by turns from the least corner, is canonical
pub traced_canonical : (set : Place → Type 0) (test : Place → Bool) (cell : Place) (polygon : Polygon) → IsTraced set test cell polygon
    → ((ring : Ring) → Contains (rings_of polygon) ring → ListsTurns ring × StartsLeast ring) → AllPairs StartsBefore polygon.holes
    → IsCanonicalPolygon set polygon
traced_canonical set test cell polygon traced listed order = record {
  valid = traced_valid set test cell polygon traced;
  covers = covers_set set test cell polygon traced;
  left = λ e held. (border_tells set test traced.tests e ((traced.has.edges.all e).0 held)).left;
  turns = all_of ListsTurns (rings_of polygon) (λ ring member. (listed ring member).0);
  starts = all_of StartsLeast (rings_of polygon) (λ ring member. (listed ring member).1);
  order = order;
}
