-- The polygon of a set's cycles is valid and covers the set.
use Rattle.std.proofs.Common.{◌≡◌, ◌≢◌, ℕ, ◌+◌, ◌≤◌, ◌%◌, ◌↔◌, ◌⊎◌, inl, inr, Bool, true, false, List, [], ◌∷◌, length, Option, Some, refl, sym, ap, ◌∙◌, subst, arith}
use Rattle.std.specs.Prelude.{AllPairs, Contains}
use Rattle.std.proofs.lemmas.Bool.{false≢true, cases_Bool, eqb-true, eq-eqb}
use Rattle.std.proofs.lemmas.List.Elements.{All-contains}
use Rattle.cell_base.specs.Raster.{Place}
use Rattle.cell_base.specs.Walk.{IsWalk, StepsInto, IsConnected}
use Rattle.cell_base.specs.Steps.{four}
use Rattle.cell_base.proofs.ListDeciders.{contains_cases, contains_here, contains_there}
use Rattle.edge_trace.specs.Edge.{Corner, Edge, IsUnitEdge, turned}
use Rattle.edge_trace.specs.Crossing.{IsEnclosed, crossing_count}
use Rattle.edge_trace.proofs.BoundaryLemmas.{Tests}
use Rattle.ring_faces.specs.Ring.{Ring, edges_of, IsInsideRing, IsSimpleRing}
use Rattle.ring_faces.specs.LatticePolygon.{Polygon, rings_of, IsCovered, SharesNoEdge, SharesNoCell, DoNotCross, PassesUpright, PassesLevel, IsValidPolygon}
use Rattle.ring_faces.proofs.SpotLemmas.{nw, ne, se, sw, spot_at, left_spot, right_spot, side, in_set, IsBorder, edge_is, ends_spots, turned_right, turned_left}
use Rattle.ring_faces.proofs.PartLemmas.{IsOnePart, IsRound, border_not_turned, connected_is_part, reached, side_constant}
use Rattle.ring_faces.proofs.CycleLemmas.{IsCycle, cycle_round}
use Rattle.ring_faces.proofs.InsideLemmas.{left_edge, IsFirstCell, IsCycleList, HasCycles, hole_connected, hole_in_shell, hole_right, hole_set, holes_apart, shell_right, shell_set}
use Rattle.ring_faces.proofs.SimpleLemmas.{cycle_simple, same_start, starts_of}
use Rattle.ring_faces.proofs.MemberLemmas.{all_of, apart_parts, AreApart, of_flat, pairs_head, pairs_tail, pairs_weaker}

pub enclosed_tells : (edges : List Edge) (cell : Place) → IsEnclosed edges cell → side edges (Some cell) ≡ true
unfolding side
enclosed_tells edges cell is = eq-eqb (crossing_count edges cell % 2) 1 is

pub enclosed_told : (edges : List Edge) (cell : Place) → side edges (Some cell) ≡ true → IsEnclosed edges cell
unfolding side
enclosed_told edges cell is = eqb-true (crossing_count edges cell % 2) 1 is

-- a cycle has at least four edges

not_a_point : (e : Edge) → IsUnitEdge e → e.0 ≢ e.1
not_a_point e (inl (row, inl col)) same = omega (arith, ap (λ (p : Corner). p.1) same)
not_a_point e (inl (row, inr col)) same = omega (arith, ap (λ (p : Corner). p.1) same)
not_a_point e (inr (col, inl row)) same = omega (arith, ap (λ (p : Corner). p.0) same)
not_a_point e (inr (col, inr row)) same = omega (arith, ap (λ (p : Corner). p.0) same)

abbrev sum_at : Corner → ℕ
sum_at p = p.0 + p.1

unit_odd : (e : Edge) → IsUnitEdge e → (sum_at e.0 + sum_at e.1) % 2 ≡ 1
unit_odd e (inl (row, inl col)) = omega arith
unit_odd e (inl (row, inr col)) = omega arith
unit_odd e (inr (col, inl row)) = omega arith
unit_odd e (inr (col, inr row)) = omega arith

not_three : (a b c : ℕ) → (a + b) % 2 ≡ 1 → (b + c) % 2 ≡ 1 → (c + a) % 2 ≡ 1 → ⊥
not_three a b c ab bc ca = omega arith

pub cycle_long : (test : Place → Bool) (x : Edge) (xs : List Edge) → IsCycle test x xs → 4 ≤ length (x ∷ xs)
cycle_long test x [] cycle = absurd (not_a_point x (cycle.borders x (contains_here x [])).unit cycle.runs.begins)
cycle_long test x (y ∷ []) cycle =
    let is : y ≡ turned x = edge_is y x.1 x.0 cycle.runs.0.begins (sym cycle.runs.1.begins) in
    absurd (border_not_turned test x (cycle.borders x (contains_here x (y ∷ [])))
    (subst (λ (e : Edge). IsBorder test e) is (cycle.borders y (contains_there x (y ∷ []) y (contains_here y [])))))
cycle_long test x (y ∷ z ∷ []) cycle =
    let odd_x = unit_odd x (cycle.borders x (0, omega arith, refl)).unit in
    let odd_y = unit_odd y (cycle.borders y (1, omega arith, refl)).unit in
    let odd_z = unit_odd z (cycle.borders z (2, omega arith, refl)).unit in
    absurd (not_three (sum_at x.0) (sum_at y.0) (sum_at z.0)
    (subst (λ (p : Corner). (sum_at x.0 + sum_at p) % 2 ≡ 1) (sym cycle.runs.0.begins) odd_x)
    (subst (λ (p : Corner). (sum_at y.0 + sum_at p) % 2 ≡ 1) (sym cycle.runs.1.0.begins) odd_y)
    (subst (λ (p : Corner). (sum_at z.0 + sum_at p) % 2 ≡ 1) (sym cycle.runs.1.1.begins) odd_z))
cycle_long test x (y ∷ z ∷ w ∷ us) cycle = omega arith

-- what holds of cycles holds of lists that are cycles
pub over_cycle : (test : Place → Bool) (P : List Edge → Type 0) → ((x : Edge) (xs : List Edge) → IsCycle test x xs → P (x ∷ xs))
    → (edges : List Edge) → IsCycleList test edges → P edges
over_cycle test P each [] cycle = absurd cycle
over_cycle test P each (x ∷ xs) cycle = each x xs cycle

pub list_round : (test : Place → Bool) (edges : List Edge) → IsCycleList test edges → IsRound test edges
list_round test edges cycle = over_cycle test (IsRound test) (cycle_round test) edges cycle

pub list_simple : (test : Place → Bool) → IsOnePart test → (edges : List Edge) → IsCycleList test edges → AllPairs (λ a b. a ≢ b) (starts_of edges)
list_simple test one edges cycle = over_cycle test (λ es. AllPairs (λ a b. a ≢ b) (starts_of es)) (cycle_simple test one) edges cycle

list_long : (test : Place → Bool) (edges : List Edge) → IsCycleList test edges → 4 ≤ length edges
list_long test edges cycle = over_cycle test (λ es. 4 ≤ length es) (cycle_long test) edges cycle

-- a set, its test, its first cell, and the polygon of its cycles
pub record IsTraced (set : Place → Type 0) (test : Place → Bool) (cell : Place) (polygon : Polygon) : Type 0 where
  pub tests : Tests set test
  pub connected : IsConnected four set
  pub first : IsFirstCell test cell
  pub has : HasCycles test cell polygon

pub one_part : (set : Place → Type 0) (test : Place → Bool) (cell : Place) (polygon : Polygon) → IsTraced set test cell polygon → IsOnePart test
one_part set test cell polygon traced = connected_is_part set test traced.tests traced.connected

-- two rings hold no edge in common
rings_apart : (set : Place → Type 0) (test : Place → Bool) (cell : Place) (polygon : Polygon) → IsTraced set test cell polygon
    → AllPairs (λ g h. AreApart (edges_of g) (edges_of h)) (rings_of polygon)
rings_apart set test cell polygon traced = apart_parts edges_of (rings_of polygon) traced.has.edges.once

pub hole_apart : (set : Place → Type 0) (test : Place → Bool) (cell : Place) (polygon : Polygon) → IsTraced set test cell polygon → (hole : Ring)
    → Contains polygon.holes hole → AreApart (edges_of hole) (edges_of polygon.shell)
hole_apart set test cell polygon traced hole member e in_hole in_shell = pairs_head
    (λ g h. AreApart (edges_of g) (edges_of h)) polygon.shell polygon.holes (rings_apart set test cell polygon traced) hole member e in_shell in_hole

pub hole_off : (set : Place → Type 0) (test : Place → Bool) (cell : Place) (polygon : Polygon) → IsTraced set test cell polygon → (hole : Ring)
    → Contains polygon.holes hole → ¬ Contains (edges_of hole) (left_edge cell)
hole_off set test cell polygon traced hole member on = hole_apart set test cell polygon traced hole member (left_edge cell) on traced.has.shell

hole_cycle : (set : Place → Type 0) (test : Place → Bool) (cell : Place) (polygon : Polygon) → IsTraced set test cell polygon → (hole : Ring)
    → Contains polygon.holes hole → IsCycleList test (edges_of hole)
hole_cycle set test cell polygon traced hole member = traced.has.cycles hole (contains_there polygon.shell polygon.holes hole member)

shell_cycle : (set : Place → Type 0) (test : Place → Bool) (cell : Place) (polygon : Polygon) → IsTraced set test cell polygon
    → IsCycleList test (edges_of polygon.shell)
shell_cycle set test cell polygon traced = traced.has.cycles polygon.shell (contains_here polygon.shell polygon.holes)

-- the wrappers over lists

abbrev ShellSet : (Place → Bool) → Place → List Edge → Type 0
ShellSet test cell edges = Contains edges (left_edge cell) → (a : Option Place) → in_set test a ≡ true → side edges a ≡ true

list_shell : (test : Place → Bool) → IsOnePart test → (cell : Place) → IsFirstCell test cell → (edges : List Edge) → IsCycleList test edges
    → ShellSet test cell edges
list_shell test one cell first edges cycle = over_cycle test (ShellSet test cell) (shell_set test one cell first) edges cycle

abbrev HoldsHoles : (Place → Bool) → Place → List Edge → Type 0
HoldsHoles test cell edges = Contains edges (left_edge cell) → (others : List Edge) → IsRound test others → ¬ Contains others (left_edge cell)
    → AreApart others edges → (a : Option Place) → side others a ≡ true → side edges a ≡ true

list_holds : (test : Place → Bool) → IsOnePart test → (cell : Place) → IsFirstCell test cell → (edges : List Edge) → IsCycleList test edges
    → HoldsHoles test cell edges
list_holds test one cell first edges cycle = over_cycle test (HoldsHoles test cell) (hole_in_shell test one cell first) edges cycle

abbrev IsOpen : (Place → Bool) → Place → List Edge → Type 0
IsOpen test cell edges = ¬ Contains edges (left_edge cell) → IsConnected four (λ c. side edges (Some c) ≡ true)

list_connected : (test : Place → Bool) → IsOnePart test → (cell : Place) → IsFirstCell test cell → (edges : List Edge) → IsCycleList test edges
    → IsOpen test cell edges
list_connected test one cell first edges cycle = over_cycle test (IsOpen test cell) (hole_connected test one cell first) edges cycle

abbrev RightsInside : (Place → Bool) → Place → List Edge → Type 0
RightsInside test cell edges = ¬ Contains edges (left_edge cell) → (f : Edge) → Contains edges f → side edges (right_spot f) ≡ true

list_rights : (test : Place → Bool) → IsOnePart test → (cell : Place) → IsFirstCell test cell → (edges : List Edge) → IsCycleList test edges
    → RightsInside test cell edges
list_rights test one cell first edges cycle = over_cycle test (RightsInside test cell)
    (λ x xs is off f has. hole_right test one cell first (x ∷ xs) (cycle_round test x xs is) is.once off f has) edges cycle

abbrev RightsOpen : (Place → Bool) → Place → List Edge → Type 0
RightsOpen test cell edges = Contains edges (left_edge cell) → (f : Edge) → Contains edges f → side edges (right_spot f) ≡ false

-- what is covered

-- the right spot of the shell's edges isn't inside the shell
list_shell_rights : (test : Place → Bool) → IsOnePart test → (cell : Place) → IsFirstCell test cell → (edges : List Edge) → IsCycleList test edges
    → RightsOpen test cell edges
list_shell_rights test one cell first edges cycle = over_cycle test (RightsOpen test cell)
    (λ x xs is on f has. shell_right test one cell first x xs is on f has) edges cycle

pub covers_set : (set : Place → Type 0) (test : Place → Bool) (cell : Place) (polygon : Polygon) → IsTraced set test cell polygon → (c : Place)
    → IsCovered polygon c ↔ set c
covers_set set test cell polygon traced c =
    let one = one_part set test cell polygon traced in
    let shell = shell_cycle set test cell polygon traced in (
      λ covered. elim (cases_Bool (test c)) [
        | inl is ↦ (traced.tests c).0 is
        | inr out ↦
            let found = reached test cell traced.first.is_in (Some c) out in
            let ring = of_flat edges_of (rings_of polygon) found.edge ((traced.has.edges.all found.edge).1 found.border) in
            elim (contains_cases polygon.shell polygon.holes ring.0 ring.1) [
              | inl is ↦
                  let on_shell : Contains (edges_of polygon.shell) found.edge = subst (λ (g : Ring). Contains (edges_of g) found.edge) (sym is) ring.2 in
                  absurd (false≢true (sym (side_constant (edges_of polygon.shell) test false (list_round test _ shell) (Some c)
                  (right_spot found.edge) found.joined
                  ∙ list_shell_rights test one cell traced.first _ shell traced.has.shell found.edge on_shell) ∙ enclosed_tells _ c covered.shell))
              | inr hole ↦
                  let cycle = hole_cycle set test cell polygon traced ring.0 hole in
                  let off = hole_off set test cell polygon traced ring.0 hole in
                  absurd (All-contains (λ h. ¬ IsInsideRing h c) polygon.holes ring.0 covered.holes hole
                  (enclosed_told _ c (side_constant (edges_of ring.0) test false (list_round test _ cycle) (Some c)
                  (right_spot found.edge) found.joined ∙ list_rights test one cell traced.first _ cycle off found.edge ring.2)))
            ]
      ],
      λ is. record {
        shell = enclosed_told _ c (list_shell test one cell traced.first _ shell traced.has.shell (Some c) ((traced.tests c).1 is));
        holes = all_of (λ h. ¬ IsInsideRing h c) polygon.holes
            (λ hole member inside. false≢true (sym (hole_set test one cell traced.first (edges_of hole)
            (list_round test _ (hole_cycle set test cell polygon traced hole member)) (hole_off set test cell polygon traced hole member) (Some c)
            ((traced.tests c).1 is)) ∙ enclosed_tells _ c inside));
      },
    )

-- walks in sets with the same cells
walk_in : (P Q : Place → Type 0) → ((c : Place) → P c → Q c) → (a b : Place) (walk : List Place) → IsWalk (StepsInto four P) a walk b
    → IsWalk (StepsInto four Q) a walk b
walk_in P Q more a b [] walked = walked
walk_in P Q more a b (c ∷ cs) walked = ((walked.0.0, more c walked.0.1), walk_in P Q more c b cs walked.1)

pub connected_same : (P Q : Place → Type 0) → ((c : Place) → P c ↔ Q c) → IsConnected four P → IsConnected four Q
connected_same P Q same connected a b in_a in_b =
    let joined = connected a b ((same a).1 in_a) ((same b).1 in_b) in
    (in_a, joined.1, walk_in P Q (λ c. (same c).0) a b joined.1 joined.2)

-- no crossing

runs_differ : (test : Place → Bool) (edges : List Edge) → IsRound test edges → (e : Edge) → IsUnitEdge e
    → Contains edges e ⊎ Contains edges (turned e) → in_set test (left_spot e) ≢ in_set test (right_spot e)
runs_differ test edges round e unit (inl has) same =
    let border = round.borders e has in
    false≢true (sym border.right ∙ sym same ∙ border.left)
runs_differ test edges round e unit (inr has) same =
    let border = round.borders (turned e) has in
    false≢true (sym border.right ∙ ap (in_set test) (turned_right e unit) ∙ same ∙ ap (in_set test) (sym (turned_left e unit)) ∙ border.left)

runs_on : (test : Place → Bool) (edges : List Edge) → IsRound test edges → (e : Edge) → IsUnitEdge e → in_set test (left_spot e) ≡ true
    → Contains edges e ⊎ Contains edges (turned e) → Contains edges e
runs_on test edges round e unit within (inl has) = has
runs_on test edges round e unit within (inr has) = absurd
    (false≢true (sym (round.borders (turned e) has).right ∙ ap (in_set test) (turned_right e unit) ∙ within))

two_leave : (test : Place → Bool) (edges : List Edge) → IsRound test edges → AllPairs (λ a b. a ≢ b) (starts_of edges) → (e f : Edge) → IsUnitEdge e
    → IsUnitEdge f → in_set test (left_spot e) ≡ true → in_set test (left_spot f) ≡ true → Contains edges e ⊎ Contains edges (turned e)
    → Contains edges f ⊎ Contains edges (turned f) → e.0 ≡ f.0 → e.1 ≢ f.1 → ⊥
two_leave test edges round apart e f unit_e unit_f in_e in_f on_e on_f same other = other
    (ap (λ (g : Edge). g.1) (same_start edges apart e f (runs_on test edges round e unit_e in_e on_e) (runs_on test edges round f unit_f in_f on_f) same))

not_same : (a b : Bool) → a ≢ b → a ≡ true → b ≡ false
not_same true true other is = absurd (other refl)
not_same true false other is = refl
not_same false b other is = absurd (false≢true is)

same_not : (a b : Bool) → a ≢ b → a ≡ false → b ≡ true
same_not false false other is = absurd (other refl)
same_not false true other is = refl
same_not true b other is = absurd (false≢true (sym is))

swap_runs : (edges : List Edge) (e : Edge) → Contains edges e ⊎ Contains edges (turned e) → Contains edges (turned e) ⊎ Contains edges e
swap_runs edges e (inl has) = inr has
swap_runs edges e (inr has) = inl has

no_crossing : (test : Place → Bool) (g h : Ring) → IsRound test (edges_of g) → IsRound test (edges_of h)
    → AllPairs (λ a b. a ≢ b) (starts_of (edges_of g)) → AllPairs (λ a b. a ≢ b) (starts_of (edges_of h)) → (row col : ℕ) → PassesUpright g row col
    → PassesLevel h row col → ⊥
no_crossing test g h round_g round_h apart_g apart_h row col upright level =
    let p : Corner = (row + 1, col + 1) in
    let a : Edge = (p, (row, col + 1)) in
    let b : Edge = (p, (row + 2, col + 1)) in
    let c : Edge = (p, (row + 1, col)) in
    let d : Edge = (p, (row + 1, col + 2)) in
    let at_a = ends_spots nw a (refl, refl) in
    let at_b = ends_spots se b (refl, omega arith) in
    let at_c = ends_spots sw c (refl, refl) in
    let at_d = ends_spots ne d (refl, omega arith) in
    let on_a : Contains (edges_of g) a ⊎ Contains (edges_of g) (turned a) = swap_runs (edges_of g) (turned a) upright.0 in
    let on_c : Contains (edges_of h) c ⊎ Contains (edges_of h) (turned c) = swap_runs (edges_of h) (turned c) level.0 in
    let differ_a : in_set test (spot_at p nw) ≢ in_set test (spot_at p ne) = λ same. runs_differ test (edges_of g) round_g a at_a.0 on_a
    (ap (in_set test) at_a.1 ∙ same ∙ sym (ap (in_set test) at_a.2)) in
    let differ_c : in_set test (spot_at p nw) ≢ in_set test (spot_at p sw) = λ same. runs_differ test (edges_of h) round_h c at_c.0 on_c
    (ap (in_set test) at_c.1 ∙ sym same ∙ sym (ap (in_set test) at_c.2)) in
    let differ_d : in_set test (spot_at p ne) ≢ in_set test (spot_at p se) = λ same. runs_differ test (edges_of h) round_h d at_d.0 level.1
    (ap (in_set test) at_d.1 ∙ same ∙ sym (ap (in_set test) at_d.2)) in
    elim (cases_Bool (in_set test (spot_at p nw))) [
      | inl is ↦ two_leave test (edges_of g) round_g apart_g a b at_a.0 at_b.0 (ap (in_set test) at_a.1 ∙ is) (ap (in_set test) at_b.1
          ∙ same_not _ _ differ_d (not_same _ _ differ_a is)) on_a upright.1 refl (λ same. rows_apart (ap (λ (q : Corner). q.0) same))
      | inr is ↦ two_leave test (edges_of h) round_h apart_h c d at_c.0 at_d.0 (ap (in_set test) at_c.1
          ∙ same_not _ _ differ_c is) (ap (in_set test) at_d.1
          ∙ same_not _ _ differ_a is) on_c level.1 refl (λ same. cols_apart (ap (λ (q : Corner). q.1) same))
    ]
  where
    rows_apart : row ≢ row + 2
    rows_apart same = omega arith

    cols_apart : col ≢ col + 2
    cols_apart same = omega arith

-- the polygon is valid
pub traced_valid : (set : Place → Type 0) (test : Place → Bool) (cell : Place) (polygon : Polygon) → IsTraced set test cell polygon → IsValidPolygon polygon
traced_valid set test cell polygon traced =
    let one = one_part set test cell polygon traced in
    let rings = rings_of polygon in
    let round : (g : Ring) → Contains rings g → IsRound test (edges_of g) = λ g member. list_round test (edges_of g) (traced.has.cycles g member) in
    let simple : (g : Ring) → Contains rings g → AllPairs (λ a b. a ≢ b) (starts_of (edges_of g)) = λ g member. list_simple test one (edges_of g)
    (traced.has.cycles g member) in
    let in_rings : (g : Ring) → Contains polygon.holes g → Contains rings g = λ g member. contains_there polygon.shell polygon.holes g member in
    let apart = rings_apart set test cell polygon traced in
    let shell = shell_cycle set test cell polygon traced in
    let covers = covers_set set test cell polygon traced in
    record {
      simple = all_of IsSimpleRing rings (λ g member. record {
        closed = record {
          units = all_of IsUnitEdge (edges_of g) (λ e on. ((round g member).borders e on).unit);
          long = list_long test (edges_of g)
              (traced.has.cycles g member);
        };
        simple = simple g member;
      });
      no_shared_edge = pairs_weaker (λ g h. AreApart (edges_of g) (edges_of h)) SharesNoEdge rings
          (λ g h in_g in_h pair e on_g on_h. no_shared test (edges_of g) (edges_of h) (round g in_g) (round h in_h) pair e on_g on_h) apart;
      nested = (
        all_of (λ hole. (c : Place) → IsInsideRing hole c
            → IsInsideRing polygon.shell c) polygon.holes
            (λ hole member c inside. enclosed_told _ c
            (list_holds test one cell traced.first (edges_of polygon.shell) shell traced.has.shell (edges_of hole)
            (round hole (in_rings hole member)) (hole_off set test cell polygon traced hole member)
            (hole_apart set test cell polygon traced hole member) (Some c) (enclosed_tells _ c inside))),
        pairs_weaker (λ g h. AreApart (edges_of g) (edges_of h)) SharesNoCell polygon.holes
            (λ g h in_g in_h pair c in_one in_other. false≢true
            (sym (holes_apart test one cell traced.first (edges_of g) (edges_of h) (round g (in_rings g in_g)) (round h (in_rings h in_h))
            (hole_off set test cell polygon traced g in_g) (hole_off set test cell polygon traced h in_h) pair (Some c) (enclosed_tells _ c in_one))
            ∙ enclosed_tells _ c in_other)) (pairs_tail (λ g h. AreApart (edges_of g) (edges_of h)) polygon.shell polygon.holes apart),
      );
      connected = (
        (cell, (covers cell).1 ((traced.tests cell).0 traced.first.is_in)),
        connected_same set (IsCovered polygon)
            (λ c. ((covers c).1, (covers c).0)) traced.connected,
      );
      holes_connected = all_of (λ hole. IsConnected four (IsInsideRing hole)) polygon.holes
          (λ hole member. connected_same (λ c. side (edges_of hole) (Some c) ≡ true) (IsInsideRing hole)
          (λ c. (enclosed_told (edges_of hole) c, enclosed_tells (edges_of hole) c))
          (list_connected test one cell traced.first (edges_of hole) (hole_cycle set test cell polygon traced hole member)
          (hole_off set test cell polygon traced hole member)));
      tangent = pairs_weaker (λ g h. AreApart (edges_of g) (edges_of h)) DoNotCross rings
          (λ g h in_g in_h pair row col. (
            λ both. no_crossing test g h (round g in_g) (round h in_h) (simple g in_g)
                (simple h in_h) row col both.0 both.1,
            λ both. no_crossing test h g (round h in_h) (round g in_g) (simple h in_h)
                (simple g in_g) row col both.1 both.0,
          )) apart;
    }
  where
    no_shared : (test : Place → Bool) (es fs : List Edge) → IsRound test es → IsRound test fs → AreApart es fs → (e : Edge)
        → Contains es e ⊎ Contains es (turned e) → Contains fs e ⊎ Contains fs (turned e) → ⊥
    no_shared test es fs round_e round_f apart e (inl one) (inl two) = apart e one two
    no_shared test es fs round_e round_f apart e (inl one) (inr two) = border_not_turned test e (round_e.borders e one) (round_f.borders (turned e) two)
    no_shared test es fs round_e round_f apart e (inr one) (inl two) = border_not_turned test e (round_f.borders e two) (round_e.borders (turned e) one)
    no_shared test es fs round_e round_f apart e (inr one) (inr two) = apart (turned e) one two
