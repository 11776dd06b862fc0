-- What is inside the shell's walk, and inside any other.
use Rattle.std.proofs.Common.{◌≡◌, ℕ, zero, suc, ◌+◌, ◌<◌, inl, inr, Bool, true, false, List, [], ◌∷◌, Option, Some, None, refl, sym, ap, ◌∙◌, subst, arith}
use Rattle.std.specs.Prelude.{Contains}
use Rattle.std.proofs.lemmas.Bool.{false≢true, cases_Bool, cases_lt}
use Rattle.std.proofs.Math.Bool.{xor}
use Rattle.cell_base.specs.Raster.{Place}
use Rattle.cell_base.specs.Order.{IsBefore}
use Rattle.cell_base.specs.Walk.{IsWalk, IsJoined, IsConnected}
use Rattle.cell_base.specs.Steps.{four}
use Rattle.region_label.specs.Count.{IsListOf}
use Rattle.edge_trace.specs.Edge.{Edge}
use Rattle.edge_trace.proofs.ParityLemmas.{xor_false}
use Rattle.ring_faces.specs.Ring.{Ring, edges_of}
use Rattle.ring_faces.specs.LatticePolygon.{Polygon, rings_of}
use Rattle.ring_faces.specs.EdgePolygon.{all_edges}
use Rattle.ring_faces.proofs.SpotLemmas.{IsBorder, spot, left_spot, right_spot, side, in_set, beside_above, beside_back, beside_shares, down_spots}
use Rattle.ring_faces.proofs.CycleLemmas.{IsCycle, cycle_joined, cycle_round}
use Rattle.ring_faces.proofs.PartLemmas.{StepsBy, IsJoinedBy, IsOnePart, IsRound, IsOnce, crossing_held, crossing_other, held_once, held_or_not, joined_back, joined_end, joined_self, joined_step, joined_trans, reached, side_constant, step_constant}
use Rattle.ring_faces.proofs.SideLemmas.{side_none}

-- the edge down the left side of a cell
abbrev pub left_edge : Place → Edge
left_edge cell = ((cell.0, cell.1), (cell.0 + 1, cell.1))

-- the first cell of a set, by row, then by column
pub record IsFirstCell (test : Place → Bool) (cell : Place) : Type 0 where
  pub is_in : test cell ≡ true
  pub least : (p : Place) → IsBefore p cell → test p ≡ false

-- a list of edges that is a cycle
abbrev pub IsCycleList : (Place → Bool) → List Edge → Type 0
IsCycleList test [] = ⊥
IsCycleList test (e ∷ es) = IsCycle test e es

-- a polygon whose rings are the cycles of the set, with the first cell's edge on the shell
pub record HasCycles (test : Place → Bool) (cell : Place) (polygon : Polygon) : Type 0 where
  pub cycles : (ring : Ring) → Contains (rings_of polygon) ring → IsCycleList test (edges_of ring)
  pub edges : IsListOf (IsBorder test) (all_edges polygon)
  pub shell : Contains (edges_of polygon.shell) (left_edge cell)

-- the first cell's edge

before_first : (i c r : ℕ) → i < suc r → IsBefore (i, c) (r, suc c)
before_first i c r less = elim (cases_lt i r) [ inl above ↦ inl above | inr past ↦ inr (omega arith, omega arith) ]

first_outside_by : (test : Place → Bool) (r c : ℕ) → ((p : Place) → IsBefore p (r, suc c) → test p ≡ false) → (i : ℕ) → i < suc r
    → IsJoinedBy test false (Some (i, c)) None
first_outside_by test r c least zero within = joined_step test false (Some (0, c)) None (least (0, c) (before_first 0 c r (omega arith))) refl
    (beside_back None (Some (0, c)) (beside_above 0 c))
first_outside_by test r c least (suc i) within =
    joined_trans test false (Some (suc i, c)) (Some (i, c)) None
    (joined_step test false (Some (suc i, c)) (Some (i, c)) (least (suc i, c) (before_first (suc i) c r (omega arith)))
    (least (i, c) (before_first i c r (omega arith))) (beside_back (Some (i, c)) (Some (suc i, c)) (beside_above (suc i) c)))
    (first_outside_by test r c least i (omega arith))

-- the spot to the left of the first cell is joined outside the set to where there are no cells
pub first_outside : (test : Place → Bool) (cell : Place) → IsFirstCell test cell → IsJoinedBy test false (spot (suc cell.0) cell.1) None
first_outside test (r, zero) first = joined_self test false None None refl
first_outside test (r, suc c) first = first_outside_by test r c first.least r (omega arith)

first_right : (test : Place → Bool) (cell : Place) → IsFirstCell test cell → IsJoinedBy test false (right_spot (left_edge cell)) None
first_right test cell first = subst (λ (o : Option Place). IsJoinedBy test false o None) (sym (down_spots cell.0 cell.1).2) (first_outside test cell first)

pub first_border : (test : Place → Bool) (cell : Place) → IsFirstCell test cell → IsBorder test (left_edge cell)
first_border test cell first =
    let spots = down_spots cell.0 cell.1 in
    record {
      unit = spots.0;
      left = ap (in_set test) spots.1
          ∙ first.is_in;
      right = joined_end test false None (right_spot (left_edge cell)) (joined_back test false _ _ (first_right test cell first)) refl;
    }

true_left : (a b : Bool) → xor a b ≡ true → b ≡ false → a ≡ true
unfolding xor
true_left true b is other = refl
true_left false b is other = absurd (false≢true (sym other ∙ sym (xor_false b) ∙ is))

pub true_right : (a b : Bool) → xor a b ≡ true → a ≡ false → b ≡ true
unfolding xor
true_right true b is other = absurd (false≢true (sym other))
true_right false b is other = sym (xor_false b) ∙ is

-- the shell: the cycle with the first cell's edge

pub shell_set : (test : Place → Bool) → IsOnePart test → (cell : Place) → IsFirstCell test cell → (x : Edge) (xs : List Edge) → IsCycle test x xs
    → Contains (x ∷ xs) (left_edge cell) → (a : Option Place) → in_set test a ≡ true → side (x ∷ xs) a ≡ true
shell_set test one cell first x xs cycle has a within =
    let edges = x ∷ xs in
    let round = cycle_round test x xs cycle in
    let e = left_edge cell in
    let border = first_border test cell first in
    let change = crossing_held edges test round e border (held_once edges e cycle.once has) in
    let right : side edges (right_spot e) ≡ false = side_constant edges test false round (right_spot e) None (first_right test cell first) ∙ side_none edges in
    side_constant edges test true round a (left_spot e) (one a (left_spot e) within border.left) ∙ true_left _ _ change right

pub open_side : (test : Place → Bool) (edges : List Edge) → IsRound test edges → (a : Option Place) → IsJoinedBy test false a None → side edges a ≡ false
open_side test edges round a joined = side_constant edges test false round a None joined ∙ side_none edges

-- any other cycle

pub hole_set : (test : Place → Bool) → IsOnePart test → (cell : Place) → IsFirstCell test cell → (edges : List Edge) → IsRound test edges
    → ¬ Contains edges (left_edge cell) → (a : Option Place) → in_set test a ≡ true → side edges a ≡ false
hole_set test one cell first edges round off a within =
    let e = left_edge cell in
    let border = first_border test cell first in
    side_constant edges test true round a (left_spot e) (one a (left_spot e) within border.left) ∙ crossing_other edges test round e border off
    ∙ open_side test edges round (right_spot e) (first_right test cell first)

pub hole_out : (test : Place → Bool) → IsOnePart test → (cell : Place) → IsFirstCell test cell → (edges : List Edge) → IsRound test edges
    → ¬ Contains edges (left_edge cell) → (a : Option Place) → side edges a ≡ true → in_set test a ≡ false
hole_out test one cell first edges round off a inside = elim (cases_Bool (in_set test a)) [
  | inl within ↦ absurd (false≢true (sym (hole_set test one cell first edges round off a within) ∙ inside))
  | inr out ↦ out
]

-- what is inside is joined outside the set to the right spot of one of its edges
pub hole_reached : (test : Place → Bool) → IsOnePart test → (cell : Place) → IsFirstCell test cell → (edges : List Edge) → IsRound test edges
    → ¬ Contains edges (left_edge cell) → (a : Option Place) → side edges a ≡ true → (f : Edge) × Contains edges f × IsJoinedBy test false a (right_spot f)
hole_reached test one cell first edges round off a inside =
    let found = reached test cell first.is_in a (hole_out test one cell first edges round off a inside) in
    elim (held_or_not edges found.edge) [
      | inl on ↦ (found.edge, on, found.joined)
      | inr not_on ↦ absurd (false≢true (sym (hole_set test one cell first edges round off (left_spot found.edge) found.border.left)
          ∙ crossing_other edges test round found.edge found.border not_on
          ∙ sym (side_constant edges test false round a (right_spot found.edge) found.joined) ∙ inside))
    ]

-- the right spots of its edges are inside
pub hole_right : (test : Place → Bool) → IsOnePart test → (cell : Place) → IsFirstCell test cell → (edges : List Edge) → IsRound test edges
    → IsOnce edges → ¬ Contains edges (left_edge cell) → (f : Edge) → Contains edges f → side edges (right_spot f) ≡ true
hole_right test one cell first edges round once off f has =
    let border = round.borders f has in
    true_right _ _ (crossing_held edges test round f border (held_once edges f once has))
    (hole_set test one cell first edges round off (left_spot f) border.left)

-- what is inside is one part outside the set
pub hole_joined : (test : Place → Bool) → IsOnePart test → (cell : Place) → IsFirstCell test cell → (x : Edge) (xs : List Edge) → IsCycle test x xs
    → ¬ Contains (x ∷ xs) (left_edge cell) → (a b : Option Place) → side (x ∷ xs) a ≡ true → side (x ∷ xs) b ≡ true → IsJoinedBy test false a b
hole_joined test one cell first x xs cycle off a b in_a in_b =
    let round = cycle_round test x xs cycle in
    let from_a = hole_reached test one cell first (x ∷ xs) round off a in_a in
    let from_b = hole_reached test one cell first (x ∷ xs) round off b in_b in
    joined_trans test false a (right_spot from_a.0) b from_a.2
    (joined_trans test false (right_spot from_a.0) (right_spot from_b.0) b (cycle_joined test x xs cycle from_a.0 from_b.0 from_a.1 from_b.1)
    (joined_back test false b (right_spot from_b.0) from_b.2))

cells_walk : (test : Place → Bool) (edges : List Edge) → IsRound test edges → (a b : Place) (walk : List (Option Place))
    → IsWalk (StepsBy test false) (Some a) walk (Some b) → side edges (Some a) ≡ true → IsJoined four (λ cell. side edges (Some cell) ≡ true) a b
cells_walk test edges round a b [] walked inside =
    let same : a ≡ b = let is : Some a ≡ Some b = walked in cc in
    (inside, [], same)
cells_walk test edges round a b (None ∷ cs) walked inside = absurd
    (false≢true (sym (side_none edges) ∙ sym (step_constant edges test false round (Some a) None walked.0) ∙ inside))
cells_walk test edges round a b (Some c ∷ cs) walked inside =
    let next = sym (step_constant edges test false round (Some a) (Some c) walked.0) ∙ inside in
    let rest = cells_walk test edges round c b cs walked.1 next in
    (inside, c ∷ rest.1, ((beside_shares a c walked.0.2, next), rest.2))

-- the cells inside are joined by side steps among themselves
pub hole_connected : (test : Place → Bool) → IsOnePart test → (cell : Place) → IsFirstCell test cell → (x : Edge) (xs : List Edge)
    → IsCycle test x xs → ¬ Contains (x ∷ xs) (left_edge cell) → IsConnected four (λ c. side (x ∷ xs) (Some c) ≡ true)
hole_connected test one cell first x xs cycle off a b in_a in_b =
    let joined = hole_joined test one cell first x xs cycle off (Some a) (Some b) in_a in_b in
    cells_walk test (x ∷ xs) (cycle_round test x xs cycle) a b joined.0 joined.1 in_a

-- it lies inside the shell
pub hole_in_shell : (test : Place → Bool) → IsOnePart test → (cell : Place) → IsFirstCell test cell → (x : Edge) (xs : List Edge) → IsCycle test x xs
    → Contains (x ∷ xs) (left_edge cell) → (edges : List Edge) → IsRound test edges → ¬ Contains edges (left_edge cell)
    → ((e : Edge) → Contains edges e → ¬ Contains (x ∷ xs) e) → (a : Option Place) → side edges a ≡ true → side (x ∷ xs) a ≡ true
hole_in_shell test one cell first x xs cycle has edges round off apart a inside =
    let found = hole_reached test one cell first edges round off a inside in
    let shell = cycle_round test x xs cycle in
    let border = round.borders found.0 found.1 in
    side_constant (x ∷ xs) test false shell a (right_spot found.0) found.2
    ∙ sym (crossing_other (x ∷ xs) test shell found.0 border (apart found.0 found.1))
    ∙ shell_set test one cell first x xs cycle has (left_spot found.0) border.left

-- and outside any other
pub holes_apart : (test : Place → Bool) → IsOnePart test → (cell : Place) → IsFirstCell test cell → (edges others : List Edge) → IsRound test edges
    → IsRound test others → ¬ Contains edges (left_edge cell) → ¬ Contains others (left_edge cell)
    → ((e : Edge) → Contains edges e → ¬ Contains others e) → (a : Option Place) → side edges a ≡ true → side others a ≡ false
holes_apart test one cell first edges others round other_round off other_off apart a inside =
    let found = hole_reached test one cell first edges round off a inside in
    let border = round.borders found.0 found.1 in
    side_constant others test false other_round a (right_spot found.0) found.2
    ∙ sym (crossing_other others test other_round found.0 border (apart found.0 found.1))
    ∙ hole_set test one cell first others other_round other_off (left_spot found.0) border.left

-- the right spots of the shell's edges aren't inside it
pub shell_right : (test : Place → Bool) → IsOnePart test → (cell : Place) → IsFirstCell test cell → (x : Edge) (xs : List Edge) → IsCycle test x xs
    → Contains (x ∷ xs) (left_edge cell) → (f : Edge) → Contains (x ∷ xs) f → side (x ∷ xs) (right_spot f) ≡ false
shell_right test one cell first x xs cycle has f on = open_side test (x ∷ xs) (cycle_round test x xs cycle) (right_spot f)
    (joined_trans test false (right_spot f) (right_spot (left_edge cell)) None (cycle_joined test x xs cycle f (left_edge cell) on has)
    (first_right test cell first))
