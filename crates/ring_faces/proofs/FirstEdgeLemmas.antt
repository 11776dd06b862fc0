-- In a table in order each cycle's first edge begins at its least corner, and the first edge of a component is the left
-- edge of its first cell.
use Rattle.std.proofs.Common.{◌≡◌, ℕ, zero, suc, ◌+◌, ◌<◌, ◌≤◌, inl, inr, List, ◌∷◌, length, Some, refl, sym, ap, ◌∙◌, subst, arith}
use Rattle.std.specs.Prelude.{Contains, slice_get}
use Rattle.std.proofs.lemmas.Bool.{cases_lt}
use Rattle.std.proofs.lemmas.Option.{slice_get_within}
use Rattle.cell_base.specs.Raster.{Place}
use Rattle.cell_base.specs.Order.{IsBefore}
use Rattle.cell_base.proofs.OrderLemmas.{before_not_itself, before_trans}
use Rattle.cell_base.proofs.ListDeciders.{contains_here}
use Rattle.region_label.specs.Labelling.{RegionTable, IsInRegion}
use Rattle.region_label.proofs.ListLemmas.{at_from_contains, contains_from_at}
use Rattle.region_label.proofs.RegionDeciders.{is_in_region}
use Rattle.edge_trace.specs.Edge.{Corner, Edge, HasOnLeft, edges_round}
use Rattle.edge_trace.specs.EdgeTable.{EdgeTable, HasLinks, HoldsBoundaries, IsCellAt, IsEdgeAt, IsEdgeOf}
use Rattle.edge_trace.specs.EdgeOrder.{AreInOrder, IsSideAt}
use Rattle.ring_faces.specs.declared.cycles.Cycle.{Cycle}
use Rattle.ring_faces.specs.Faces.{AreJoinedBySides}
use Rattle.ring_faces.specs.Inner.Cycles.{IsRound, numbers_of}
use Rattle.ring_faces.specs.Inner.Tables.{edge_at, edges_along}
use Rattle.ring_faces.proofs.SpotLemmas.{pair_is}
use Rattle.ring_faces.proofs.PartLemmas.{IsOnePart, border_tells, connected_is_part, held_or_not}
use Rattle.ring_faces.proofs.CycleLemmas.{IsCycle}
use Rattle.ring_faces.proofs.SimpleLemmas.{same_edges}
use Rattle.ring_faces.proofs.InsideLemmas.{IsCycleList, IsFirstCell, first_border, left_edge}
use Rattle.ring_faces.proofs.MemberLemmas.{head_is}
use Rattle.ring_faces.proofs.StartLemmas.{AllFrom, ends_from}
use Rattle.ring_faces.proofs.NextLemmas.{HoldsBorders, least_cycle}
use Rattle.ring_faces.proofs.RegionLemmas.{region_first, region_tests}
use Rattle.ring_faces.proofs.OrderLemmas.{from_cell, hole_first, hole_order, holes_order, left_of_level}
use Rattle.ring_faces.proofs.TracedLemmas.{BeginsBefore, IsLeastCycle}
use Rattle.ring_faces.proofs.NumberLemmas.{in_numbers}
use Rattle.ring_faces.proofs.TableLemmas.{along_number, at_edge, cycle_edges, edge_is_at, first_along, member_of}

-- a table of edges in order, and a component with its first cell
pub record IsCase (regions : RegionTable) (table : EdgeTable) (k : ℕ) (a : Place) : Type 0 where
  pub holds : HoldsBoundaries regions table
  pub links : HasLinks regions table
  pub order : AreInOrder table
  pub sides : AreJoinedBySides regions
  pub first : slice_get regions.firsts k ≡ Some a

-- the cell on the left of an edge of the component
record CellAt (regions : RegionTable) (table : EdgeTable) (k i : ℕ) (e : Edge) : Type 0 where
  cell : Place
  side : ℕ
  at : IsCellAt table i cell
  inside : IsInRegion regions k cell
  left : HasOnLeft e cell
  side_at : IsSideAt table i cell side

cell_at : (regions : RegionTable) (table : EdgeTable) → HoldsBoundaries regions table → (k i : ℕ) (e : Edge) → IsEdgeAt table i e
    → IsEdgeOf regions table k i → CellAt regions table k i e
cell_at regions table holds k i e at of_k =
    let left = holds.left i e of_k.0 at of_k.1 in
    let side = at_from_contains (edges_round of_k.0) e left in
    record { cell = of_k.0; side = side.0; at = of_k.1; inside = of_k.2; left = left; side_at = (of_k.1, e, at, side.1) }

same_edge_at : (table : EdgeTable) (i : ℕ) (e f : Edge) → IsEdgeAt table i e → IsEdgeAt table i f → e ≡ f
same_edge_at table i e f one two = sym (at_edge table i e one) ∙ at_edge table i f two

one_part_of : (regions : RegionTable) (table : EdgeTable) (k : ℕ) (a : Place) → IsCase regions table k a → IsOnePart (is_in_region regions k)
one_part_of regions table k a case = connected_is_part (IsInRegion regions k) (is_in_region regions k) (region_tests regions k) (case.sides.joined k)

first_cell_of : (regions : RegionTable) (table : EdgeTable) (k : ℕ) (a : Place) → IsCase regions table k a → IsFirstCell (is_in_region regions k) a
first_cell_of regions table k a case = region_first regions case.sides k a case.first

-- the first edge of a component

-- a side of a cell that is its left edge is the side of number 0
left_side : (a : Place) (t : ℕ) → slice_get (edges_round a) t ≡ Some (left_edge a) → t ≡ 0
left_side a zero is = refl
left_side a (suc zero) is =
    let same : ((a.0 + 1, a.1), (a.0 + 1, a.1 + 1)) ≡ left_edge a = cc in
    absurd (omega (arith, ap (λ (e : Edge). e.0.0) same))
left_side a (suc (suc zero)) is =
    let same : ((a.0 + 1, a.1 + 1), (a.0, a.1 + 1)) ≡ left_edge a = cc in
    absurd (omega (arith, ap (λ (e : Edge). e.0.0) same))
left_side a (suc (suc (suc zero))) is =
    let same : ((a.0, a.1 + 1), (a.0, a.1)) ≡ left_edge a = cc in
    absurd (omega (arith, ap (λ (e : Edge). e.0.1) same))
left_side a (suc (suc (suc (suc k)))) is = absurd (omega (arith, slice_get_within (edges_round a) (suc (suc (suc (suc k)))) (left_edge a) is))

left_of_left : (a cell : Place) → HasOnLeft (left_edge a) cell → cell ≡ a
left_of_left a cell (zero, within, is) = pair_is cell a.0 a.1 (ap (λ (e : Edge). e.0.0) is) (ap (λ (e : Edge). e.0.1) is)
left_of_left a cell (suc zero, within, is) = absurd (omega (arith, ap (λ (e : Edge). e.0.0) is, ap (λ (e : Edge). e.1.0) is))
left_of_left a cell (suc (suc zero), within, is) = absurd (omega (arith, ap (λ (e : Edge). e.0.0) is, ap (λ (e : Edge). e.1.0) is))
left_of_left a cell (suc (suc (suc zero)), within, is) = absurd (omega (arith, ap (λ (e : Edge). e.0.0) is, ap (λ (e : Edge). e.1.0) is))
left_of_left a cell (suc (suc (suc (suc k))), within, is) = absurd (omega arith)

-- the number of the left edge of the first cell
pub record IsLeftNumber (regions : RegionTable) (table : EdgeTable) (k : ℕ) (a : Place) : Type 0 where
  pub number : ℕ
  pub at : IsEdgeAt table number (left_edge a)
  pub of_k : IsEdgeOf regions table k number
  pub least : (j : ℕ) → IsEdgeOf regions table k j → j < length table.edges → number ≤ j

pub left_number : (regions : RegionTable) (table : EdgeTable) (k : ℕ) (a : Place) → IsCase regions table k a → IsLeftNumber regions table k a
left_number regions table k a case =
    let border = first_border (is_in_region regions k) a (first_cell_of regions table k a case) in
    let found = case.holds.every k (left_edge a) (border_tells (IsInRegion regions k) (is_in_region regions k) (region_tests regions k) (left_edge a) border) in
    let i = found.0 in
    let here = cell_at regions table case.holds k i (left_edge a) found.1 found.2 in
    let cell : here.cell ≡ a = left_of_left a here.cell here.left in
    let side : slice_get (edges_round a) here.side ≡ Some (left_edge a) = ap (λ (p : Place). slice_get (edges_round p) here.side) (sym cell)
    ∙ here.side_at.3 ∙ ap (λ (e : Edge). Some e) (same_edge_at table i _ _ here.side_at.2 found.1) in
    record {
      number = i;
      at = found.1;
      of_k = found.2;
      least = λ j of_k within. elim (cases_lt j i) [
        | inr past ↦ past
        | inl less ↦
            let there = cell_at regions table case.holds k j (edge_at table j) (edge_is_at table j within) of_k in
            elim (case.order j i there.cell here.cell there.side here.side less there.side_at here.side_at) [
              | inl before ↦ absurd (case.sides.least k a there.cell case.first there.inside (subst (λ (p : Place). IsBefore there.cell p) cell before))
              | inr same ↦ absurd (omega (arith, same.1, left_side a here.side side))
            ]
      ];
    }

-- a cycle of the component, as a list of edges with its first

pub record IsOfCase (regions : RegionTable) (table : EdgeTable) (k : ℕ) (cycle : Cycle) : Type 0 where
  pub round : IsRound table.next cycle
  pub least : (i : ℕ) → Contains (numbers_of table.next cycle) i → cycle.first ≤ i
  pub of_k : IsEdgeOf regions table k cycle.first

pub first_number : (table : EdgeTable) (cycle : Cycle) → IsRound table.next cycle → Contains (numbers_of table.next cycle) cycle.first
first_number table cycle round = in_numbers table.next cycle.edges cycle.first 0 round.some

pub first_edge_at : (regions : RegionTable) (table : EdgeTable) → HasLinks regions table → (cycle : Cycle) → IsRound table.next cycle
    → IsEdgeAt table cycle.first (edge_at table cycle.first)
first_edge_at regions table links cycle round = edge_is_at table cycle.first
    (omega (arith, round.below cycle.first (first_number table cycle round), links.next))

-- each border edge is in the table
borders_held : (regions : RegionTable) (table : EdgeTable) (k : ℕ) → HoldsBoundaries regions table → HoldsBorders (is_in_region regions k) table.edges
borders_held regions table k holds e border =
    let found = holds.every k e (border_tells (IsInRegion regions k) (is_in_region regions k) (region_tests regions k) e border) in
    contains_from_at table.edges found.0 e found.1

-- the cycle with the left edge of the first cell begins with it
pub shell_begins : (regions : RegionTable) (table : EdgeTable) (k : ℕ) (a : Place) (case : IsCase regions table k a) (cycle : Cycle)
    → IsOfCase regions table k cycle → Contains (edges_along table cycle) (left_edge a) → cycle.first ≡ (left_number regions table k a case).number
shell_begins regions table k a case cycle is on =
    let left = left_number regions table k a case in
    let found = along_number regions table case.links cycle is.round (left_edge a) on in
    let of_found = member_of regions table case.links k cycle is.round is.of_k found.0 found.1 in
    let same : found.0 ≡ left.number = case.holds.once k found.0 left.number (left_edge a) found.2 left.at of_found left.of_k in
    let up = is.least found.0 found.1 in
    let down = left.least cycle.first is.of_k (slice_get_within table.edges cycle.first _ (first_edge_at regions table case.links cycle is.round)) in
    omega (arith, same, up, down)

shell_from : (regions : RegionTable) (table : EdgeTable) (k : ℕ) (a : Place) → IsCase regions table k a → (cycle : Cycle)
    → IsOfCase regions table k cycle → AllFrom a (edges_along table cycle)
shell_from regions table k a case cycle is e member =
    let found = along_number regions table case.links cycle is.round e member in
    let at = cell_at regions table case.holds k found.0 e found.2 (member_of regions table case.links k cycle is.round is.of_k found.0 found.1) in
    from_cell a at.cell e at.left (case.sides.least k a at.cell case.first at.inside)

-- any other begins with the edge to the right from its least corner

abbrev pub BeginsRight : List Edge → Edge → Type 0
BeginsRight edges x = (x ≡ (x.0, (x.0.0, x.0.1 + 1))) × AllFrom x.0 edges

hole_by : (regions : RegionTable) (table : EdgeTable) (k : ℕ) (a : Place) → IsCase regions table k a → (cycle : Cycle)
    → IsOfCase regions table k cycle → (x : Edge) (xs : List Edge) → edges_along table cycle ≡ x ∷ xs → IsEdgeAt table cycle.first x
    → IsCycle (is_in_region regions k) x xs → ¬ Contains (x ∷ xs) (left_edge a) → BeginsRight (x ∷ xs) x
hole_by regions table k a case cycle is x xs along at_x is_cycle off =
    let test = is_in_region regions k in
    let one = one_part_of regions table k a case in
    let first = first_cell_of regions table k a case in
    let found = least_cycle test one table.edges (borders_held regions table k case.holds) x (is_cycle.borders x (contains_here x xs)) in
    let m = found.first in
    let has_m = contains_here m found.others in
    let to_x : (e : Edge) → Contains (m ∷ found.others) e
    → Contains (x ∷ xs) e = same_edges test one m found.others x xs found.cycle is_cycle x found.has (contains_here x xs) in
    let to_m : (e : Edge) → Contains (x ∷ xs) e → Contains (m ∷ found.others) e = same_edges test one x xs m found.others is_cycle found.cycle x
    (contains_here x xs) found.has in
    let level = hole_first test one a first m found.others found.cycle (λ on. off (to_x (left_edge a) on)) found.from in
    let number = along_number regions table case.links cycle is.round m (subst (λ (es : List Edge). Contains es m) (sym along) (to_x m has_m)) in
    let at_m = cell_at regions table case.holds k number.0 m number.2 (member_of regions table case.links k cycle is.round is.of_k number.0 number.1) in
    let here = cell_at regions table case.holds k cycle.first x at_x is.of_k in
    let same : x ≡ m = elim (cases_lt cycle.first number.0) [
      | inr past ↦ same_edge_at table cycle.first x m at_x
          (subst (λ (i : ℕ). IsEdgeAt table i m) (both cycle.first number.0 (is.least number.0 number.1) past) number.2)
      | inl less ↦ elim (hole_order m.0 x at_m.cell here.cell (subst (λ (e : Edge). HasOnLeft e at_m.cell) level at_m.left) here.left
          (found.from x found.has) (ends_from test m found.others found.cycle m.0 found.from x found.has)) [
            | inr is_m ↦ is_m ∙ sym level
            | inl before ↦ elim (case.order cycle.first number.0 here.cell at_m.cell here.side at_m.side less here.side_at at_m.side_at) [
              | inl after ↦ absurd (before_not_itself at_m.cell (before_trans at_m.cell here.cell at_m.cell before after))
              | inr cells ↦ absurd (before_not_itself at_m.cell (subst (λ (p : Place). IsBefore at_m.cell p) {y = at_m.cell} cells.0 before))
            ]
          ]
    ] in
    subst (λ (e : Edge). BeginsRight (x ∷ xs) e) (sym same) (level, λ e member. found.from e (to_m e member))
  where
    both : (i j : ℕ) → i ≤ j → j ≤ i → j ≡ i
    both i j up down = omega arith

-- a cycle by its first edge
record Along (regions : RegionTable) (table : EdgeTable) (k : ℕ) (cycle : Cycle) : Type 0 where
  rest : List Edge
  is : edges_along table cycle ≡ edge_at table cycle.first ∷ rest
  leads : IsCycle (is_in_region regions k) (edge_at table cycle.first) rest

along_of : (regions : RegionTable) (table : EdgeTable) (k : ℕ) (a : Place) → IsCase regions table k a → (cycle : Cycle)
    → IsOfCase regions table k cycle → Along regions table k cycle
along_of regions table k a case cycle is =
    let found = first_along table cycle is.round in
    let edges = cycle_edges regions table case.holds case.links k cycle is.round is.of_k in
    record { rest = found.0; is = found.1; leads = list_is found.0 (edge_at table cycle.first) (edges_along table cycle) found.1 edges }
  where
    list_is : (rest : List Edge) (x : Edge) (es : List Edge) → es ≡ x ∷ rest → IsCycleList (is_in_region regions k) es → IsCycle (is_in_region regions k) x rest
    list_is rest x es is edges = subst (λ (fs : List Edge). IsCycleList (is_in_region regions k) fs) is edges

-- a hole begins with the edge to the right from its least corner
pub hole_begins : (regions : RegionTable) (table : EdgeTable) (k : ℕ) (a : Place) → IsCase regions table k a → (cycle : Cycle)
    → IsOfCase regions table k cycle → ¬ Contains (edges_along table cycle) (left_edge a) → BeginsRight (edges_along table cycle) (edge_at table cycle.first)
hole_begins regions table k a case cycle is off =
    let along = along_of regions table k a case cycle is in
    subst (λ (es : List Edge). BeginsRight es (edge_at table cycle.first)) (sym along.is)
    (hole_by regions table k a case cycle is (edge_at table cycle.first) along.rest along.is
    (first_edge_at regions table case.links cycle is.round) along.leads
    (λ on. off (subst (λ (es : List Edge). Contains es (left_edge a)) (sym along.is) on)))

-- each cycle starts at its least corner
pub least_by_number : (regions : RegionTable) (table : EdgeTable) (k : ℕ) (a : Place) → IsCase regions table k a → (cycle : Cycle)
    → IsOfCase regions table k cycle → IsLeastCycle (is_in_region regions k) (edges_along table cycle)
least_by_number regions table k a case cycle is =
    let along = along_of regions table k a case cycle is in
    let x = edge_at table cycle.first in
    let from : AllFrom x.0 (edges_along table cycle) = elim (held_or_not (edges_along table cycle) (left_edge a)) [
      | inr off ↦ (hole_begins regions table k a case cycle is off).1
      | inl on ↦
          let left = left_number regions table k a case in
          let number = shell_begins regions table k a case cycle is on in
          let x_is : x ≡ left_edge a = ap (edge_at table) number ∙ at_edge table left.number (left_edge a) left.at in
          subst (λ (p : Corner). AllFrom p (edges_along table cycle)) (sym (ap (λ (e : Edge). e.0) x_is)) (shell_from regions table k a case cycle is)
    ] in
    subst (λ (es : List Edge). IsLeastCycle (is_in_region regions k) es) (sym along.is) (along.leads, subst (λ (es : List Edge). AllFrom x.0 es) along.is from)

-- two holes start in the order of their numbers
pub holes_before : (regions : RegionTable) (table : EdgeTable) (k : ℕ) (a : Place) → IsCase regions table k a → (c d : Cycle)
    → IsOfCase regions table k c → IsOfCase regions table k d → ¬ Contains (edges_along table c) (left_edge a)
    → ¬ Contains (edges_along table d) (left_edge a) → c.first < d.first → BeginsBefore (edges_along table c) (edges_along table d)
holes_before regions table k a case c d is_c is_d off_c off_d less e f at_e at_f =
    let along_c = along_of regions table k a case c is_c in
    let along_d = along_of regions table k a case d is_d in
    let x = edge_at table c.first in
    let y = edge_at table d.first in
    let right_x = (hole_begins regions table k a case c is_c off_c).0 in
    let right_y = (hole_begins regions table k a case d is_d off_d).0 in
    let in_x = first_edge_at regions table case.links c is_c.round in
    let in_y = first_edge_at regions table case.links d is_d.round in
    let cell_x = cell_at regions table case.holds k c.first x in_x is_c.of_k in
    let cell_y = cell_at regions table case.holds k d.first y in_y is_d.of_k in
    let left_x = subst (λ (g : Edge). HasOnLeft g cell_x.cell) right_x cell_x.left in
    let left_y = subst (λ (g : Edge). HasOnLeft g cell_y.cell) right_y cell_y.left in
    let before : IsBefore x.0 y.0 = elim (case.order c.first d.first cell_x.cell cell_y.cell cell_x.side cell_y.side less cell_x.side_at cell_y.side_at) [
      | inl before ↦ holes_order x.0 y.0 cell_x.cell cell_y.cell left_x left_y before
      | inr same ↦
          let at_x = left_of_level x.0 cell_x.cell left_x in
          let at_y = left_of_level y.0 cell_y.cell left_y in
          let starts : x.0 ≡ y.0 = pair_is x.0 y.0.0 y.0.1 (sym at_x.0 ∙ ap (λ (p : Place). p.0 + 1) same.0 ∙ at_y.0) (sym at_x.1
          ∙ ap (λ (p : Place). p.1) same.0 ∙ at_y.1) in
          let one : x ≡ y = right_x ∙ ap (λ (p : Corner). (p, (p.0, p.1 + 1))) starts ∙ sym right_y in
          absurd (omega (arith, less, case.holds.once k c.first d.first x in_x (in_y ∙ ap (λ (g : Edge). Some g) (sym one)) is_c.of_k is_d.of_k))
    ] in
    subst (λ (g : Edge). IsBefore g.0 f.0) (head_is (edges_along table c) along_c.rest x e along_c.is at_e)
    (subst (λ (g : Edge). IsBefore x.0 g.0) (head_is (edges_along table d) along_d.rest y f along_d.is at_f) before)
