-- The cycles of a component in the order of their first edges make its only canonical polygon.
use Rattle.std.proofs.Common.{◌≡◌, ℕ, ◌<◌, ◌↔◌, inl, inr, List, [], ◌∷◌, ◌++◌, length, Some, refl, sym, ap, ◌∙◌, subst, arith}
use Rattle.std.specs.Prelude.{AllPairs, Contains, map, slice_get}
use Rattle.std.specs.List.{flat_map}
use Rattle.std.proofs.lemmas.Option.{slice_get_within}
use Rattle.cell_base.specs.Raster.{Place}
use Rattle.cell_base.proofs.ListDeciders.{contains_cases, contains_here, contains_there}
use Rattle.region_label.specs.Count.{IsListOf}
use Rattle.region_label.specs.Labelling.{RegionTable, IsInRegion}
use Rattle.region_label.proofs.RegionDeciders.{is_in_region}
use Rattle.edge_trace.specs.Edge.{Edge}
use Rattle.edge_trace.specs.EdgeTable.{EdgeTable, IsEdgeOf}
use Rattle.ring_faces.specs.LatticePolygon.{Polygon}
use Rattle.ring_faces.specs.CanonicalPolygon.{IsPolygonOf}
use Rattle.ring_faces.specs.declared.cycles.Cycle.{Cycle}
use Rattle.ring_faces.specs.Inner.Cycles.{AreAllCycles, AreCycles, numbers_of}
use Rattle.ring_faces.specs.Inner.Turns.{turns_of}
use Rattle.ring_faces.specs.Inner.Tables.{edges_along}
use Rattle.ring_faces.proofs.MemberLemmas.{apart_parts, AreApart, in_flat, none_in, of_flat, of_map, once_flat, pairs_cons, pairs_head, pairs_nil, pairs_tail, pairs_weaker}
use Rattle.ring_faces.proofs.SpotLemmas.{IsBorder}
use Rattle.ring_faces.proofs.PartLemmas.{border_tells, border_told, IsOnce}
use Rattle.ring_faces.proofs.InsideLemmas.{IsCycleList, left_edge}
use Rattle.ring_faces.proofs.RegionLemmas.{region_first, region_tests}
use Rattle.ring_faces.proofs.TracedLemmas.{BeginsBefore, IsLeastCycle, cycles_only}
use Rattle.ring_faces.proofs.TableLemmas.{along_number, cycle_edges, member_of, number_along, of_member}
use Rattle.ring_faces.proofs.FirstEdgeLemmas.{IsCase, IsOfCase, first_number, holes_before, least_by_number, left_number, shell_begins}

-- two cycles with a number in common are one

apart_at : {A : Type 0} (f : A → List ℕ) (xs : List A) → AllPairs (λ x y. AreApart (f x) (f y)) xs → (x y : A) → Contains xs x → Contains xs y
    → (i : ℕ) → Contains (f x) i → Contains (f y) i → x ≡ y
apart_at f [] apart x y in_x in_y i on_x on_y = absurd (none_in x in_x)
apart_at f (z ∷ zs) apart x y in_x in_y i on_x on_y = elim (contains_cases z zs x in_x) [
  | inl is_x ↦ elim (contains_cases z zs y in_y) [
    | inl is_y ↦ sym is_x ∙ is_y
    | inr later_y ↦ absurd (pairs_head (λ u v. AreApart (f u) (f v)) z zs apart y later_y i (subst (λ u. Contains (f u) i) (sym is_x) on_x) on_y)
  ]
  | inr later_x ↦ elim (contains_cases z zs y in_y) [
    | inl is_y ↦ absurd (pairs_head (λ u v. AreApart (f u) (f v)) z zs apart x later_x i (subst (λ u. Contains (f u) i) (sym is_y) on_y) on_x)
    | inr later_y ↦ apart_at f zs (pairs_tail (λ u v. AreApart (f u) (f v)) z zs apart) x y later_x later_y i on_x on_y
  ]
]

same_by_number : (next : List ℕ) (cycles : List Cycle) → AreCycles next cycles → (c d : Cycle) → Contains cycles c → Contains cycles d → (i : ℕ)
    → Contains (numbers_of next c) i → Contains (numbers_of next d) i → c ≡ d
same_by_number next cycles are c d in_c in_d i on_c on_d = apart_at (numbers_of next) cycles
    (apart_parts (numbers_of next) cycles are.once) c d in_c in_d i on_c on_d

-- the cycles of a component
pub record AreCyclesOf (regions : RegionTable) (table : EdgeTable) (cycles : List Cycle) (k : ℕ) (mine : List Cycle) : Type 0 where
  pub all : (c : Cycle) → Contains mine c ↔ (Contains cycles c × IsEdgeOf regions table k c.first)
  pub order : AllPairs (λ c d. c.first < d.first) mine

of_case : (regions : RegionTable) (table : EdgeTable) (cycles mine : List Cycle) (k : ℕ) → AreCycles table.next cycles
    → AreCyclesOf regions table cycles k mine → (c : Cycle) → Contains mine c → IsOfCase regions table k c
of_case regions table cycles mine k are of c member =
    let is = (of.all c).0 member in
    record { round = are.round c is.0; least = are.least c is.0; of_k = is.1 }

-- the cycle of an edge of the component

record CycleOf (table : EdgeTable) (mine : List Cycle) (i : ℕ) : Type 0 where
  cycle : Cycle
  member : Contains mine cycle
  on : Contains (numbers_of table.next cycle) i

cycle_of : (regions : RegionTable) (table : EdgeTable) (cycles mine : List Cycle) (k : ℕ) (a : Place) → IsCase regions table k a
    → AreAllCycles table.next cycles → AreCyclesOf regions table cycles k mine → (i : ℕ) (e : Edge) → slice_get table.edges i ≡ Some e
    → IsEdgeOf regions table k i → CycleOf table mine i
cycle_of regions table cycles mine k a case are of i e at of_k =
    let within = slice_get_within table.edges i e at in
    let found = of_flat (numbers_of table.next) cycles i (are.all i (omega (arith, within, case.links.next))) in
    let first = of_member regions table case.links k found.0 (are.are.round found.0 found.1) i found.2 of_k in
    record { cycle = found.0; member = (of.all found.0).1 (found.1, first); on = found.2 }

-- their edges are the component's boundary edges, each once

along_once : (regions : RegionTable) (table : EdgeTable) (k : ℕ) (a : Place) → IsCase regions table k a → (c : Cycle) → IsOfCase regions table k c
    → IsOnce (edges_along table c)
along_once regions table k a case c is = list_once (edges_along table c) (cycle_edges regions table case.holds case.links k c is.round is.of_k)
  where
    list_once : (es : List Edge) → IsCycleList (is_in_region regions k) es → IsOnce es
    list_once [] cycle = absurd cycle
    list_once (e ∷ es) cycle = cycle.once

along_apart : (regions : RegionTable) (table : EdgeTable) (cycles mine : List Cycle) (k : ℕ) (a : Place) → IsCase regions table k a
    → AreAllCycles table.next cycles → AreCyclesOf regions table cycles k mine → (c d : Cycle) → Contains mine c → Contains mine d
    → c.first < d.first → AreApart (edges_along table c) (edges_along table d)
along_apart regions table cycles mine k a case are of c d in_c in_d less e on_c on_d =
    let is_c = of_case regions table cycles mine k are.are of c in_c in
    let is_d = of_case regions table cycles mine k are.are of d in_d in
    let at_c = along_number regions table case.links c is_c.round e on_c in
    let at_d = along_number regions table case.links d is_d.round e on_d in
    let number : at_c.0 ≡ at_d.0 = case.holds.once k at_c.0 at_d.0 e at_c.2 at_d.2
    (member_of regions table case.links k c is_c.round is_c.of_k at_c.0 at_c.1)
    (member_of regions table case.links k d is_d.round is_d.of_k at_d.0 at_d.1) in
    let same = same_by_number table.next cycles are.are c d ((of.all c).0 in_c).0 ((of.all d).0 in_d).0 at_d.0
    (subst (λ (i : ℕ). Contains (numbers_of table.next c) i) number at_c.1) at_d.1 in
    omega (arith, less, ap (λ (b : Cycle). b.first) same)

along_all : (regions : RegionTable) (table : EdgeTable) (cycles mine : List Cycle) (k : ℕ) (a : Place) → IsCase regions table k a
    → AreAllCycles table.next cycles → AreCyclesOf regions table cycles k mine
    → IsListOf (IsBorder (is_in_region regions k)) (flat_map (edges_along table) mine)
along_all regions table cycles mine k a case are of = record {
  all = λ e. (
    λ held.
        let found = of_flat (edges_along table) mine e held in
        let is = of_case regions table cycles mine k are.are of found.0 found.1 in
        let at = along_number regions table case.links found.0 is.round e found.2 in
        border_told (IsInRegion regions k) (is_in_region regions k) (region_tests regions k) e
        (case.holds.boundary k at.0 e at.2 (member_of regions table case.links k found.0 is.round is.of_k at.0 at.1)),
    λ border.
        let at = case.holds.every k e (border_tells (IsInRegion regions k) (is_in_region regions k) (region_tests regions k) e border) in
        let found = cycle_of regions table cycles mine k a case are of at.0 e at.1 at.2 in
        in_flat (edges_along table) mine found.cycle e found.member (number_along table found.cycle at.0 e found.on at.1),
  );
  once = once_flat (edges_along table) mine (λ c member. along_once regions table k a case c
      (of_case regions table cycles mine k are.are of c member))
      (pairs_weaker (λ c d. c.first < d.first) (λ c d. AreApart (edges_along table c) (edges_along table d)) mine
      (along_apart regions table cycles mine k a case are of) of.order);
}

-- the first of them has the left edge of the first cell, and no other has

on_shell : (regions : RegionTable) (table : EdgeTable) (cycles : List Cycle) (shell : Cycle) (holes : List Cycle) (k : ℕ) (a : Place)
    → IsCase regions table k a → AreAllCycles table.next cycles → AreCyclesOf regions table cycles k (shell ∷ holes)
    → Contains (edges_along table shell) (left_edge a)
on_shell regions table cycles shell holes k a case are of =
    let left = left_number regions table k a case in
    let found = cycle_of regions table cycles (shell ∷ holes) k a case are of left.number (left_edge a) left.at left.of_k in
    let on = number_along table found.cycle left.number (left_edge a) found.on left.at in
    elim (contains_cases shell holes found.cycle found.member) [
      | inl is ↦ subst (λ (c : Cycle). Contains (edges_along table c) (left_edge a)) (sym is) on
      | inr later ↦
          let first = shell_begins regions table k a case found.cycle (of_case regions table cycles (shell ∷ holes) k are.are of found.cycle found.member) on in
          let is = of_case regions table cycles (shell ∷ holes) k are.are of shell (contains_here shell holes) in
          let least = left.least shell.first is.of_k (shell_within shell is) in
          absurd (omega (arith, first, least, pairs_head (λ c d. c.first < d.first) shell holes of.order found.cycle later))
    ]
  where
    shell_within : (c : Cycle) → IsOfCase regions table k c → c.first < length table.edges
    shell_within c is = omega (arith, is.round.below c.first (first_number table c is.round), case.links.next)

off_hole : (regions : RegionTable) (table : EdgeTable) (cycles : List Cycle) (shell : Cycle) (holes : List Cycle) (k : ℕ) (a : Place)
    → IsCase regions table k a → AreAllCycles table.next cycles → AreCyclesOf regions table cycles k (shell ∷ holes) → (c : Cycle) → Contains holes c
    → ¬ Contains (edges_along table c) (left_edge a)
off_hole regions table cycles shell holes k a case are of c member on = along_apart regions table cycles (shell ∷ holes) k a case are of shell c
    (contains_here shell holes) (contains_there shell holes c member) (pairs_head (λ c d. c.first < d.first) shell holes of.order c member)
    (left_edge a) (on_shell regions table cycles shell holes k a case are of) on

-- a component has a cycle
pub none_missing : (regions : RegionTable) (table : EdgeTable) (cycles mine : List Cycle) (k : ℕ) (a : Place) → IsCase regions table k a
    → AreAllCycles table.next cycles → AreCyclesOf regions table cycles k mine → 0 < length mine
none_missing regions table cycles [] k a case are of =
    let left = left_number regions table k a case in
    let found = cycle_of regions table cycles [] k a case are of left.number (left_edge a) left.at left.of_k in
    absurd (none_in found.cycle found.member)
none_missing regions table cycles (c ∷ cs) k a case are of = omega arith

-- the polygon of a list of cycles
abbrev pub polygon_along : EdgeTable → Cycle → List Cycle → Polygon
polygon_along table shell holes = record { shell = turns_of (edges_along table shell); holes = map (λ c. turns_of (edges_along table c)) holes }

map_both : (table : EdgeTable) (holes : List Cycle) → map (λ c. turns_of (edges_along table c)) holes ≡ map turns_of (map (edges_along table) holes)
map_both table [] = refl
map_both table (c ∷ cs) = ap (λ rs. turns_of (edges_along table c) ∷ rs) (map_both table cs)

flat_both : (table : EdgeTable) (mine : List Cycle) → flat_map (edges_along table) mine ≡ flat_map (λ (es : List Edge). es) (map (edges_along table) mine)
flat_both table [] = refl
flat_both table (c ∷ cs) = ap (λ (es : List Edge). edges_along table c ++ es) (flat_both table cs)

holes_order : (regions : RegionTable) (table : EdgeTable) (cycles : List Cycle) (shell : Cycle) (holes : List Cycle) (k : ℕ) (a : Place)
    → IsCase regions table k a → AreAllCycles table.next cycles → AreCyclesOf regions table cycles k (shell ∷ holes)
    → AllPairs BeginsBefore (map (edges_along table) holes)
holes_order regions table cycles shell holes k a case are of = by holes (λ c member. member) (pairs_tail (λ c d. c.first < d.first) shell holes of.order)
  where
    by : (rest : List Cycle) → ((c : Cycle) → Contains rest c → Contains holes c) → AllPairs (λ c d. c.first < d.first) rest
        → AllPairs BeginsBefore (map (edges_along table) rest)
    by [] within order = pairs_nil BeginsBefore
    by (c ∷ cs) within order =
        let is_of : (d : Cycle) → Contains holes d → IsOfCase regions table k d = λ d member. of_case regions table cycles
        (shell ∷ holes) k are.are of d (contains_there shell holes d member) in
        let in_c = within c (contains_here c cs) in
        pairs_cons BeginsBefore (edges_along table c) (map (edges_along table) cs)
        (λ es member.
        let found = of_map (edges_along table) cs es member in
        let in_d = within found.0 (contains_there c cs found.0 found.1) in
        subst (λ (fs : List Edge). BeginsBefore (edges_along table c) fs) found.2
        (holes_before regions table k a case c found.0 (is_of c in_c) (is_of found.0 in_d)
        (off_hole regions table cycles shell holes k a case are of c in_c)
        (off_hole regions table cycles shell holes k a case are of found.0 in_d) (pairs_head (λ c d. c.first < d.first) c cs order found.0 found.1)))
        (by cs (λ d member. within d (contains_there c cs d member)) (pairs_tail (λ c d. c.first < d.first) c cs order))

-- the polygon of the component's cycles is its only canonical one
pub assembled : (regions : RegionTable) (table : EdgeTable) (cycles : List Cycle) (shell : Cycle) (holes : List Cycle) (k : ℕ) (a : Place)
    → IsCase regions table k a → AreAllCycles table.next cycles → AreCyclesOf regions table cycles k (shell ∷ holes)
    → IsPolygonOf regions k (polygon_along table shell holes)
assembled regions table cycles shell holes k a case are of =
    let only = cycles_only (IsInRegion regions k) (is_in_region regions k) a (region_tests regions k) (case.sides.joined k)
    (region_first regions case.sides k a case.first) (edges_along table shell) (map (edges_along table) holes)
    (λ es member.
    let found = of_map (edges_along table) (shell ∷ holes) es member in
    subst (λ (fs : List Edge). IsLeastCycle (is_in_region regions k) fs) found.2
    (least_by_number regions table k a case found.0 (of_case regions table cycles (shell ∷ holes) k are.are of found.0 found.1)))
    (subst (λ (es : List Edge). IsListOf (IsBorder (is_in_region regions k)) es) (flat_both table (shell ∷ holes))
    (along_all regions table cycles (shell ∷ holes) k a case are of)) (on_shell regions table cycles shell holes k a case are of)
    (holes_order regions table cycles shell holes k a case are of) in
    subst (λ hs. IsPolygonOf regions k (record { shell = turns_of (edges_along table shell); holes = hs })) (sym (map_both table holes)) only
