-- The cycles of a table's links are the cycles of its components' boundary edges.
use Rattle.std.proofs.Common.{◌≡◌, ℕ, zero, suc, ◌+◌, ◌-◌, ◌<◌, List, [], ◌∷◌, length, Some, refl, sym, ap, ◌∙◌, subst, arith}
use Rattle.std.specs.Prelude.{Contains, map, slice_get, slice_index, unwrap_or}
use Rattle.std.proofs.lemmas.Option.{slice_get-get_or, slice_get_within}
use Rattle.cell_base.proofs.PlaceLemmas.{element_at}
use Rattle.cell_base.proofs.ListDeciders.{contains_here, contains_there}
use Rattle.region_label.specs.Labelling.{RegionTable}
use Rattle.region_label.proofs.RegionDeciders.{is_in_region}
use Rattle.edge_trace.specs.Edge.{Edge}
use Rattle.edge_trace.specs.EdgeTable.{EdgeTable, HasLinks, HoldsBoundaries, IsEdgeAt, IsEdgeOf}
use Rattle.ring_faces.specs.declared.cycles.Cycle.{Cycle}
use Rattle.ring_faces.specs.Inner.Cycles.{AreLinks, IsRound, number_after, numbers_from, numbers_of}
use Rattle.ring_faces.specs.Inner.Tables.{edge_at, edges_along, edges_from}
use Rattle.ring_faces.proofs.InsideLemmas.{IsCycleList}
use Rattle.ring_faces.proofs.LinkLemmas.{AreEdges, LinksTo, links_cycle}
use Rattle.ring_faces.proofs.MemberLemmas.{in_map, of_map}
use Rattle.ring_faces.proofs.NumberLemmas.{in_numbers, of_numbers}

-- by numbers

pub edge_is_at : (table : EdgeTable) (i : ℕ) → i < length table.edges → IsEdgeAt table i (edge_at table i)
edge_is_at table i within =
    let found = element_at table.edges i within in
    found.1 ∙ ap (λ (e : Edge). Some e) (sym (ap (λ o. unwrap_or o ((0, 0), (0, 0))) found.1))

pub at_edge : (table : EdgeTable) (i : ℕ) (e : Edge) → IsEdgeAt table i e → edge_at table i ≡ e
at_edge table i e at = ap (λ o. unwrap_or o ((0, 0), (0, 0))) at

pub link_is_at : (next : List ℕ) (i : ℕ) → i < length next → slice_get next i ≡ Some (slice_index next i)
link_is_at next i within = slice_get-get_or next i 0 within

-- the links of a table are links between numbers
pub table_links : (regions : RegionTable) (table : EdgeTable) → HasLinks regions table → AreLinks table.next
table_links regions table links = record {
  below = λ i within.
      let next = links.begins i (slice_index table.next i) (edge_at table i) (link_is_at table.next i within)
      (edge_is_at table i (omega (arith, within, links.next))) in
      omega (arith, slice_get_within table.edges (slice_index table.next i) next.0 next.1, links.next);
  apart = λ i j in_i in_j same. links.apart i j (slice_index table.next j) (link_is_at table.next i in_i
      ∙ ap (λ (n : ℕ). Some n) same) (link_is_at table.next j in_j);
}

-- a walk stays in its component

stays_after : (regions : RegionTable) (table : EdgeTable) → HasLinks regions table → (k n i : ℕ) → i < length table.next → IsEdgeOf regions table k i
    → IsEdgeOf regions table k (number_after table.next n i)
stays_after regions table links k zero i within of_k = of_k
stays_after regions table links k (suc n) i within of_k = stays_after regions table links k n (slice_index table.next i)
    ((table_links regions table links).below i within) (links.stays k i (slice_index table.next i) (link_is_at table.next i within) of_k)

after_both : (next : List ℕ) (m n i : ℕ) → number_after next n (number_after next m i) ≡ number_after next (m + n) i
after_both next zero n i =
    let none : 0 + n ≡ n = omega arith in
    ap (λ (k : ℕ). number_after next k i) (sym none)
after_both next (suc m) n i =
    let more : suc m + n ≡ suc (m + n) = omega arith in
    after_both next m n (slice_index next i) ∙ ap (λ (k : ℕ). number_after next k i) (sym more)

-- a cycle is of the component of its first edge, and so of any of its edges

pub member_of : (regions : RegionTable) (table : EdgeTable) → HasLinks regions table → (k : ℕ) (cycle : Cycle) → IsRound table.next cycle
    → IsEdgeOf regions table k cycle.first → (i : ℕ) → Contains (numbers_of table.next cycle) i → IsEdgeOf regions table k i
member_of regions table links k cycle round of_k i member =
    let found = of_numbers table.next cycle.edges cycle.first i member in
    let first = round.below cycle.first (in_numbers table.next cycle.edges cycle.first 0 round.some) in
    subst (λ (j : ℕ). IsEdgeOf regions table k j) found.2 (stays_after regions table links k found.0 cycle.first first of_k)

pub of_member : (regions : RegionTable) (table : EdgeTable) → HasLinks regions table → (k : ℕ) (cycle : Cycle) → IsRound table.next cycle → (i : ℕ)
    → Contains (numbers_of table.next cycle) i → IsEdgeOf regions table k i → IsEdgeOf regions table k cycle.first
of_member regions table links k cycle round i member of_k =
    let found = of_numbers table.next cycle.edges cycle.first i member in
    let rest = cycle.edges - found.0 in
    let whole : found.0 + rest ≡ cycle.edges = omega (arith, found.1) in
    let back : number_after table.next rest i ≡ cycle.first = ap (number_after table.next rest) (sym found.2)
    ∙ after_both table.next found.0 rest cycle.first ∙ ap (λ (n : ℕ). number_after table.next n cycle.first) whole ∙ round.ends in
    subst (λ (j : ℕ). IsEdgeOf regions table k j) back (stays_after regions table links k rest i (round.below i member) of_k)

-- the numbers of a cycle by its links, and its edges by their numbers

links_to : (table : EdgeTable) (n i : ℕ) → ((j : ℕ) → Contains (numbers_from table.next (suc n) i) j → j < length table.next)
    → LinksTo table i (numbers_from table.next n (slice_index table.next i)) (number_after table.next (suc n) i)
links_to table zero i below = link_is_at table.next i (below i (contains_here i []))
links_to table (suc n) i below =
    let rest = numbers_from table.next (suc n) (slice_index table.next i) in (
      link_is_at table.next i (below i (contains_here i rest)),
      links_to table n (slice_index table.next i)
          (λ j member. below j (contains_there i rest j member)),
    )

are_edges : (table : EdgeTable) (is : List ℕ) → ((i : ℕ) → Contains is i → i < length table.edges) → AreEdges table is (map (edge_at table) is)
are_edges table [] below = tt
are_edges table (i ∷ is) below = (edge_is_at table i (below i (contains_here i is)), are_edges table is (λ j member. below j (contains_there i is j member)))

cycle_by_numbers : (regions : RegionTable) (table : EdgeTable) → HoldsBoundaries regions table → HasLinks regions table → (k n first : ℕ)
    → IsRound table.next (record { first = first; edges = n }) → IsEdgeOf regions table k first
    → IsCycleList (is_in_region regions k) (edges_from table n first)
cycle_by_numbers regions table holds links k zero first round of_k = absurd (omega (arith, round.some))
cycle_by_numbers regions table holds links k (suc n) first round of_k =
    let is = numbers_from table.next n (slice_index table.next first) in
    let to = subst (λ (end : ℕ). LinksTo table first is end) round.ends (links_to table n first round.below) in
    links_cycle regions table holds links k first is (edge_at table first) (map (edge_at table) is) of_k to round.once
    (are_edges table (first ∷ is) (λ j member. omega (arith, round.below j member, links.next)))

-- the edges of a cycle of numbers are a cycle
pub cycle_edges : (regions : RegionTable) (table : EdgeTable) → HoldsBoundaries regions table → HasLinks regions table → (k : ℕ) (cycle : Cycle)
    → IsRound table.next cycle → IsEdgeOf regions table k cycle.first → IsCycleList (is_in_region regions k) (edges_along table cycle)
cycle_edges regions table holds links k cycle round of_k = cycle_by_numbers regions table holds links k cycle.edges cycle.first round of_k

-- its edges by their numbers

pub along_number : (regions : RegionTable) (table : EdgeTable) → HasLinks regions table → (cycle : Cycle) → IsRound table.next cycle → (e : Edge)
    → Contains (edges_along table cycle) e → (i : ℕ) × Contains (numbers_of table.next cycle) i × IsEdgeAt table i e
along_number regions table links cycle round e member =
    let found = of_map (edge_at table) (numbers_of table.next cycle) e member in
    let within : found.0 < length table.edges = omega (arith, round.below found.0 found.1, links.next) in
    (found.0, found.1, edge_is_at table found.0 within ∙ ap (λ (f : Edge). Some f) found.2)

pub number_along : (table : EdgeTable) (cycle : Cycle) (i : ℕ) (e : Edge) → Contains (numbers_of table.next cycle) i → IsEdgeAt table i e
    → Contains (edges_along table cycle) e
number_along table cycle i e member at = subst (λ (f : Edge). Contains (edges_along table cycle) f) (at_edge table i e at)
    (in_map (edge_at table) (numbers_of table.next cycle) i member)

-- the first edge
pub first_along : (table : EdgeTable) (cycle : Cycle) → IsRound table.next cycle
    → (rest : List Edge) × (edges_along table cycle ≡ edge_at table cycle.first ∷ rest)
first_along table cycle round = by cycle.edges cycle.first round.some
  where
    by : (n first : ℕ) → 0 < n → (rest : List Edge) × (edges_from table n first ≡ edge_at table first ∷ rest)
    by zero first some = absurd (omega arith)
    by (suc n) first some = (edges_from table n (slice_index table.next first), refl)
