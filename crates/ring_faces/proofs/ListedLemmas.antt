-- The linked cycles of each component make its only canonical polygon.
use Rattle.std.proofs.Common.{◌≡◌, ℕ, zero, suc, ◌<◌, ◌≤◌, inl, inr, Bool, List, [], ◌∷◌, length, Some, refl, sym, ap, ◌∙◌, subst, arith}
use Rattle.std.specs.Prelude.{AllPairs, Contains, map, slice_get, slice_index, unwrap_or, if◌then◌else◌}
use Rattle.std.proofs.lemmas.Bool.{cases_lt}
use Rattle.std.proofs.lemmas.List.{length-map}
use Rattle.std.proofs.lemmas.Option.{get_or_from_slice_get, same_Some, slice_get_within}
use Rattle.cell_base.specs.Raster.{Place}
use Rattle.cell_base.proofs.PlaceLemmas.{element_at}
use Rattle.cell_base.proofs.ListDeciders.{contains_cases, contains_here, contains_there}
use Rattle.region_label.specs.Labelling.{RegionTable}
use Rattle.region_label.proofs.ListLemmas.{at_from_contains, contains_from_at}
use Rattle.edge_trace.specs.EdgeTable.{EdgeTable, IsEdgeOf, IsEdgeTable}
use Rattle.edge_trace.specs.EdgeOrder.{AreInOrder}
use Rattle.ring_faces.specs.LatticePolygon.{Polygon}
use Rattle.ring_faces.specs.Ring.{Ring}
use Rattle.ring_faces.specs.CanonicalPolygon.{IsPolygonOf}
use Rattle.ring_faces.specs.Faces.{AreJoinedBySides, ArePolygonsOf}
use Rattle.ring_faces.specs.declared.cycles.Cycle.{Cycle}
use Rattle.ring_faces.specs.declared.rings.RingCorners.{RingCorners}
use Rattle.ring_faces.specs.declared.lists.CycleLists.{CycleLists}
use Rattle.ring_faces.specs.Inner.Cycles.{AreAllCycles, AreCycles}
use Rattle.ring_faces.specs.Inner.Tables.{IsLinkedTable}
use Rattle.ring_faces.specs.Inner.Chains.{AreFaces, AreListed, AreRings, CyclesBegin, IsChain, IsCycleIn, IsListFrom, chain_from, cycle_at, polygon_from, polygons_of, ring_along, ring_traced, rings_from}
use Rattle.ring_faces.proofs.MemberLemmas.{in_map, none_in, of_map, pairs_cons, pairs_head, pairs_nil, pairs_tail}
use Rattle.ring_faces.proofs.TableLemmas.{table_links}
use Rattle.ring_faces.proofs.FirstEdgeLemmas.{IsCase, first_number}
use Rattle.ring_faces.proofs.AssembleLemmas.{AreCyclesOf, assembled, none_missing}
use Rattle.ring_faces.proofs.ChainLemmas.{below_test, chain_is, list_short, not_below}

-- cycles by their indices

cycle_is_at : (cycles : List Cycle) (i : ℕ) (c : Cycle) → slice_get cycles i ≡ Some c → cycle_at cycles i ≡ c
cycle_is_at cycles i c at = ap (λ o. unwrap_or o (record { first = 0; edges = 0 })) at

order_at : (next : List ℕ) (cycles : List Cycle) → AreCycles next cycles → (i j : ℕ) → i < j → j < length cycles
    → (cycle_at cycles i).first < (cycle_at cycles j).first
order_at next cycles are i j less within =
    let none : Cycle = record { first = 0; edges = 0 } in
    let x = element_at cycles i (omega arith) in
    let y = element_at cycles j within in
    let is_x = get_or_from_slice_get cycles i x.0 none x.1 in
    let is_y = get_or_from_slice_get cycles j y.0 none y.1 in
    let before = are.order i j none less within in
    omega (
      arith,
      before,
      ap (λ (c : Cycle). c.first) (is_x ∙ sym (cycle_is_at cycles i x.0 x.1)),
      ap (λ (c : Cycle). c.first) (is_y
          ∙ sym (cycle_is_at cycles j y.0 y.1)),
    )

ordered : (next : List ℕ) (cycles : List Cycle) → AreCycles next cycles → (list : List ℕ) → AllPairs (λ i j. i < j) list
    → ((i : ℕ) → Contains list i → i < length cycles) → AllPairs (λ c d. c.first < d.first) (map (cycle_at cycles) list)
ordered next cycles are [] order within = pairs_nil (λ c d. c.first < d.first)
ordered next cycles are (i ∷ is) order within = pairs_cons (λ c d. c.first < d.first) (cycle_at cycles i) (map (cycle_at cycles) is)
    (λ d member.
    let found = of_map (cycle_at cycles) is d member in
    subst (λ (c : Cycle). (cycle_at cycles i).first < c.first) found.2
    (order_at next cycles are i found.0 (pairs_head (λ m n. m < n) i is order found.0 found.1) (within found.0 (contains_there i is found.0 found.1))))
    (ordered next cycles are is (pairs_tail (λ m n. m < n) i is order) (λ j member. within j (contains_there i is j member)))

-- the cycles of a component's list are its cycles
listed_cycles : (regions : RegionTable) (table : EdgeTable) (cycles : List Cycle) (links : List ℕ) (start k : ℕ) → length links ≡ length cycles
    → AreAllCycles table.next cycles → (from : IsListFrom links start 0 (IsCycleIn regions table cycles k))
    → AreCyclesOf regions table cycles k (map (cycle_at cycles) from.list)
listed_cycles regions table cycles links start k sized are from = record {
  all = λ c. (
    λ member.
        let found = of_map (cycle_at cycles) from.list c member in
        let is = ((from.all found.0).0 found.1).2 in
        let same : is.0 ≡ c = sym (cycle_is_at cycles found.0 is.0 is.1) ∙ found.2 in (
          subst (λ (d : Cycle). Contains cycles d) same (contains_from_at cycles found.0 is.0 is.1),
          subst
              (λ (d : Cycle). IsEdgeOf regions table k d.first) same is.2,
        ),
    λ has.
        let at = at_from_contains cycles c has.0 in
        let on = (from.all at.0).1 (omega arith, omega (arith, slice_get_within cycles at.0 c at.1, sized), (c, at.1, has.1)) in
        subst (λ (d : Cycle). Contains (map (cycle_at cycles) from.list) d) (cycle_is_at cycles at.0 c at.1) (in_map (cycle_at cycles) from.list at.0 on),
  );
  order = ordered table.next cycles are.are from.list from.order (λ i member. omega (arith, ((from.all i).0 member).1, sized));
}

-- all that is known when the cycles are linked
pub record IsAssembled (regions : RegionTable) (table : EdgeTable) (cycles : List Cycle) (lists : CycleLists) : Type 0 where
  pub table_is : IsEdgeTable regions table
  pub order : AreInOrder table
  pub sides : AreJoinedBySides regions
  pub cycles_are : AreAllCycles table.next cycles
  pub listed : AreListed regions table cycles lists 0

-- from what is known of the same table, and the same cycles, on the way
pub known_so_far : (regions : RegionTable) (table walked left : EdgeTable) (cycles lent : List Cycle) (lists : CycleLists)
    → IsEdgeTable regions table → AreInOrder table → AreJoinedBySides regions → walked ≡ table → left ≡ walked → lent ≡ cycles
    → AreAllCycles walked.next cycles → AreListed regions left lent lists 0 → IsAssembled regions table cycles lists
known_so_far regions table walked left cycles lent lists table_is order sides walked_is left_is lent_is all listed =
    let of_cycles = subst (λ (cs : List Cycle). AreListed regions left cs lists 0) lent_is listed in
    record {
      table_is = table_is;
      order = order;
      sides = sides;
      cycles_are = subst (λ (t : EdgeTable). AreAllCycles t.next cycles) walked_is all;
      listed = subst (λ (t : EdgeTable). AreListed regions t cycles lists 0) (left_is ∙ walked_is) of_cycles;
    }

case_of : (regions : RegionTable) (table : EdgeTable) (cycles : List Cycle) (lists : CycleLists) → IsAssembled regions table cycles lists
    → (k : ℕ) (a : Place) → slice_get regions.firsts k ≡ Some a → IsCase regions table k a
case_of regions table cycles lists is k a first = record { holds = is.table_is.holds; links = is.table_is.links; order = is.order; sides = is.sides; first = first }

map_same : {A B C : Type 0} (f : B → C) (g : A → B) (xs : List A) → map (λ x. f (g x)) xs ≡ map f (map g xs)
map_same f g [] = refl
map_same f g (x ∷ xs) = ap (λ ys. f (g x) ∷ ys) (map_same f g xs)

polygon_by_list : (regions : RegionTable) (table : EdgeTable) (cycles : List Cycle) (links : List ℕ) (start k : ℕ) (a : Place)
    → IsCase regions table k a → AreAllCycles table.next cycles → (list : List ℕ) → IsChain links start list → AllPairs (λ i j. i < j) list
    → ((i : ℕ) → Contains list i → i < length links) → AreCyclesOf regions table cycles k (map (cycle_at cycles) list)
    → (start < length links) × IsPolygonOf regions k (polygon_from (ring_traced table cycles) links start)
polygon_by_list regions table cycles links start k a case are [] chain order within of = absurd
    (omega (arith, none_missing regions table cycles [] k a case are of))
polygon_by_list regions table cycles links start k a case are (i ∷ is) chain order within of =
    let rest : chain_from links (length links) (slice_index links i) ≡ is = chain_is links (length links) (slice_index links i) is chain.2
    (list_short is (length links) (pairs_tail (λ m n. m < n) i is order) (λ j member. within j (contains_there i is j member))) in
    let holes : map (λ c. ring_along table c) (map (cycle_at cycles) is) ≡ map (λ j. ring_along table (cycle_at cycles j))
    (chain_from links (length links) (slice_index links i)) = sym (map_same (ring_along table) (cycle_at cycles) is)
    ∙ ap (map (λ j. ring_along table (cycle_at cycles j))) (sym rest) in
    let polygon = assembled regions table cycles (cycle_at cycles i) (map (cycle_at cycles) is) k a case are of in
    let from_i : IsPolygonOf regions k (polygon_from (ring_traced table cycles) links i) = subst
    (λ (hs : List Ring). IsPolygonOf regions k (record { shell = ring_along table (cycle_at cycles i); holes = hs })) holes polygon in
    (omega (arith, chain.0, chain.1), subst (λ (j : ℕ). IsPolygonOf regions k (polygon_from (ring_traced table cycles) links j)) (sym chain.0) from_i)

polygon_at : (regions : RegionTable) (table : EdgeTable) (cycles : List Cycle) (lists : CycleLists) → IsAssembled regions table cycles lists
    → (k : ℕ) → k < length regions.firsts → (slice_index lists.firsts.items k < length lists.links.items) × IsPolygonOf regions k
    (polygon_from (ring_traced table cycles) lists.links.items (slice_index lists.firsts.items k))
polygon_at regions table cycles lists is k known =
    let first = element_at regions.firsts k known in
    let from = is.listed.each k known in
    polygon_by_list regions table cycles lists.links.items (slice_index lists.firsts.items k) k first.0
    (case_of regions table cycles lists is k first.0 first.1) is.cycles_are from.list from.chain from.order
    (λ i member. ((from.all i).0 member).1) (listed_cycles regions table cycles lists.links.items
    (slice_index lists.firsts.items k) k is.listed.sized is.cycles_are from)

-- what a list's elements give
pub map_get : {A B : Type 0} (f : A → B) (xs : List A) (k : ℕ) (x : A) → slice_get xs k ≡ Some x → slice_get (map f xs) k ≡ Some (f x)
map_get f [] k x at = absurd (omega (arith, slice_get_within [] k x at))
map_get f (z ∷ zs) zero x at = let same : z ≡ x = same_Some z x at in ap (λ u. Some (f u)) same
map_get f (z ∷ zs) (suc k) x at = map_get f zs k x at

map_at : {A B : Type 0} (f : A → B) (xs : List A) (k : ℕ) (y : B) → slice_get (map f xs) k ≡ Some y → (x : A) × (slice_get xs k ≡ Some x) × (f x ≡ y)
map_at f xs k y at =
    let within = slice_get_within (map f xs) k y at in
    let found = element_at xs k (omega (arith, within, length-map xs f)) in
    (found.0, found.1, same_Some (f found.0) y (sym (map_get f xs k found.0 found.1) ∙ at))

pub index_is : (xs : List ℕ) (k x : ℕ) → slice_get xs k ≡ Some x → slice_index xs k ≡ x
index_is xs k x at = get_or_from_slice_get xs k x 0 at

-- rings that are the same up to the number of links make the same polygons

chain_below : (links : List ℕ) (n at i : ℕ) → Contains (chain_from links n at) i → i < length links
chain_below links zero at i member = absurd (none_in i member)
chain_below links (suc n) at i member = elim (cases_lt at (length links)) [
  | inl less ↦ elim (contains_cases at (chain_from links n (slice_index links at)) i
      (subst (λ (b : Bool). Contains (if b then at ∷ chain_from links n (slice_index links at) else []) i) (below_test at (length links) less) member)) [
        | inl here ↦ omega (arith, here, less)
        | inr later ↦ chain_below links n (slice_index links at) i later
      ]
  | inr past ↦ absurd (none_in i
      (subst (λ (b : Bool). Contains (if b then at ∷ chain_from links n (slice_index links at) else []) i) (not_below at (length links) past) member))
]

map_alike : {A B : Type 0} (f g : A → B) (xs : List A) → ((x : A) → Contains xs x → f x ≡ g x) → map f xs ≡ map g xs
map_alike f g [] same = refl
map_alike f g (x ∷ xs) same = ap (λ ys. f x ∷ ys) (map_alike f g xs (λ y member. same y (contains_there x xs y member)))
    ∙ ap (λ y. y ∷ map g xs) (same x (contains_here x xs))

polygon_same : (ring other : ℕ → Ring) (links : List ℕ) (first : ℕ) → ((i : ℕ) → i < length links → ring i ≡ other i) → first < length links
    → polygon_from ring links first ≡ polygon_from other links first
polygon_same ring other links first same within =
    let next = slice_index links first in
    let holes : rings_from ring links next ≡ rings_from other links next = map_alike ring other (chain_from links (length links) next)
    (λ i member. same i (chain_below links (length links) next i member)) in
    let make : Ring → List Ring → Polygon = λ s hs. record { shell = s; holes = hs } in
    ap (λ (hs : List Ring). make (ring first) hs) holes ∙ ap (λ (s : Ring). make s (rings_from other links next)) (same first within)

-- the polygons of all components, from rings that are those of the cycles
pub assembled_polygons : (regions : RegionTable) (table : EdgeTable) (cycles : List Cycle) (lists : CycleLists) (ring : ℕ → Ring)
    → IsAssembled regions table cycles lists → ((i : ℕ) → i < length cycles → ring i ≡ ring_traced table cycles i)
    → ArePolygonsOf regions (polygons_of ring lists)
assembled_polygons regions table cycles lists ring is same = record {
  count = length-map lists.firsts.items (polygon_from ring lists.links.items) ∙ is.listed.count;
  each = λ k polygon at.
      let found = map_at (polygon_from ring lists.links.items) lists.firsts.items k polygon at in
      let first = index_is lists.firsts.items k found.0 found.1 in
      let of_k = polygon_at regions table cycles lists is k (omega (arith, slice_get_within lists.firsts.items k found.0 found.1, is.listed.count)) in
      let traced = subst (λ (i : ℕ). IsPolygonOf regions k (polygon_from (ring_traced table cycles) lists.links.items i)) first of_k.1 in
      let within : found.0 < length lists.links.items = omega (arith, of_k.0, first) in
      subst (λ (p : Polygon). IsPolygonOf regions k p) (sym (polygon_same ring (ring_traced table cycles) lists.links.items found.0
      (λ i less. same i (omega (arith, less, is.listed.sized))) within) ∙ found.2) traced;
}

-- the links can be followed

pub links_table : (regions : RegionTable) (table : EdgeTable) → IsEdgeTable regions table → IsLinkedTable table
links_table regions table is = record { links = table_links regions table is.links; sized = is.links.next }

pub cycles_begin : (table : EdgeTable) (cycles : List Cycle) → IsLinkedTable table → AreAllCycles table.next cycles → CyclesBegin table cycles
cycles_begin table cycles linked are cycle member =
    let round = are.are.round cycle member in
    omega (arith, round.below cycle.first (first_number table cycle round), linked.sized)

-- there are no more cycles than edges
pub cycles_few : (table : EdgeTable) (cycles : List Cycle) → IsLinkedTable table → AreAllCycles table.next cycles → length cycles ≤ length table.edges
cycles_few table cycles linked are =
    let firsts = map (λ (c : Cycle). c.first) cycles in
    let short = list_short firsts (length table.edges) (rising cycles are.are.order) (λ i member.
    let found = of_map (λ (c : Cycle). c.first) cycles i member in
    omega (arith, found.2, cycles_begin table cycles linked are found.0 found.1)) in
    omega (arith, short, length-map cycles (λ (c : Cycle). c.first))
  where
    rising : (cs : List Cycle) → AllPairs (λ c d. c.first < d.first) cs → AllPairs (λ i j. i < j) (map (λ (c : Cycle). c.first) cs)
    rising [] order = pairs_nil (λ i j. i < j)
    rising (c ∷ cs) order = pairs_cons (λ i j. i < j) c.first (map (λ (d : Cycle). d.first) cs)
        (λ i member.
        let found = of_map (λ (d : Cycle). d.first) cs i member in
        omega (arith, found.2, pairs_head (λ d e. d.first < e.first) c cs order found.0 found.1))
        (rising cs (pairs_tail (λ d e. d.first < e.first) c cs order))

pub assembled_faces : (regions : RegionTable) (table : EdgeTable) (cycles : List Cycle) (lists : CycleLists) (rings : RingCorners)
    → IsAssembled regions table cycles lists → AreRings rings.lattice.width table cycles rings.corners.items rings.starts.items → AreFaces rings lists
assembled_faces regions table cycles lists rings is are = record {
  linked = record {
    in_rings = are.in_rings;
    sized = omega (arith, are.sized, is.listed.sized);
    rising = is.listed.rising;
  };
  shells = λ k first at.
      let within = (polygon_at regions table cycles lists is k (omega (arith, slice_get_within lists.firsts.items k first at, is.listed.count))).0 in
      omega (arith, within, index_is lists.firsts.items k first at);
}
