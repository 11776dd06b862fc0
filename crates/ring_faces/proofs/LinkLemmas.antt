-- The links of a table of edges lead round the cycles of its components.
use Rattle.std.proofs.Common.{◌≡◌, ◌≢◌, ℕ, zero, suc, inl, inr, Bool, true, List, [], ◌∷◌, Some, refl, sym, ap, ◌∙◌, subst}
use Rattle.std.specs.Prelude.{Contains, slice_get, AllPairs}
use Rattle.std.proofs.lemmas.Bool.{false≢true}
use Rattle.cell_base.specs.Raster.{Place}
use Rattle.cell_base.proofs.ListDeciders.{contains_here, contains_there, contains_cases}
use Rattle.region_label.specs.Labelling.{RegionTable, IsInRegion}
use Rattle.region_label.proofs.RegionDeciders.{is_in_region}
use Rattle.edge_trace.specs.Edge.{Corner, Edge, turned, HasOnRight, IsBoundaryEdge}
use Rattle.edge_trace.specs.EdgeTable.{EdgeTable, HasLinks, HoldsBoundaries, IsEdgeOf}
use Rattle.edge_trace.proofs.BoundaryLemmas.{Tests}
use Rattle.ring_faces.proofs.SpotLemmas.{Quarter, nw, ne, se, sw, turn, spot_at, quarter, right_spot, IsBorder, on_left_tells, on_left_told, right_at_end, turned_left, turned_unit}
use Rattle.ring_faces.proofs.PartLemmas.{IsOnce, border_tells, border_told}
use Rattle.ring_faces.proofs.CycleLemmas.{Follows, Runs, at_quarter, begin_two, IsCycle}
use Rattle.ring_faces.proofs.MemberLemmas.{none_in, pairs_cons, pairs_head, pairs_nil, pairs_tail}
use Rattle.ring_faces.proofs.RegionLemmas.{region_tests}

-- of two boundary edges that begin where the first edge ends, the second is the one with the same cell on its right
abbrev pub IsPaired : (Place → Type 0) → Edge × Edge → Type 0
IsPaired set (e, f) = (g : Edge) → IsBoundaryEdge set g → g.0 ≡ f.0 → g ≢ f → (cell : Place) → HasOnRight e cell → HasOnRight f cell

cells_round : (r c : ℕ) (k : Quarter) → (cell : Place) × (spot_at (suc r, suc c) k ≡ Some cell)
cells_round r c nw = ((r, c), refl)
cells_round r c ne = ((r, suc c), refl)
cells_round r c se = ((suc r, suc c), refl)
cells_round r c sw = ((suc r, c), refl)

-- where two opposite quarters are in the set, each quarter is a cell
all_cells : (test : Place → Bool) (r c : ℕ) (k j : Quarter) → at_quarter test (r, c) k ≡ true → at_quarter test (r, c) (turn (turn k)) ≡ true
    → (cell : Place) × (spot_at (r, c) j ≡ Some cell)
all_cells test zero c nw j one two = absurd (false≢true one)
all_cells test zero c ne j one two = absurd (false≢true one)
all_cells test zero c se j one two = absurd (false≢true two)
all_cells test zero c sw j one two = absurd (false≢true two)
all_cells test (suc r) zero nw j one two = absurd (false≢true one)
all_cells test (suc r) zero ne j one two = absurd (false≢true two)
all_cells test (suc r) zero se j one two = absurd (false≢true two)
all_cells test (suc r) zero sw j one two = absurd (false≢true one)
all_cells test (suc r) (suc c) k j one two = cells_round r c j

-- where two boundary edges begin at the end of an edge, it has a cell on its right
right_cell : (test : Place → Bool) (e f g : Edge) → IsBorder test e → IsBorder test f → IsBorder test g → f.0 ≡ e.1 → g.0 ≡ f.0 → g ≢ f
    → (cell : Place) × (right_spot e ≡ Some cell)
right_cell test e f g border_e border_f border_g begins start other =
    let p = f.0 in
    let at = begin_two test p f g border_f border_g refl start (λ same. other (sym same)) in
    let k = turn (turn (quarter e)) in
    let right : right_spot e ≡ spot_at p k = right_at_end e border_e.unit ∙ ap (λ (q : Corner). spot_at q k) (sym begins) in
    let found = all_cells test p.0 p.1 (quarter f) k at.one.in_left (ap (at_quarter test p) (sym at.apart) ∙ at.two.in_left) in
    (found.0, right ∙ found.1)

pub follows_by : (set : Place → Type 0) (test : Place → Bool) → Tests set test → (e f : Edge) → IsBorder test e → IsBorder test f → f.0 ≡ e.1
    → IsPaired set (e, f) → Follows test e f
follows_by set test tests e f border_e border_f begins paired = record {
  begins = begins;
  paired = λ g border_g start other.
      let found = right_cell test e f g border_e border_f border_g begins start other in
      let on_right : HasOnRight e found.0 = on_left_told (turned e) found.0 (turned_unit e border_e.unit) (turned_left e border_e.unit ∙ found.1) in
      let moved : HasOnRight f found.0 = paired g (border_tells set test tests g border_g) start other found.0 on_right in
      sym (turned_left f border_f.unit) ∙ (on_left_tells (turned f) found.0 moved).1 ∙ sym found.1;
}

-- the links of a table of edges keep the pairing rule
pub links_paired : (regions : RegionTable) (table : EdgeTable) → HoldsBoundaries regions table → HasLinks regions table → (k i j : ℕ) (e f : Edge)
    → slice_get table.next i ≡ Some j → slice_get table.edges i ≡ Some e → slice_get table.edges j ≡ Some f → IsEdgeOf regions table k i
    → IsPaired (IsInRegion regions k) (e, f)
links_paired regions table holds links k i j e f at_next at_e at_f of_k g boundary start other cell on_right =
    let found = holds.every k g boundary in
    let next = links.begins i j e at_next at_e in
    let same : next.0 ≡ f = let both : Some next.0 ≡ Some f = sym next.1 ∙ at_f in cc in
    let begins : g.0 ≡ e.1 = start ∙ ap (λ (h : Edge). h.0) (sym same) ∙ next.2 in
    let apart : found.0 ≢ j = λ is. other (let both : Some g ≡ Some f = sym found.1 ∙ ap (slice_get table.edges) is ∙ at_f in cc) in
    links.turns k i j found.0 e f g cell at_next at_e at_f found.1 apart begins of_k found.2 on_right

-- links through numbers of edges, from one to another
abbrev pub LinksTo : EdgeTable → ℕ → List ℕ → ℕ → Type 0
LinksTo table i [] end = slice_get table.next i ≡ Some end
LinksTo table i (j ∷ js) end = (slice_get table.next i ≡ Some j) × LinksTo table j js end

-- the edges of these numbers
abbrev pub AreEdges : EdgeTable → List ℕ → List Edge → Type 0
AreEdges table [] [] = Unit
AreEdges table [] (e ∷ es) = ⊥
AreEdges table (i ∷ is) [] = ⊥
AreEdges table (i ∷ is) (e ∷ es) = (slice_get table.edges i ≡ Some e) × AreEdges table is es

link_border : (regions : RegionTable) (table : EdgeTable) → HoldsBoundaries regions table → (k i : ℕ) (e : Edge) → slice_get table.edges i ≡ Some e
    → IsEdgeOf regions table k i → IsBorder (is_in_region regions k) e
link_border regions table holds k i e at of_k = border_told (IsInRegion regions k) (is_in_region regions k) (region_tests regions k) e
    (holds.boundary k i e at of_k)

link_follows : (regions : RegionTable) (table : EdgeTable) → HoldsBoundaries regions table → HasLinks regions table → (k i j : ℕ) (e f : Edge)
    → slice_get table.next i ≡ Some j → slice_get table.edges i ≡ Some e → slice_get table.edges j ≡ Some f → IsEdgeOf regions table k i
    → Follows (is_in_region regions k) e f
link_follows regions table holds links k i j e f next at_e at_f of_k =
    let begins = links.begins i j e next at_e in
    let same : begins.0 ≡ f = let both : Some begins.0 ≡ Some f = sym begins.1 ∙ at_f in cc in
    follows_by (IsInRegion regions k) (is_in_region regions k) (region_tests regions k) e f (link_border regions table holds k i e at_e of_k)
    (link_border regions table holds k j f at_f (links.stays k i j next of_k)) (ap (λ (g : Edge). g.0) (sym same)
    ∙ begins.2) (links_paired regions table holds links k i j e f next at_e at_f of_k)

links_run : (regions : RegionTable) (table : EdgeTable) → HoldsBoundaries regions table → HasLinks regions table
    → (k i : ℕ) (is : List ℕ) (end : ℕ) (e : Edge) (es : List Edge) (f : Edge) → LinksTo table i is end → slice_get table.edges i ≡ Some e
    → AreEdges table is es → slice_get table.edges end ≡ Some f → IsEdgeOf regions table k i → Runs (is_in_region regions k) e es f
links_run regions table holds links k i [] end e [] f to at_e are at_f of_k = link_follows regions table holds links k i end e f to at_e at_f of_k
links_run regions table holds links k i [] end e (g ∷ gs) f to at_e are at_f of_k = absurd are
links_run regions table holds links k i (j ∷ js) end e [] f to at_e are at_f of_k = absurd are
links_run regions table holds links k i (j ∷ js) end e
    (g ∷ gs) f to at_e are at_f of_k = (
      link_follows regions table holds links k i j e g to.0 at_e are.0 of_k,
      links_run regions table holds links k j js end g gs f to.1 are.0 are.1 at_f (links.stays k i j to.0 of_k),
    )

-- each edge of the list has one of the numbers
edge_number : (table : EdgeTable) (is : List ℕ) (es : List Edge) → AreEdges table is es → (e : Edge) → Contains es e
    → (i : ℕ) × Contains is i × (slice_get table.edges i ≡ Some e)
edge_number table [] [] are e member = absurd (none_in e member)
edge_number table [] (f ∷ fs) are e member = absurd are
edge_number table (i ∷ is) [] are e member = absurd are
edge_number table (i ∷ is) (f ∷ fs) are e member = elim (contains_cases f fs e member) [
  | inl here ↦ (i, contains_here i is, are.0 ∙ ap (λ (g : Edge). Some g) here)
  | inr later ↦
      let found = edge_number table is fs are.1 e later in
      (found.0, contains_there i is found.0 found.1, found.2)
]

linked_of : (regions : RegionTable) (table : EdgeTable) → HasLinks regions table → (k i : ℕ) (is : List ℕ) (end : ℕ) → LinksTo table i is end
    → IsEdgeOf regions table k i → (j : ℕ) → Contains (i ∷ is) j → IsEdgeOf regions table k j
linked_of regions table links k i [] end to of_k j member = elim
    (contains_cases i [] j member) [ inl here ↦ subst (λ (n : ℕ). IsEdgeOf regions table k n) here of_k | inr there ↦ absurd (none_in j there) ]
linked_of regions table links k i (n ∷ ns) end to of_k j member = elim (contains_cases i (n ∷ ns) j member) [
  | inl here ↦ subst (λ (m : ℕ). IsEdgeOf regions table k m) here of_k
  | inr there ↦ linked_of regions table links k n ns end to.1 (links.stays k i n to.0 of_k) j there
]

edges_once : (regions : RegionTable) (table : EdgeTable) → HoldsBoundaries regions table → (k : ℕ) (is : List ℕ) (es : List Edge)
    → AreEdges table is es → ((j : ℕ) → Contains is j → IsEdgeOf regions table k j) → AllPairs (λ i j. i ≢ j) is → IsOnce es
edges_once regions table holds k [] [] are of_k once = pairs_nil (λ a b. a ≢ b)
edges_once regions table holds k [] (f ∷ fs) are of_k once = absurd are
edges_once regions table holds k (i ∷ is) [] are of_k once = absurd are
edges_once regions table holds k (i ∷ is) (f ∷ fs) are of_k once = pairs_cons (λ a b. a ≢ b) f fs
    (λ g member same.
    let found = edge_number table is fs are.1 g member in
    pairs_head (λ a b. a ≢ b) i is once found.0 found.1
    (holds.once k i found.0 g (are.0 ∙ ap (λ (h : Edge). Some h) same) found.2 (of_k i (contains_here i is))
    (of_k found.0 (contains_there i is found.0 found.1))))
    (edges_once regions table holds k is fs are.1 (λ j member. of_k j (contains_there i is j member)) (pairs_tail (λ a b. a ≢ b) i is once))

-- a cycle of links is a cycle of edges
pub links_cycle : (regions : RegionTable) (table : EdgeTable) → HoldsBoundaries regions table → HasLinks regions table
    → (k i : ℕ) (is : List ℕ) (e : Edge) (es : List Edge) → IsEdgeOf regions table k i → LinksTo table i is i → AllPairs (λ m n. m ≢ n) (i ∷ is)
    → AreEdges table (i ∷ is) (e ∷ es) → IsCycle (is_in_region regions k) e es
links_cycle regions table holds links k i is e es of_k to once are =
    let of_all = linked_of regions table links k i is i to of_k in
    record {
      borders = λ f member.
          let found = edge_number table (i ∷ is) (e ∷ es) are f member in
          link_border regions table holds k found.0 f found.2 (of_all found.0 found.1);
      once = edges_once regions table holds k (i ∷ is) (e ∷ es) are of_all once;
      runs = links_run regions table holds links k i is i e es e to are.0 are.1 are.0 of_k;
    }
