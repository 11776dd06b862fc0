-- The turns of all cycles of a set, each from its least corner, are its only canonical polygon.
use Rattle.std.proofs.Common.{◌≡◌, Bool, List, [], ◌∷◌, ◌++◌, Some, refl, sym, ap, ◌∙◌, subst}
use Rattle.std.specs.Prelude.{AllPairs, Contains, map, slice_get}
use Rattle.std.specs.List.{flat_map}
use Rattle.cell_base.specs.Raster.{Place}
use Rattle.cell_base.specs.Order.{IsBefore}
use Rattle.cell_base.specs.Walk.{IsConnected}
use Rattle.cell_base.specs.Steps.{four}
use Rattle.cell_base.proofs.ListDeciders.{contains_here, contains_there}
use Rattle.region_label.specs.Count.{IsListOf}
use Rattle.edge_trace.specs.Edge.{Corner, Edge}
use Rattle.edge_trace.proofs.BoundaryLemmas.{Tests}
use Rattle.ring_faces.specs.Ring.{Ring, edges_of}
use Rattle.ring_faces.specs.LatticePolygon.{Polygon}
use Rattle.ring_faces.specs.EdgePolygon.{all_edges, IsEdgePolygon}
use Rattle.ring_faces.specs.CanonicalPolygon.{IsCanonicalPolygon, IsOnly, ListsTurns, StartsLeast, StartsBefore}
use Rattle.ring_faces.specs.Inner.Turns.{turns_of}
use Rattle.ring_faces.proofs.SpotLemmas.{IsBorder}
use Rattle.ring_faces.proofs.PartLemmas.{IsOnePart, border_told, border_tells, connected_is_part}
use Rattle.ring_faces.proofs.CycleLemmas.{IsCycle}
use Rattle.ring_faces.proofs.InsideLemmas.{IsCycleList, IsFirstCell, left_edge}
use Rattle.ring_faces.proofs.MemberLemmas.{head_is, of_map, pairs_cons, pairs_head, pairs_nil, pairs_tail}
use Rattle.ring_faces.proofs.PolygonLemmas.{IsTraced}
use Rattle.ring_faces.proofs.StartLemmas.{AllFrom, RingOf, ring_of_cycle}
use Rattle.ring_faces.proofs.UniqueLemmas.{canonical_only, canonical_traced, traced_canonical}

-- a cycle that starts at its least corner
abbrev pub IsLeastCycle : (Place → Bool) → List Edge → Type 0
IsLeastCycle test [] = ⊥
IsLeastCycle test (e ∷ es) = IsCycle test e es × AllFrom e.0 (e ∷ es)

-- the first edge of the one begins before that of the other
abbrev pub BeginsBefore : List Edge → List Edge → Type 0
BeginsBefore es fs = (e f : Edge) → slice_get es 0 ≡ Some e → slice_get fs 0 ≡ Some f → IsBefore e.0 f.0

-- the polygon of the turns of these lists of edges
abbrev pub polygon_by : List Edge → List (List Edge) → Polygon
polygon_by shell holes = record { shell = turns_of shell; holes = map turns_of holes }

record IsTurned (test : Place → Bool) (es : List Edge) : Type 0 where
  cycle : IsCycleList test es
  edges : edges_of (turns_of es) ≡ es
  turns : ListsTurns (turns_of es)
  least : StartsLeast (turns_of es)
  first : (p : Corner) → slice_get (turns_of es) 0 ≡ Some p → (e : Edge) × (slice_get es 0 ≡ Some e) × (e.0 ≡ p)

turned_of : (test : Place → Bool) → IsOnePart test → (es : List Edge) → IsLeastCycle test es → IsTurned test es
turned_of test one [] is = absurd is
turned_of test one (x ∷ xs) is =
    let of : RingOf x xs (turns_of (x ∷ xs)) = ring_of_cycle test one x xs is.0 is.1 in
    record { cycle = is.0; edges = of.edges; turns = of.turns; least = of.least; first = λ p at. (x, refl, head_is (turns_of (x ∷ xs)) _ x.0 p of.first at) }

flat_turns : (ess : List (List Edge)) → ((es : List Edge) → Contains ess es → edges_of (turns_of es) ≡ es)
    → flat_map edges_of (map turns_of ess) ≡ flat_map (λ es. es) ess
flat_turns [] same = refl
flat_turns (es ∷ ess) same = ap (λ (fs : List Edge). fs ++ flat_map edges_of (map turns_of ess)) (same es (contains_here es ess))
    ∙ ap (λ (fs : List Edge). es ++ fs) (flat_turns ess (λ fs member. same fs (contains_there es ess fs member)))

turned_before : (test : Place → Bool) (es fs : List Edge) → IsTurned test es → IsTurned test fs → BeginsBefore es fs → StartsBefore (turns_of es) (turns_of fs)
turned_before test es fs of_e of_f before a b at_a at_b =
    let e = of_e.first a at_a in
    let f = of_f.first b at_b in
    subst (λ (p : Corner). IsBefore p b) e.2 (subst (λ (p : Corner). IsBefore e.0.0 p) f.2 (before e.0 f.0 e.1 f.1))

turned_order : (test : Place → Bool) (ess : List (List Edge)) → ((es : List Edge) → Contains ess es → IsTurned test es) → AllPairs BeginsBefore ess
    → AllPairs StartsBefore (map turns_of ess)
turned_order test [] of order = pairs_nil StartsBefore
turned_order test (es ∷ ess) of order = pairs_cons StartsBefore (turns_of es) (map turns_of ess)
    (λ h member.
    let found = of_map turns_of ess h member in
    subst (λ (g : Ring). StartsBefore (turns_of es) g) found.2
    (turned_before test es found.0 (of es (contains_here es ess)) (of found.0 (contains_there es ess found.0 found.1))
    (pairs_head BeginsBefore es ess order found.0 found.1)))
    (turned_order test ess (λ fs member. of fs (contains_there es ess fs member)) (pairs_tail BeginsBefore es ess order))

-- the turns of all cycles, each from its least corner, the first cell's edge on the first, the others in order: the canonical polygon
pub cycles_only : (set : Place → Type 0) (test : Place → Bool) (cell : Place) → Tests set test → IsConnected four set → IsFirstCell test cell
    → (shell : List Edge) (holes : List (List Edge)) → ((es : List Edge) → Contains (shell ∷ holes) es → IsLeastCycle test es)
    → IsListOf (IsBorder test) (flat_map (λ es. es) (shell ∷ holes)) → Contains shell (left_edge cell) → AllPairs BeginsBefore holes
    → IsOnly (IsCanonicalPolygon set) (polygon_by shell holes)
cycles_only set test cell tests connected first shell holes cycles list on_shell order =
    let one = connected_is_part set test tests connected in
    let of : (es : List Edge) → Contains (shell ∷ holes) es → IsTurned test es = λ es member. turned_of test one es (cycles es member) in
    let polygon = polygon_by shell holes in
    let flat : all_edges polygon ≡ flat_map (λ es. es) (shell ∷ holes) = flat_turns (shell ∷ holes) (λ es member. (of es member).edges) in
    let traced : IsTraced set test cell polygon = record {
      tests = tests;
      connected = connected;
      first = first;
      has = record {
        cycles = λ ring member.
            let found = of_map turns_of (shell ∷ holes) ring member in
            let it = of found.0 found.1 in
            subst (λ (r : Ring). IsCycleList test (edges_of r)) found.2 (subst (λ (es : List Edge). IsCycleList test es) (sym it.edges) it.cycle);
        edges = subst (λ (es : List Edge). IsListOf (IsBorder test) es) (sym flat) list;
        shell = subst (λ (es : List Edge). Contains es (left_edge cell)) (sym (of shell (contains_here shell holes)).edges) on_shell;
      };
    } in
    canonical_only set test cell tests connected first polygon (traced_canonical set test cell polygon traced (λ ring member.
    let found = of_map turns_of (shell ∷ holes) ring member in
    let it = of found.0 found.1 in
    (subst (λ (r : Ring). ListsTurns r) found.2 it.turns, subst (λ (r : Ring). StartsLeast r) found.2 it.least))
    (turned_order test holes (λ es member. of es (contains_there shell holes es member)) order))

-- a canonical polygon is one in the loose form too
pub canonical_edges : (set : Place → Type 0) (test : Place → Bool) (cell : Place) → Tests set test → IsConnected four set → IsFirstCell test cell
    → (polygon : Polygon) → IsCanonicalPolygon set polygon → IsEdgePolygon set polygon
canonical_edges set test cell tests connected first polygon canonical =
    let traced = canonical_traced set test cell polygon tests connected first canonical in
    record {
      closed = λ k d within. (canonical.valid.simple k d within).closed;
      edges = record {
        all = λ e. (
          λ held. border_tells set test tests e ((traced.has.edges.all e).0 held),
          λ boundary. (traced.has.edges.all e).1
              (border_told set test tests e boundary),
        );
        once = traced.has.edges.once;
      };
    }
