-- A connected set with finitely many cells has a canonical polygon.
use Rattle.std.proofs.Common.{◌≡◌, ◌≢◌, ◌↔◌, ◌⊎◌, inl, inr, Bool, List, [], ◌∷◌, Some, sym, ap, ◌∙◌, subst, arith}
use Rattle.std.specs.Prelude.{AllPairs, Contains, slice_get}
use Rattle.std.specs.List.{flat_map}
use Rattle.std.proofs.lemmas.Bool.{false≢true, cases_Bool, cases_lt}
use Rattle.std.proofs.lemmas.Option.{slice_get_within}
use Rattle.cell_base.specs.Raster.{Place, Raster}
use Rattle.cell_base.specs.Order.{IsBefore}
use Rattle.cell_base.specs.Walk.{IsConnected}
use Rattle.cell_base.specs.Steps.{four}
use Rattle.cell_base.proofs.OrderLemmas.{before_trans}
use Rattle.cell_base.proofs.ListDeciders.{contains_cases, contains_here, contains_there}
use Rattle.cell_base.proofs.PlaceLemmas.{element_at}
use Rattle.region_label.specs.Component.{InComponent}
use Rattle.region_label.specs.Labelling.{RegionTable, IsInRegion, IsLabelling}
use Rattle.region_label.proofs.ListLemmas.{at_from_contains}
use Rattle.region_label.proofs.RegionDeciders.{is_in_region}
use Rattle.edge_trace.specs.Edge.{Corner, Edge, edges_round, IsUnitEdge}
use Rattle.edge_trace.proofs.BoundaryLemmas.{Tests}
use Rattle.ring_faces.specs.Ring.{Ring, edges_of}
use Rattle.ring_faces.specs.LatticePolygon.{Polygon}
use Rattle.ring_faces.specs.CanonicalPolygon.{HasOneCanonicalPolygon, IsCanonicalPolygon, IsOnly, ListsTurns, StartsLeast, StartsBefore}
use Rattle.ring_faces.specs.Inner.Turns.{turns_of}
use Rattle.ring_faces.proofs.CanonicalLemmas.{only_same}
use Rattle.ring_faces.proofs.SpotLemmas.{left_spot, right_spot, in_set, IsBorder, on_left_tells, on_left_told, pair_is}
use Rattle.ring_faces.proofs.PartLemmas.{IsOnePart, cell_in, connected_is_part, held_or_not}
use Rattle.ring_faces.proofs.InsideLemmas.{left_edge, IsFirstCell, IsCycleList, first_border}
use Rattle.ring_faces.proofs.SimpleLemmas.{once_by_starts}
use Rattle.ring_faces.proofs.MemberLemmas.{head_is, AreApart, in_flat, none_in, of_flat, once_flat, pairs_cons, pairs_head, pairs_nil, pairs_tail}
use Rattle.ring_faces.proofs.PolygonLemmas.{IsTraced, list_round, list_simple}
use Rattle.ring_faces.proofs.StartLemmas.{AllFrom, least_meet, RingOf, ring_of_cycle}
use Rattle.ring_faces.proofs.NextLemmas.{HoldsBorders, least_cycle}
use Rattle.ring_faces.proofs.UniqueLemmas.{canonical_only, list_edges, traced_canonical}
use Rattle.ring_faces.proofs.RegionLemmas.{labelling_by_sides, region_first, region_tests}

-- a ring over a cycle, from its least corner
record GoodRing (test : Place → Bool) (ring : Ring) : Type 0 where
  cycle : IsCycleList test (edges_of ring)
  turns : ListsTurns ring
  least : StartsLeast ring
  from : (p : Corner) → slice_get ring 0 ≡ Some p → AllFrom p (edges_of ring)
  start : (p : Corner) → slice_get ring 0 ≡ Some p → (e : Edge) × (es : List Edge) × (edges_of ring ≡ e ∷ es) × (e.0 ≡ p)
  some : (p : Corner) × (slice_get ring 0 ≡ Some p)

-- the ring through a boundary edge
record RingAt (test : Place → Bool) (e : Edge) : Type 0 where
  ring : Ring
  good : GoodRing test ring
  has : Contains (edges_of ring) e

ring_at : (test : Place → Bool) → IsOnePart test → (all : List Edge) → HoldsBorders test all → (e : Edge) → IsBorder test e → RingAt test e
ring_at test one all holds e border =
    let found = least_cycle test one all holds e border in
    let x = found.first in
    let xs = found.others in
    let ring = turns_of (x ∷ xs) in
    let of : RingOf x xs ring = ring_of_cycle test one x xs found.cycle found.from in
    record {
      ring = ring;
      good = record {
        cycle = subst (λ (es : List Edge). IsCycleList test es) (sym of.edges) found.cycle;
        turns = of.turns;
        least = of.least;
        from = λ p at.
            let starts : x.0 ≡ p = head_is ring _ x.0 p of.first at in
            subst (λ (es : List Edge). AllFrom p es) (sym of.edges) (subst (λ (q : Corner). AllFrom q (x ∷ xs)) starts found.from);
        start = λ p at. (x, xs, of.edges, head_is ring _ x.0 p of.first at);
        some = (x.0, ap (λ (r : Ring). slice_get r 0) of.first);
      };
      has = subst (λ (es : List Edge). Contains es e) (sym of.edges) found.has;
    }

-- rings apart start at two corners

meet_by : (test : Place → Bool) (es fs : List Edge) (x : Edge) (xs : List Edge) (y : Edge) (ys : List Edge) → es ≡ x ∷ xs → fs ≡ y ∷ ys
    → IsCycleList test es → IsCycleList test fs → AllFrom x.0 es → AllFrom y.0 fs → x.0 ≡ y.0 → (e : Edge) × Contains es e × Contains fs e
meet_by test es fs x xs y ys is_e is_f cycle_e cycle_f from_e from_f same =
    let found = least_meet test x xs y ys (subst (λ (gs : List Edge). IsCycleList test gs) is_e cycle_e)
    (subst (λ (gs : List Edge). IsCycleList test gs) is_f cycle_f) (subst (λ (gs : List Edge). AllFrom x.0 gs) is_e from_e)
    (subst (λ (gs : List Edge). AllFrom y.0 gs) is_f from_f) same in
    (found.0, subst (λ (gs : List Edge). Contains gs found.0) (sym is_e) found.1, subst (λ (gs : List Edge). Contains gs found.0) (sym is_f) found.2)

starts_differ : (test : Place → Bool) (g h : Ring) → GoodRing test g → GoodRing test h → AreApart (edges_of g) (edges_of h) → (p q : Corner)
    → slice_get g 0 ≡ Some p → slice_get h 0 ≡ Some q → p ≢ q
starts_differ test g h good_g good_h apart p q at_g at_h same =
    let x = good_g.start p at_g in
    let y = good_h.start q at_h in
    let found = meet_by test (edges_of g) (edges_of h) x.0 x.1 y.0 y.1 x.2 y.2 good_g.cycle good_h.cycle
    (subst (λ (r : Corner). AllFrom r (edges_of g)) (sym x.3) (good_g.from p at_g))
    (subst (λ (r : Corner). AllFrom r (edges_of h)) (sym y.3) (good_h.from q at_h)) (x.3 ∙ same ∙ sym y.3) in
    apart found.0 found.1 found.2

before_total : (p q : Corner) → p ≢ q → IsBefore p q ⊎ IsBefore q p
before_total p q other = elim (cases_lt p.0 q.0) [
  | inl less ↦ inl (inl less)
  | inr past ↦ elim (cases_lt q.0 p.0) [
    | inl less ↦ inr (inl less)
    | inr row ↦ elim (cases_lt p.1 q.1) [
      | inl less ↦ inl (inr (omega arith, less))
      | inr on ↦ elim (cases_lt q.1 p.1) [
        | inl less ↦ inr (inr (omega arith, less))
        | inr same ↦ absurd (other (pair_is p q.0 q.1 (omega arith) (omega arith)))
      ]
    ]
  ]
]

some_same : (p q : Corner) (r : Ring) → slice_get r 0 ≡ Some p → slice_get r 0 ≡ Some q → p ≡ q
some_same p q r one two =
    let both : Some p ≡ Some q = sym one ∙ two in
    cc

before_by : (g h : Ring) (p q : Corner) → slice_get g 0 ≡ Some p → slice_get h 0 ≡ Some q → IsBefore p q → StartsBefore g h
before_by g h p q at_g at_h before a b at_a at_b = subst (λ (r : Corner). IsBefore r b) (some_same p a g at_g at_a)
    (subst (λ (r : Corner). IsBefore p r) (some_same q b h at_h at_b) before)

ordered : (test : Place → Bool) (g h : Ring) → GoodRing test g → GoodRing test h → AreApart (edges_of g) (edges_of h) → StartsBefore g h ⊎ StartsBefore h g
ordered test g h good_g good_h apart =
    let p = good_g.some in
    let q = good_h.some in
    elim (before_total p.0 q.0 (starts_differ test g h good_g good_h apart p.0 q.0 p.1 q.1)) [
      | inl before ↦ inl (before_by g h p.0 q.0 p.1 q.1 before)
      | inr after ↦ inr (before_by h g q.0 p.0 q.1 p.1 after)
    ]

-- the holes found so far
record Holes (test : Place → Bool) (shell : Ring) (done : List Edge) : Type 0 where
  rings : List Ring
  good : (g : Ring) → Contains rings g → GoodRing test g
  apart : AllPairs (λ g h. AreApart (edges_of g) (edges_of h)) rings
  off : (g : Ring) → Contains rings g → AreApart (edges_of shell) (edges_of g)
  order : AllPairs StartsBefore rings
  held : (e : Edge) → Contains done e → IsBorder test e → Contains (flat_map edges_of (shell ∷ rings)) e

-- the same with one ring more
record OneMore (x : Ring) (xs : List Ring) : Type 0 where
  rings : List Ring
  members : (g : Ring) → Contains rings g → (x ≡ g) ⊎ Contains xs g
  old : (g : Ring) → Contains xs g → Contains rings g
  new : Contains rings x
  order : AllPairs StartsBefore rings
  apart : AllPairs (λ g h. AreApart (edges_of g) (edges_of h)) rings

apart_back : (g h : Ring) → AreApart (edges_of g) (edges_of h) → AreApart (edges_of h) (edges_of g)
apart_back g h apart e in_h in_g = apart e in_g in_h

insert_ring : (test : Place → Bool) (x : Ring) (xs : List Ring) → GoodRing test x → ((g : Ring) → Contains xs g → GoodRing test g)
    → ((g : Ring) → Contains xs g → AreApart (edges_of x) (edges_of g)) → AllPairs StartsBefore xs
    → AllPairs (λ g h. AreApart (edges_of g) (edges_of h)) xs → OneMore x xs
insert_ring test x [] good_x good off order apart = record {
  rings = x ∷ [];
  members = contains_cases x [];
  old = λ g member. absurd (none_in g member);
  new = contains_here x [];
  order = pairs_cons StartsBefore x [] (λ y member. absurd (none_in y member)) (pairs_nil StartsBefore);
  apart = pairs_cons (λ g h. AreApart (edges_of g) (edges_of h)) x [] (λ y member. absurd (none_in y member))
      (pairs_nil (λ g h. AreApart (edges_of g) (edges_of h)));
}
insert_ring test x (y ∷ ys) good_x good off order apart =
    let good_y = good y (contains_here y ys) in
    let off_y = off y (contains_here y ys) in
    let A : Ring → Ring → Type 0 = λ g h. AreApart (edges_of g) (edges_of h) in
    elim (ordered test x y good_x good_y off_y) [
      | inl before ↦ record {
        rings = x ∷ y ∷ ys;
        members = contains_cases x (y ∷ ys);
        old = contains_there x (y ∷ ys);
        new = contains_here x (y ∷ ys);
        order = pairs_cons StartsBefore x (y ∷ ys) (λ g member. elim (contains_cases y ys g member) [
          | inl here ↦ subst (λ (h : Ring). StartsBefore x h) here before
          | inr later ↦ trans x y g good_y before (pairs_head StartsBefore y ys order g later)
        ]) order;
        apart = pairs_cons A x (y ∷ ys) off apart;
      }
      | inr after ↦
          let rest = insert_ring test x ys good_x (λ g member. good g (contains_there y ys g member))
          (λ g member. off g (contains_there y ys g member)) (pairs_tail StartsBefore y ys order) (pairs_tail A y ys apart) in
          record {
            rings = y ∷ rest.rings;
            members = λ g member. elim (contains_cases y rest.rings g member) [
              | inl here ↦ inr (0, omega arith, here)
              | inr later ↦ elim (rest.members g later) [ inl is ↦ inl is | inr there ↦ inr (contains_there y ys g there) ]
            ];
            old = λ g member. elim (contains_cases y ys g member) [
              | inl here ↦ (0, omega arith, here)
              | inr later ↦ contains_there y rest.rings g
                  (rest.old g later)
            ];
            new = contains_there y rest.rings x rest.new;
            order = pairs_cons StartsBefore y rest.rings (λ g member. elim (rest.members g member) [
              | inl is ↦ subst (λ (h : Ring). StartsBefore y h) is after
              | inr there ↦ pairs_head StartsBefore y ys order g there
            ]) rest.order;
            apart = pairs_cons A y rest.rings (λ g member. elim (rest.members g member) [
              | inl is ↦ subst (λ (h : Ring). AreApart (edges_of y) (edges_of h)) is (apart_back x y off_y)
              | inr there ↦ pairs_head A y ys apart g there
            ]) rest.apart;
          }
    ]
  where
    trans : (g h k : Ring) → GoodRing test h → StartsBefore g h → StartsBefore h k → StartsBefore g k
    trans g h k good_h one two a b at_a at_b = before_trans a good_h.some.0 b (one a good_h.some.0 at_a good_h.some.1) (two good_h.some.0 b good_h.some.1 at_b)

border_or_not : (test : Place → Bool) (e : Edge) → IsUnitEdge e → IsBorder test e ⊎ (¬ IsBorder test e)
border_or_not test e unit = elim (cases_Bool (in_set test (left_spot e))) [
  | inr out ↦ inr (λ border. false≢true (sym out ∙ border.left))
  | inl within ↦ elim (cases_Bool (in_set test (right_spot e))) [
    | inl also ↦ inr (λ border. false≢true (sym border.right ∙ also))
    | inr out ↦ inl (record { unit = unit; left = within; right = out })
  ]
]

collect : (test : Place → Bool) → IsOnePart test → (all : List Edge) → HoldsBorders test all → (shell : Ring) → GoodRing test shell
    → (done : List Edge) → ((e : Edge) → Contains done e → IsUnitEdge e) → Holes test shell done
collect test one all holds shell good_shell [] units = record {
  rings = [];
  good = λ g member. absurd (none_in g member);
  apart = pairs_nil (λ g h. AreApart (edges_of g) (edges_of h));
  off = λ g member. absurd (none_in g member);
  order = pairs_nil StartsBefore;
  held = λ e member. absurd (none_in e member);
}
collect test one all holds shell good_shell (e ∷ es) units =
    let rest = collect test one all holds shell good_shell es (λ f member. units f (contains_there e es f member)) in
    let same : (IsBorder test e → Contains (flat_map edges_of (shell ∷ rest.rings)) e) → Holes test shell (e ∷ es) = λ held. record {
      rings = rest.rings;
      good = rest.good;
      apart = rest.apart;
      off = rest.off;
      order = rest.order;
      held = λ f member border. elim (contains_cases e es f member) [
        | inl here ↦ subst (λ (g : Edge). Contains (flat_map edges_of (shell ∷ rest.rings)) g) here
            (held (subst (λ (g : Edge). IsBorder test g) (sym here) border))
        | inr later ↦ rest.held f later border
      ];
    } in
    elim (border_or_not test e (units e (contains_here e es))) [
      | inr none ↦ same (λ border. absurd (none border))
      | inl border ↦ elim (held_or_not (flat_map edges_of (shell ∷ rest.rings)) e) [
        | inl has ↦ same (λ again. has)
        | inr new ↦
            let found = ring_at test one all holds e border in
            let off_ring : (g : Ring) → Contains (shell ∷ rest.rings) g → GoodRing test g
            → AreApart (edges_of found.ring) (edges_of g) = λ g member good f on_new on_old. new
            (in_flat edges_of (shell ∷ rest.rings) g e member
            (list_edges test one (edges_of found.ring) (edges_of g) found.good.cycle good.cycle f on_new on_old e found.has)) in
            let more = insert_ring test found.ring rest.rings found.good rest.good
            (λ g member. off_ring g (contains_there shell rest.rings g member) (rest.good g member)) rest.order rest.apart in
            record {
              rings = more.rings;
              good = λ g member. elim (more.members g member) [ inl is ↦ subst (λ (h : Ring). GoodRing test h) is found.good | inr old ↦ rest.good g old ];
              apart = more.apart;
              off = λ g member. elim (more.members g member) [
                | inl is ↦ subst (λ (h : Ring). AreApart (edges_of shell) (edges_of h)) is
                    (apart_back found.ring shell (off_ring shell (contains_here shell rest.rings) good_shell))
                | inr old ↦ rest.off g old
              ];
              order = more.order;
              held = λ f member border_f. elim (contains_cases e es f member) [
                | inl here ↦ in_flat edges_of (shell ∷ more.rings) found.ring f (contains_there shell more.rings found.ring more.new)
                    (subst (λ (g : Edge). Contains (edges_of found.ring) g) here found.has)
                | inr later ↦
                    let at = of_flat edges_of (shell ∷ rest.rings) f (rest.held f later border_f) in
                    elim (contains_cases shell rest.rings at.0 at.1) [
                      | inl is ↦ in_flat edges_of (shell ∷ more.rings) shell f (contains_here shell more.rings)
                          (subst (λ (h : Ring). Contains (edges_of h) f) (sym is) at.2)
                      | inr old ↦ in_flat edges_of (shell ∷ more.rings) at.0 f (contains_there shell more.rings at.0 (more.old at.0 old)) at.2
                    ]
              ];
            }
      ]
    ]

-- the polygon of all cycles
pub canonical_exists : (set : Place → Type 0) (test : Place → Bool) (cell : Place) → Tests set test → IsConnected four set → IsFirstCell test cell
    → (all : List Edge) → HoldsBorders test all → ((e : Edge) → Contains all e → IsUnitEdge e) → (polygon : Polygon) × IsCanonicalPolygon set polygon
canonical_exists set test cell tests connected first all holds units =
    let one = connected_is_part set test tests connected in
    let shell = ring_at test one all holds (left_edge cell) (first_border test cell first) in
    let found = collect test one all holds shell.ring shell.good all units in
    let polygon : Polygon = record { shell = shell.ring; holes = found.rings } in
    let good : (g : Ring) → Contains (shell.ring ∷ found.rings) g → GoodRing test g = λ g member. elim (contains_cases shell.ring found.rings g member) [
      | inl is ↦ subst (λ (h : Ring). GoodRing test h) is shell.good
      | inr hole ↦ found.good g hole
    ] in
    let traced : IsTraced set test cell polygon = record {
      tests = tests;
      connected = connected;
      first = first;
      has = record {
        cycles = λ g member. (good g member).cycle;
        edges = record {
          all = λ e. (
            λ held.
                let at = of_flat edges_of (shell.ring ∷ found.rings) e held in
                (list_round test (edges_of at.0) (good at.0 at.1).cycle).borders e at.2,
            λ border. found.held e (holds e border) border,
          );
          once = once_flat edges_of (shell.ring ∷ found.rings)
              (λ g member. once_by_starts (edges_of g) (list_simple test one (edges_of g) (good g member).cycle))
              (pairs_cons (λ g h. AreApart (edges_of g) (edges_of h)) shell.ring found.rings found.off found.apart);
        };
        shell = shell.has;
      };
    } in
    (polygon, traced_canonical set test cell polygon traced (λ g member. ((good g member).turns, (good g member).least)) found.order)

-- a list of cells gives a list that holds their boundary edges
cells_hold : (set : Place → Type 0) (test : Place → Bool) → Tests set test → (cells : List Place) → ((p : Place) → set p → Contains cells p)
    → HoldsBorders test (flat_map edges_round cells)
cells_hold set test tests cells has e border =
    let found = cell_in test (left_spot e) border.left in
    in_flat edges_round cells found.0 e (has found.0 ((tests found.0).0 found.2)) (on_left_told e found.0 border.unit found.1)

cells_units : (cells : List Place) (e : Edge) → Contains (flat_map edges_round cells) e → IsUnitEdge e
cells_units cells e member =
    let found = of_flat edges_round cells e member in
    (on_left_tells e found.0 found.2).0

pub finite_exists : (set : Place → Type 0) (test : Place → Bool) (cell : Place) → Tests set test → IsConnected four set → IsFirstCell test cell
    → (cells : List Place) → ((p : Place) → set p → Contains cells p) → (polygon : Polygon) × IsOnly (IsCanonicalPolygon set) polygon
finite_exists set test cell tests connected first cells has =
    let found = canonical_exists set test cell tests connected first (flat_map edges_round cells) (cells_hold set test tests cells has) (cells_units cells) in
    (found.0, canonical_only set test cell tests connected first found.0 found.1)

-- each component has exactly one
pub one_canonical : {T : Type 0} (cells : Raster T) (valid : Raster Bool) (regions : RegionTable) → IsLabelling four cells valid regions
    → HasOneCanonicalPolygon cells valid
one_canonical cells valid regions labelling a is =
    let at = at_from_contains regions.firsts a (labelling.every a is) in
    let k = at.0 in
    let by_sides = labelling_by_sides cells valid regions labelling in
    let size = element_at regions.sizes k (omega (arith, labelling.sized, slice_get_within regions.firsts k a at.1)) in
    let members = labelling.size k a size.0 at.1 size.1 in
    let same : (p : Place) → IsInRegion regions k p ↔ InComponent four cells valid a p = λ p. labelling.region k a p at.1 in
    let found = finite_exists (IsInRegion regions k) (is_in_region regions k) a (region_tests regions k) (by_sides.joined k)
    (region_first regions by_sides k a at.1) members.0 (λ p in_region. (members.1.all p).1 ((same p).0 in_region)) in
    (found.0, only_same (IsInRegion regions k) (InComponent four cells valid a) same found.0 found.1)
