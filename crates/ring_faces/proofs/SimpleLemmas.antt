-- Cycles come through no corner twice; a simple ring of boundary edges is a cycle; a cycle is known by one of its edges.
use Rattle.std.proofs.Common.{◌≡◌, ◌≢◌, suc, inl, inr, Bool, true, false, List, [], ◌∷◌, refl, sym, ap, ◌∙◌, subst, arith}
use Rattle.std.specs.Prelude.{AllPairs, Contains, map}
use Rattle.std.proofs.lemmas.Bool.{false≢true}
use Rattle.std.proofs.Math.Bool.{xor}
use Rattle.cell_base.specs.Raster.{Place}
use Rattle.cell_base.proofs.ListDeciders.{contains_cases, contains_here, contains_there}
use Rattle.edge_trace.specs.Edge.{Corner, Edge}
use Rattle.edge_trace.proofs.ParityLemmas.{xor_self}
use Rattle.ring_faces.proofs.RingLemmas.{Leads}
use Rattle.ring_faces.proofs.SpotLemmas.{Quarter, turn, spot_at, quarter, left_spot, right_spot, side, in_set, IsBorder, right_at_end}
use Rattle.ring_faces.proofs.PartLemmas.{IsOnePart, IsRound, IsOnce, crossing_held, crossing_other, held_once, not_twice, once_rest, side_constant}
use Rattle.ring_faces.proofs.CycleLemmas.{Follows, Runs, IsCycle, at_quarter, begin_two, comes_back, cycle_joined, cycle_leads, cycle_round, one_for_part, turned_by}
use Rattle.ring_faces.proofs.MemberLemmas.{in_map, none_in, of_map, pairs_cons, pairs_nil}

-- a run up to one of its edges
record RunTo (test : Place → Bool) (x : Edge) (xs : List Edge) (y : Edge) : Type 0 where
  front : List Edge
  runs : Runs test x front y
  inside : (e : Edge) → Contains front e → Contains xs e
  without : ¬ Contains front y

run_to : (test : Place → Bool) (x : Edge) (xs : List Edge) (end y : Edge) → Runs test x xs end → IsOnce (x ∷ xs) → Contains xs y → RunTo test x xs y
run_to test x [] end y runs once member = absurd (none_in y member)
run_to test x (u ∷ us) end y runs once member = elim (contains_cases u us y member) [
  | inl here ↦ record { front = []; runs = subst (λ (e : Edge). Follows test x e) here runs.0; inside = λ e none. absurd (none_in e none); without = none_in y }
  | inr there ↦
      let rest = once_rest x (u ∷ us) once in
      let found = run_to test u us end y runs.1 rest there in
      record {
        front = u ∷ found.front;
        runs = (runs.0, found.runs);
        inside = λ e member_e. elim (contains_cases u found.front e member_e) [
          | inl is ↦ subst (λ (f : Edge). Contains (u ∷ us) f) is
              (contains_here u us)
          | inr later ↦ contains_there u us e (found.inside e later)
        ];
        without = λ member_y. elim (contains_cases u found.front y member_y) [
          | inl is ↦ not_twice u us rest
              (subst (λ (f : Edge). Contains us f) (sym is) there)
          | inr later ↦ found.without later
        ];
      }
]

pub start_apart : (test : Place → Bool) → IsOnePart test → (x : Edge) (xs : List Edge) (end : Edge) → Runs test x xs end → IsOnce (x ∷ xs)
    → ((e : Edge) → Contains (x ∷ xs) e → IsBorder test e) → (y : Edge) → Contains xs y → x.0 ≢ y.0
start_apart test one x xs end runs once borders y member same =
    let found = run_to test x xs end y runs once member in
    comes_back test one x y found.front
    (λ e in_front. elim (contains_cases x found.front e in_front) [
      | inl is ↦ borders e (subst (λ (f : Edge). Contains (x ∷ xs) f) is (contains_here x xs))
      | inr later ↦ borders e (contains_there x xs e (found.inside e later))
    ])
    (borders y (contains_there x xs y member)) found.runs (λ again. not_twice x xs once (found.inside x again)) found.without
    (λ is. not_twice x xs once (subst (λ (f : Edge). Contains xs f) (sym is) member)) (sym same)

abbrev pub starts_of : List Edge → List Corner
starts_of edges = map (λ e. e.0) edges

corners_apart : (test : Place → Bool) → IsOnePart test → (x : Edge) (xs : List Edge) (end : Edge) → Runs test x xs end → IsOnce (x ∷ xs)
    → ((e : Edge) → Contains (x ∷ xs) e → IsBorder test e) → AllPairs (λ a b. a ≢ b) (starts_of (x ∷ xs))
corners_apart test one x [] end runs once borders = pairs_cons (λ a b. a ≢ b) x.0 [] (λ y member. absurd (none_in y member)) (pairs_nil (λ a b. a ≢ b))
corners_apart test one x (u ∷ us) end runs once borders = pairs_cons (λ a b. a ≢ b) x.0 (starts_of (u ∷ us))
    (λ p member same.
    let found = of_map (λ (e : Edge). e.0) (u ∷ us) p member in
    start_apart test one x (u ∷ us) end runs once borders found.0 found.1 (same ∙ sym found.2))
    (corners_apart test one u us end runs.1 (once_rest x (u ∷ us) once) (λ e member. borders e (contains_there x (u ∷ us) e member)))

-- a cycle comes through no corner twice
pub cycle_simple : (test : Place → Bool) → IsOnePart test → (first : Edge) (others : List Edge) → IsCycle test first others
    → AllPairs (λ a b. a ≢ b) (starts_of (first ∷ others))
cycle_simple test one first others cycle = corners_apart test one first others first cycle.runs cycle.once cycle.borders

-- edges of one list that begin at one corner are one edge
pub same_start : (edges : List Edge) → AllPairs (λ a b. a ≢ b) (starts_of edges) → (e f : Edge) → Contains edges e → Contains edges f → e.0 ≡ f.0 → e ≡ f
same_start [] apart e f has_e has_f same = absurd (none_in e has_e)
same_start (x ∷ xs) apart e f has_e has_f same = elim (contains_cases x xs e has_e) [
  | inl is_e ↦ elim (contains_cases x xs f has_f) [
    | inl is_f ↦ sym is_e ∙ is_f
    | inr in_f ↦ absurd (apart_from f in_f (ap (λ (g : Edge). g.0) is_e ∙ same))
  ]
  | inr in_e ↦ elim (contains_cases x xs f has_f) [
    | inl is_f ↦ absurd (apart_from e in_e (ap (λ (g : Edge). g.0) is_f ∙ sym same))
    | inr in_f ↦ same_start xs (λ i j d less within. apart (suc i) (suc j) d (omega arith) (omega (arith, within))) e f in_e in_f same
  ]
]
  where
    apart_from : (g : Edge) → Contains xs g → x.0 ≢ g.0
    apart_from g member is =
        let at = in_map (λ (h : Edge). h.0) xs g member in
        apart 0 (suc at.0) g.0 (omega arith) (omega (arith, at.1)) (is ∙ sym at.2)

-- corners apart, so edges too
pub once_by_starts : (edges : List Edge) → AllPairs (λ a b. a ≢ b) (starts_of edges) → IsOnce edges
once_by_starts [] apart = pairs_nil (λ a b. a ≢ b)
once_by_starts (x ∷ xs) apart = pairs_cons (λ a b. a ≢ b) x xs
    (λ y member same.
    let at = in_map (λ (h : Edge). h.0) xs y member in
    apart 0 (suc at.0) y.0 (omega arith) (omega (arith, at.1)) (ap (λ (g : Edge). g.0) same ∙ sym at.2))
    (once_by_starts xs (λ i j d less within. apart (suc i) (suc j) d (omega arith) (omega (arith, within))))

-- in a simple closed walk of boundary edges the pairing is forced
pub forced : (test : Place → Bool) → IsOnePart test → (edges : List Edge) → IsRound test edges → AllPairs (λ a b. a ≢ b) (starts_of edges)
    → (x y g : Edge) → Contains edges x → Contains edges y → y.0 ≡ x.1 → IsBorder test g → g.0 ≡ y.0 → g ≢ y → right_spot y ≡ right_spot x
forced test one edges round apart x y g has_x has_y begins border_g start other =
    let p = y.0 in
    let border_x = round.borders x has_x in
    let at = begin_two test p y g (round.borders y has_y) border_g refl start (λ same. other (sym same)) in
    let m = quarter y in
    let k = turn (turn (quarter x)) in
    let right_x : right_spot x ≡ spot_at p k = right_at_end x border_x.unit ∙ ap (λ (q : Corner). spot_at q k) (sym begins) in
    let out : at_quarter test p k ≡ false = ap (in_set test) (sym right_x) ∙ border_x.right in
    let right_g : right_spot g ≡ spot_at p (turn (turn (turn m))) = at.two.right ∙ ap (λ (j : Quarter). spot_at p (turn j)) at.apart in
    elim (turned_by m k) [
      | inl same ↦ absurd (false≢true (sym out ∙ ap (at_quarter test p) same ∙ at.one.in_left))
      | inr (inl once) ↦ at.one.right ∙ sym (ap (spot_at p) once) ∙ sym right_x
      | inr (inr (inl twice)) ↦ absurd (false≢true (sym out ∙ ap (at_quarter test p) (twice ∙ sym at.apart) ∙ at.two.in_left))
      | inr (inr (inr back)) ↦
          let rights : right_spot x ≡ right_spot g = right_x ∙ ap (spot_at p) back ∙ sym right_g in
          let not_g : ¬ Contains edges g = λ has_g. other (same_start edges apart g y has_g has_y start) in
          let change = crossing_held edges test round x border_x (held_once edges x (once_by_starts edges apart) has_x) in
          let lefts = side_constant edges test true round (left_spot x) (left_spot g) (one (left_spot x) (left_spot g) border_x.left border_g.left) in
          let same : side edges (left_spot x) ≡ side edges (right_spot x) = lefts ∙ crossing_other edges test round g border_g not_g
          ∙ ap (side edges) (sym rights) in
          absurd (false≢true (sym (xor_self (side edges (right_spot x))) ∙ ap (λ (b : Bool). xor b (side edges (right_spot x))) (sym same) ∙ change))
    ]

runs_by : (test : Place → Bool) → IsOnePart test → (edges : List Edge) → IsRound test edges → AllPairs (λ a b. a ≢ b) (starts_of edges)
    → (x : Edge) (xs : List Edge) (end : Edge) → Contains edges x → ((e : Edge) → Contains xs e → Contains edges e) → Contains edges end
    → Leads x.1 xs end.0 → Runs test x xs end
runs_by test one edges round apart x [] end has_x has_xs has_end leads = record {
  begins = sym leads;
  paired = λ g border start other. forced test one edges round apart x end g has_x has_end (sym leads) border start other;
}
runs_by test one edges round apart x (u ∷ us) end has_x has_xs has_end leads =
    let has_u = has_xs u (contains_here u us) in (
      record { begins = leads.0; paired = λ g border start other. forced test one edges round apart x u g has_x has_u leads.0 border start other },
      runs_by test one edges round apart u us end has_u (λ e member. has_xs e (contains_there u us e member)) has_end leads.2,
    )

-- so it is a cycle
pub simple_cycle : (test : Place → Bool) → IsOnePart test → (first : Edge) (others : List Edge) → IsRound test (first ∷ others)
    → AllPairs (λ a b. a ≢ b) (starts_of (first ∷ others)) → IsCycle test first others
simple_cycle test one first others round apart =
    let edges = first ∷ others in
    let leads : Leads first.1 others first.0 = subst (λ (p : Corner). Leads first.1 others p) (sym round.closed.0) round.closed.2 in
    record {
      borders = round.borders;
      once = once_by_starts edges apart;
      runs = runs_by test one edges round apart first others first (contains_here first others) (λ e member. contains_there first others e member)
          (contains_here first others) leads;
    }

-- two cycles with one edge in common have the same edges
pub same_edges : (test : Place → Bool) → IsOnePart test → (x : Edge) (xs : List Edge) (y : Edge) (ys : List Edge) → IsCycle test x xs
    → IsCycle test y ys → (e : Edge) → Contains (x ∷ xs) e → Contains (y ∷ ys) e → (f : Edge) → Contains (x ∷ xs) f → Contains (y ∷ ys) f
same_edges test one x xs y ys cycle_x cycle_y e in_x in_y f has = one_for_part test one (y ∷ ys)
    (cycle_round test y ys cycle_y) cycle_y.once e f in_y (cycle_x.borders f has) (cycle_joined test x xs cycle_x e f in_x has)

same_walk : (edges : List Edge) → AllPairs (λ a b. a ≢ b) (starts_of edges) → (first : Edge) → Contains edges first
    → (p : Corner) (xs ys : List Edge) → ((e : Edge) → Contains xs e → Contains edges e) → ((e : Edge) → Contains ys e → Contains edges e)
    → ¬ Contains xs first → ¬ Contains ys first → Leads p xs first.0 → Leads p ys first.0 → xs ≡ ys
same_walk edges apart first has p [] [] in_xs in_ys not_xs not_ys leads_xs leads_ys = refl
same_walk edges apart first has p [] (v ∷ vs) in_xs in_ys not_xs not_ys leads_xs leads_ys = absurd
    (not_ys (0, omega arith, same_start edges apart v first (in_ys v (contains_here v vs)) has (leads_ys.0 ∙ leads_xs)))
same_walk edges apart first has p (u ∷ us) [] in_xs in_ys not_xs not_ys leads_xs leads_ys = absurd
    (not_xs (0, omega arith, same_start edges apart u first (in_xs u (contains_here u us)) has (leads_xs.0 ∙ leads_ys)))
same_walk edges apart first has p (u ∷ us) (v ∷ vs) in_xs in_ys not_xs not_ys leads_xs leads_ys =
    let is : u ≡ v = same_start edges apart u v (in_xs u (contains_here u us)) (in_ys v (contains_here v vs)) (leads_xs.0 ∙ sym leads_ys.0) in
    let rest : us ≡ vs = same_walk edges apart first has u.1 us vs (λ e member. in_xs e (contains_there u us e member))
    (λ e member. in_ys e (contains_there v vs e member)) (λ member. not_xs (contains_there u us first member))
    (λ member. not_ys (contains_there v vs first member)) leads_xs.2 (subst (λ (e : Edge). Leads e.1 vs first.0) (sym is) leads_ys.2) in
    cc

-- and where they begin at one corner they are the same lists
pub same_cycle : (test : Place → Bool) → IsOnePart test → (x : Edge) (xs : List Edge) (y : Edge) (ys : List Edge) → IsCycle test x xs
    → IsCycle test y ys → x.0 ≡ y.0 → Contains (y ∷ ys) x → (x ∷ xs) ≡ (y ∷ ys)
same_cycle test one x xs y ys cycle_x cycle_y starts has =
    let apart = cycle_simple test one y ys cycle_y in
    let is : x ≡ y = same_start (y ∷ ys) apart x y has (contains_here y ys) starts in
    let inside = same_edges test one x xs y ys cycle_x cycle_y x (contains_here x xs) has in
    let leads_x = (cycle_leads test x xs cycle_x).2 in
    let leads_y : Leads x.1 ys x.0 = subst (λ (e : Edge). Leads e.1 ys e.0) (sym is) (cycle_leads test y ys cycle_y).2 in
    let rest : xs ≡ ys = same_walk (y ∷ ys) apart x has x.1 xs ys (λ e member. inside e (contains_there x xs e member))
    (λ e member. contains_there y ys e member) (not_twice x xs cycle_x.once)
    (λ member. not_twice y ys cycle_y.once (subst (λ (e : Edge). Contains ys e) is member)) leads_x leads_y in
    cc
