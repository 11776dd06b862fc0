-- A closed walk of boundary edges has one side on what is joined inside the set, and one on what is joined outside it.
use Rattle.std.proofs.Common.{◌≡◌, ℕ, zero, suc, ◌⊎◌, inl, inr, Bool, true, false, List, [], ◌∷◌, ◌++◌, Option, Some, None, refl, sym, ap, ◌∙◌, subst, arith}
use Rattle.std.specs.Prelude.{◌≢◌, AllPairs, Contains}
use Rattle.std.proofs.lemmas.Bool.{false≢true, cases_Bool}
use Rattle.std.proofs.Math.Bool.{xor}
use Rattle.cell_base.specs.Raster.{Place}
use Rattle.cell_base.specs.Walk.{IsWalk, StepsInto, IsConnected}
use Rattle.cell_base.specs.Steps.{four}
use Rattle.cell_base.proofs.WalkLemmas.{walk-append}
use Rattle.cell_base.proofs.ListDeciders.{contains_cases, contains_there, has, has_sound, has_complete}
use Rattle.edge_trace.specs.Edge.{Corner, Edge, IsUnitEdge, turned, IsBoundaryEdge}
use Rattle.edge_trace.proofs.EdgeDeciders.{same_edge, same_edge_sound, same_edge_complete}
use Rattle.edge_trace.proofs.BoundaryLemmas.{Tests}
use Rattle.ring_faces.proofs.RingLemmas.{Leads}
use Rattle.edge_trace.proofs.ParityLemmas.{xor_false}
use Rattle.ring_faces.proofs.SpotLemmas.{right_spot, in_set, IsBeside, IsBorder, left_spot, side, turned_unit, turned_left, turned_right, on_left_tells, on_left_told, beside_back, shares_beside, beside_left, beside_above}
use Rattle.ring_faces.proofs.SideLemmas.{crossing, odd_held, same_by_xor}

-- a step between two spots inside the set, or outside it
abbrev pub StepsBy : (Place → Bool) → Bool → Option Place → Option Place → Type 0
StepsBy test within a b = (in_set test a ≡ within) × (in_set test b ≡ within) × IsBeside a b

-- joined inside the set, or outside it
abbrev pub IsJoinedBy : (Place → Bool) → Bool → Option Place → Option Place → Type 0
IsJoinedBy test within a b = (walk : List (Option Place)) × IsWalk (StepsBy test within) a walk b

-- the set is one part
abbrev pub IsOnePart : (Place → Bool) → Type 0
IsOnePart test = (a b : Option Place) → in_set test a ≡ true → in_set test b ≡ true → IsJoinedBy test true a b

-- a closed walk of boundary edges
pub record IsRound (test : Place → Bool) (edges : List Edge) : Type 0 where
  pub start : Corner
  pub closed : Leads start edges start
  pub borders : (e : Edge) → Contains edges e → IsBorder test e

abbrev pub IsOnce : List Edge → Type 0
IsOnce edges = AllPairs (λ x y. x ≢ y) edges

-- a boundary edge whose right spot is joined outside the set to this spot
pub record IsReached (test : Place → Bool) (a : Option Place) : Type 0 where
  pub edge : Edge
  pub border : IsBorder test edge
  pub joined : IsJoinedBy test false a (right_spot edge)

-- boundary edges, by the set and by its test

pub not_in : (test : Place → Bool) (a : Option Place) → ((cell : Place) → a ≡ Some cell → ¬ (test cell ≡ true)) → in_set test a ≡ false
not_in test None none = refl
not_in test (Some cell) none = elim (cases_Bool (test cell)) [ inl is ↦ absurd (none cell refl is) | inr is ↦ is ]

pub border_told : (set : Place → Type 0) (test : Place → Bool) → Tests set test → (e : Edge) → IsBoundaryEdge set e → IsBorder test e
border_told set test tests e boundary =
    let cell = boundary.left.0 in
    let left = on_left_tells e cell boundary.left.1 in
    record {
      unit = left.0;
      left = ap (in_set test) left.1 ∙ (tests cell).1 boundary.left.2;
      right = not_in test (right_spot e) (λ c is holds. boundary.right c
          (on_left_told (turned e) c (turned_unit e left.0) (turned_left e left.0 ∙ is)) ((tests c).0 holds));
    }

pub cell_in : (test : Place → Bool) (a : Option Place) → in_set test a ≡ true → (cell : Place) × (a ≡ Some cell) × (test cell ≡ true)
cell_in test None is = absurd (false≢true is)
cell_in test (Some cell) is = (cell, refl, is)

pub border_tells : (set : Place → Type 0) (test : Place → Bool) → Tests set test → (e : Edge) → IsBorder test e → IsBoundaryEdge set e
border_tells set test tests e border =
    let found = cell_in test (left_spot e) border.left in
    record {
      left = (found.0, on_left_told e found.0 border.unit found.1, (tests found.0).0 found.2);
      right = λ c on_right holds.
          let right = (on_left_tells (turned e) c on_right).1 in
          let spot_is : right_spot e ≡ Some c = sym (turned_left e border.unit) ∙ right in
          false≢true (sym border.right ∙ ap (in_set test) spot_is ∙ (tests c).1 holds);
    }

pub border_not_turned : (test : Place → Bool) (e : Edge) → IsBorder test e → ¬ IsBorder test (turned e)
border_not_turned test e border other = false≢true (sym border.right ∙ ap (in_set test) (sym (turned_left e border.unit)) ∙ other.left)

-- joined

pub joined_self : (test : Place → Bool) (within : Bool) (a b : Option Place) → a ≡ b → IsJoinedBy test within a b
joined_self test within a b same = ([], same)

pub joined_trans : (test : Place → Bool) (within : Bool) (a b c : Option Place) → IsJoinedBy test within a b → IsJoinedBy test within b c
    → IsJoinedBy test within a c
joined_trans test within a b c first second = (first.0 ++ second.0, walk-append (StepsBy test within) a b c first.0 second.0 first.1 second.1)

pub joined_step : (test : Place → Bool) (within : Bool) (a b : Option Place) → in_set test a ≡ within → in_set test b ≡ within → IsBeside a b
    → IsJoinedBy test within a b
joined_step test within a b in_a in_b beside = (b ∷ [], ((in_a, in_b, beside), refl))

joined_back_by : (test : Place → Bool) (within : Bool) (a b : Option Place) (walk : List (Option Place)) → IsWalk (StepsBy test within) a walk b
    → IsJoinedBy test within b a
joined_back_by test within a b [] same = ([], sym same)
joined_back_by test within a b (c ∷ cs) walked =
    joined_trans test within b c a (joined_back_by test within c b cs walked.1) (joined_step test within c a walked.0.1 walked.0.0 (beside_back a c walked.0.2))

pub joined_back : (test : Place → Bool) (within : Bool) (a b : Option Place) → IsJoinedBy test within a b → IsJoinedBy test within b a
joined_back test within a b joined = joined_back_by test within a b joined.0 joined.1

-- what is joined to a spot on this side is on this side
joined_end_by : (test : Place → Bool) (within : Bool) (a b : Option Place) (walk : List (Option Place)) → IsWalk (StepsBy test within) a walk b
    → in_set test a ≡ within → in_set test b ≡ within
joined_end_by test within a b [] same is = ap (in_set test) (sym same) ∙ is
joined_end_by test within a b (c ∷ cs) walked is = joined_end_by test within c b cs walked.1 walked.0.1

pub joined_end : (test : Place → Bool) (within : Bool) (a b : Option Place) → IsJoinedBy test within a b → in_set test a ≡ within → in_set test b ≡ within
joined_end test within a b joined is = joined_end_by test within a b joined.0 joined.1 is

inside_by : (set : Place → Type 0) (test : Place → Bool) → Tests set test → (a b : Place) (walk : List Place) → set a
    → IsWalk (StepsInto four set) a walk b → IsJoinedBy test true (Some a) (Some b)
inside_by set test tests a b [] at walked = joined_self test true (Some a) (Some b) (ap (λ (p : Place). Some p) walked)
inside_by set test tests a b (c ∷ cs) at walked = joined_trans test true (Some a) (Some c) (Some b)
    (joined_step test true (Some a) (Some c) ((tests a).1 at) ((tests c).1 walked.0.1) (shares_beside a c walked.0.0))
    (inside_by set test tests c b cs walked.0.1 walked.1)

-- a set that is connected by side steps is one part
pub connected_is_part : (set : Place → Type 0) (test : Place → Bool) → Tests set test → IsConnected four set → IsOnePart test
connected_is_part set test tests connected a b in_a in_b =
    let p = cell_in test a in_a in
    let q = cell_in test b in_b in
    let found = connected p.0 q.0 ((tests p.0).0 p.2) ((tests q.0).0 q.2) in
    let joined = inside_by set test tests p.0 q.0 found.1 found.0 found.2 in
    rw (p.1, q.1) joined

-- how often an edge is held

pub not_held : (edges : List Edge) (x : Edge) → ¬ Contains edges x → odd_held edges x ≡ false
unfolding xor
not_held [] x none = refl
not_held (e ∷ es) x none = elim (cases_Bool (same_edge e x)) [
  | inl same ↦ absurd (none (0, omega arith, same_edge_sound e x same))
  | inr other ↦ ap (λ (b : Bool). xor b (odd_held es x)) other ∙ xor_false (odd_held es x) ∙ not_held es x (λ member. none (contains_there e es x member))
]

pub not_twice : (e : Edge) (es : List Edge) → IsOnce (e ∷ es) → ¬ Contains es e
not_twice e es once member = once 0 (suc member.0) e (omega arith) (omega (arith, member.1)) (sym member.2)

pub once_rest : (e : Edge) (es : List Edge) → IsOnce (e ∷ es) → IsOnce es
once_rest e es once = λ i j d less within. once (suc i) (suc j) d (omega arith) (omega (arith, within))

pub held_once : (edges : List Edge) (x : Edge) → IsOnce edges → Contains edges x → odd_held edges x ≡ true
unfolding xor
held_once [] x once member = absurd (omega (arith, member.1))
held_once (e ∷ es) x once member = elim (contains_cases e es x member) [
  | inl here ↦ ap (λ (b : Bool). xor b (odd_held es x)) (same_edge_complete e x here)
      ∙ ap (xor true) (not_held es x (λ there. not_twice e es once (subst (λ (y : Edge). Contains es y) (sym here) there)))
  | inr there ↦ elim (cases_Bool (same_edge e x)) [
    | inl same ↦ absurd (not_twice e es once (subst (λ (y : Edge). Contains es y) (sym (same_edge_sound e x same)) there))
    | inr other ↦ ap (λ (b : Bool). xor b (odd_held es x)) other ∙ xor_false (odd_held es x) ∙ held_once es x (once_rest e es once) there
  ]
]

-- whether a list holds an edge
pub held_or_not : (edges : List Edge) (x : Edge) → Contains edges x ⊎ (¬ Contains edges x)
held_or_not edges x = elim (cases_Bool (has same_edge edges x)) [
  | inl is ↦ inl (has_sound same_edge same_edge_sound edges x is)
  | inr is ↦ inr (λ member. false≢true (sym is ∙ has_complete same_edge same_edge_complete edges x member))
]

-- crossing an edge

pub crossing_none : (edges : List Edge) (test : Place → Bool) → IsRound test edges → (e : Edge) → IsUnitEdge e → ¬ Contains edges e
    → ¬ Contains edges (turned e) → side edges (left_spot e) ≡ side edges (right_spot e)
crossing_none edges test round e unit none none_turned = same_by_xor _ _ (crossing round.start edges round.closed e unit
    ∙ ap (λ (b : Bool). xor b (odd_held edges (turned e))) (not_held edges e none) ∙ xor_false (odd_held edges (turned e))
    ∙ not_held edges (turned e) none_turned)

-- crossing a boundary edge of the walk changes sides
pub crossing_held : (edges : List Edge) (test : Place → Bool) → IsRound test edges → (e : Edge) → IsBorder test e → odd_held edges e ≡ true
    → xor (side edges (left_spot e)) (side edges (right_spot e)) ≡ true
unfolding xor
crossing_held edges test round e border held = crossing round.start edges round.closed e border.unit
    ∙ ap (λ (b : Bool). xor b (odd_held edges (turned e))) held
    ∙ ap (xor true) (not_held edges (turned e) (λ member. border_not_turned test e border (round.borders (turned e) member)))

-- crossing another boundary edge doesn't
pub crossing_other : (edges : List Edge) (test : Place → Bool) → IsRound test edges → (e : Edge) → IsBorder test e → ¬ Contains edges e
    → side edges (left_spot e) ≡ side edges (right_spot e)
crossing_other edges test round e border none = crossing_none edges test round e border.unit none
    (λ member. border_not_turned test e border (round.borders (turned e) member))

-- nor does crossing an edge with the set on both sides, or on none
crossing_within : (edges : List Edge) (test : Place → Bool) (within : Bool) → IsRound test edges → (e : Edge) → IsUnitEdge e
    → in_set test (left_spot e) ≡ within → in_set test (right_spot e) ≡ within → side edges (left_spot e) ≡ side edges (right_spot e)
crossing_within edges test within round e unit left right = crossing_none edges test round e unit
    (λ member.
    let border = round.borders e member in
    false≢true (sym border.right ∙ right ∙ sym left ∙ border.left))
    (λ member.
    let border = round.borders (turned e) member in
    false≢true (sym border.right ∙ ap (in_set test) (turned_right e unit) ∙ left ∙ sym right ∙ ap (in_set test) (sym (turned_left e unit)) ∙ border.left))

pub step_constant : (edges : List Edge) (test : Place → Bool) (within : Bool) → IsRound test edges → (a b : Option Place) → StepsBy test within a b
    → side edges a ≡ side edges b
step_constant edges test within round a b steps =
    let beside = steps.2 in
    let same = crossing_within edges test within round beside.edge beside.unit (ap (in_set test) beside.left
    ∙ steps.0) (ap (in_set test) beside.right ∙ steps.1) in
    ap (side edges) (sym beside.left) ∙ same ∙ ap (side edges) beside.right

constant_by : (edges : List Edge) (test : Place → Bool) (within : Bool) → IsRound test edges → (a b : Option Place) (walk : List (Option Place))
    → IsWalk (StepsBy test within) a walk b → side edges a ≡ side edges b
constant_by edges test within round a b [] same = ap (side edges) same
constant_by edges test within round a b (c ∷ cs) walked = step_constant edges test within round a c walked.0
    ∙ constant_by edges test within round c b cs walked.1

-- one side on what is joined
pub side_constant : (edges : List Edge) (test : Place → Bool) (within : Bool) → IsRound test edges → (a b : Option Place)
    → IsJoinedBy test within a b → side edges a ≡ side edges b
side_constant edges test within round a b joined = constant_by edges test within round a b joined.0 joined.1

-- each spot outside is joined to a boundary edge

abbrev Reaches : (Place → Bool) → Option Place → Type 0
Reaches test a = in_set test a ≡ false → IsReached test a

reaches_next : (test : Place → Bool) (a b : Option Place) → IsBeside b a → Reaches test b → Reaches test a
reaches_next test a b beside reach out = elim (cases_Bool (in_set test b)) [
  | inl within ↦ record {
    edge = beside.edge;
    border = record { unit = beside.unit; left = ap (in_set test) beside.left ∙ within; right = ap (in_set test) beside.right ∙ out };
    joined = joined_self test false a (right_spot beside.edge) (sym beside.right);
  }
  | inr also ↦
      let found = reach also in
      record {
        edge = found.edge;
        border = found.border;
        joined = joined_trans test false a b (right_spot found.edge)
            (joined_step test false a b out also (beside_back b a beside)) found.joined;
      }
]

to_left : (test : Place → Bool) (r c : ℕ) → Reaches test (Some (r, c)) → Reaches test (Some (r, 0))
to_left test r zero reach = reach
to_left test r (suc c) reach = to_left test r c (reaches_next test (Some (r, c)) (Some (r, suc c)) (beside_left r (suc c)) reach)

to_right : (test : Place → Bool) (r c : ℕ) → Reaches test (Some (r, 0)) → Reaches test (Some (r, c))
to_right test r zero reach = reach
to_right test r (suc c) reach = reaches_next test (Some (r, suc c)) (Some (r, c)) (beside_back _ _ (beside_left r (suc c))) (to_right test r c reach)

to_top : (test : Place → Bool) (r c : ℕ) → Reaches test (Some (r, c)) → Reaches test (Some (0, c))
to_top test zero c reach = reach
to_top test (suc r) c reach = to_top test r c (reaches_next test (Some (r, c)) (Some (suc r, c)) (beside_back _ _ (beside_above (suc r) c)) reach)

to_bottom : (test : Place → Bool) (r c : ℕ) → Reaches test (Some (0, c)) → Reaches test (Some (r, c))
to_bottom test zero c reach = reach
to_bottom test (suc r) c reach = reaches_next test (Some (suc r, c)) (Some (r, c)) (beside_above (suc r) c) (to_bottom test r c reach)

-- where the set has a cell, each spot outside it is joined outside it to the right spot of a boundary edge
pub reached : (test : Place → Bool) (cell : Place) → test cell ≡ true → (a : Option Place) → in_set test a ≡ false → IsReached test a
reached test cell is None out = reaches_next test None (Some (0, 0)) (beside_left 0 0)
    (to_left test 0 cell.1 (to_top test cell.0 cell.1 (λ not. absurd (false≢true (sym not ∙ is))))) out
reached test cell is (Some (r, c)) out = to_right test r c
    (to_bottom test r 0 (to_left test 0 cell.1 (to_top test cell.0 cell.1 (λ not. absurd (false≢true (sym not ∙ is)))))) out
