-- The cycles of boundary edges: what is on their right, and that they come through no corner twice.
use Rattle.std.proofs.Common.{◌≡◌, ◌≢◌, ℕ, zero, suc, ◌⊎◌, inl, inr, Bool, true, false, List, [], ◌∷◌, Option, Some, refl, sym, ap, ◌∙◌, subst, arith}
use Rattle.std.specs.Prelude.{Contains}
use Rattle.std.proofs.lemmas.Bool.{false≢true, cases_Bool}
use Rattle.std.proofs.Math.Bool.{xor}
use Rattle.cell_base.specs.Raster.{Place}
use Rattle.cell_base.proofs.ListDeciders.{contains_cases, contains_here, contains_there}
use Rattle.edge_trace.specs.Edge.{Edge, Corner, turned}
use Rattle.edge_trace.proofs.EdgeDeciders.{same_edge_complete}
use Rattle.edge_trace.proofs.ParityLemmas.{xor_self}
use Rattle.ring_faces.proofs.SpotLemmas.{right_spot, IsBorder, Quarter, nw, ne, se, sw, turn, spot_at, quarter, left_spot, side, in_set, Leaving, leaving, leaving_beside, left_at_start, right_at_start, right_at_end, same_leaving, turned_right}
use Rattle.ring_faces.proofs.PartLemmas.{IsOnce, IsJoinedBy, IsOnePart, IsRound, crossing_held, crossing_none, crossing_other, held_once, held_or_not, joined_back, joined_self, joined_step, joined_trans, not_held, side_constant}
use Rattle.ring_faces.proofs.RingLemmas.{Leads}
use Rattle.ring_faces.proofs.SideLemmas.{odd_held}

-- the second edge begins where the first ends; where another boundary edge begins there too, it has the same spot on its right
pub record Follows (test : Place → Bool) (e f : Edge) : Type 0 where
  pub begins : f.0 ≡ e.1
  pub paired : (g : Edge) → IsBorder test g → g.0 ≡ f.0 → g ≢ f → right_spot f ≡ right_spot e

-- from the first edge each is followed by the next, and the last by the end
abbrev pub Runs : (Place → Bool) → Edge → List Edge → Edge → Type 0
Runs test e [] end = Follows test e end
Runs test e (f ∷ fs) end = Follows test e f × Runs test f fs end

-- boundary edges, each once, each followed by the next, round the end too
pub record IsCycle (test : Place → Bool) (first : Edge) (others : List Edge) : Type 0 where
  pub borders : (e : Edge) → Contains (first ∷ others) e → IsBorder test e
  pub once : IsOnce (first ∷ others)
  pub runs : Runs test first others first

pub four_turns : (k : Quarter) → turn (turn (turn (turn k))) ≡ k
four_turns nw = refl
four_turns ne = refl
four_turns se = refl
four_turns sw = refl

pub two_turns : (k : Quarter) → turn (turn k) ≢ k
two_turns nw is = cc
two_turns ne is = cc
two_turns se is = cc
two_turns sw is = cc

-- a quarter, seen from another
abbrev pub IsTurned : Quarter → Quarter → Type 0
IsTurned k m = (m ≡ k) ⊎ ((m ≡ turn k) ⊎ ((m ≡ turn (turn k)) ⊎ (m ≡ turn (turn (turn k)))))

pub turned_by : (k m : Quarter) → IsTurned k m
turned_by nw nw = inl refl
turned_by nw ne = inr (inl refl)
turned_by nw se = inr (inr (inl refl))
turned_by nw sw = inr (inr (inr refl))
turned_by ne ne = inl refl
turned_by ne se = inr (inl refl)
turned_by ne sw = inr (inr (inl refl))
turned_by ne nw = inr (inr (inr refl))
turned_by se se = inl refl
turned_by se sw = inr (inl refl)
turned_by se nw = inr (inr (inl refl))
turned_by se ne = inr (inr (inr refl))
turned_by sw sw = inl refl
turned_by sw nw = inr (inl refl)
turned_by sw ne = inr (inr (inl refl))
turned_by sw se = inr (inr (inr refl))

-- whether the spot in a quarter is in the set
abbrev pub at_quarter : (Place → Bool) → Corner → Quarter → Bool
at_quarter test p k = in_set test (spot_at p k)

-- a boundary edge, by the spots round its start
pub record Begins (test : Place → Bool) (p : Corner) (e : Edge) : Type 0 where
  pub left : left_spot e ≡ spot_at p (quarter e)
  pub right : right_spot e ≡ spot_at p (turn (quarter e))
  pub in_left : at_quarter test p (quarter e) ≡ true
  pub in_right : at_quarter test p (turn (quarter e)) ≡ false

pub begins_at : (test : Place → Bool) (p : Corner) (e : Edge) → IsBorder test e → e.0 ≡ p → Begins test p e
begins_at test p e border start =
    let left : left_spot e ≡ spot_at p (quarter e) = left_at_start e ∙ ap (λ (q : Corner). spot_at q (quarter e)) start in
    let right : right_spot e ≡ spot_at p (turn (quarter e)) = right_at_start e ∙ ap (λ (q : Corner). spot_at q (turn (quarter e))) start in
    record { left = left; right = right; in_left = ap (in_set test) (sym left) ∙ border.left; in_right = ap (in_set test) (sym right) ∙ border.right }

-- two quarters beside each other outside the set are joined
beside_joined : (test : Place → Bool) (p : Corner) (k : Quarter) → at_quarter test p k ≡ false → at_quarter test p (turn k) ≡ false
    → IsJoinedBy test false (spot_at p k) (spot_at p (turn k))
beside_joined test p k here next = elim (leaving p.0 p.1 k) [
  | inl same ↦ joined_self test false (spot_at p k) (spot_at p (turn k)) same
  | inr edge ↦ joined_step test false (spot_at p k) (spot_at p (turn k)) here next (leaving_beside p k edge)
]

-- the last of four quarters and the first
last_joined : (test : Place → Bool) (p : Corner) (k : Quarter) → at_quarter test p (turn (turn (turn k))) ≡ false → at_quarter test p k ≡ false
    → IsJoinedBy test false (spot_at p k) (spot_at p (turn (turn (turn k))))
last_joined test p k last here = joined_back test false _ _
    (subst (λ (j : Quarter). IsJoinedBy test false (spot_at p (turn (turn (turn k)))) (spot_at p j)) (four_turns k)
    (beside_joined test p (turn (turn (turn k))) last (ap (at_quarter test p) (four_turns k) ∙ here)))

-- an edge that begins between a spot in the set and one outside
pub leaving_between : (test : Place → Bool) (p : Corner) (k : Quarter) → at_quarter test p k ≢ at_quarter test p (turn k) → Leaving p k
leaving_between test p k differs = elim (leaving p.0 p.1 k) [
  | inl same ↦ absurd (differs (ap (in_set test) same))
  | inr edge ↦ edge
]

abbrev RightJoined : (Place → Bool) → Corner → Quarter → Edge → Type 0
RightJoined test p k f = IsJoinedBy test false (spot_at p k) (right_spot f)

right_by : (test : Place → Bool) (p : Corner) (k m : Quarter) (f : Edge) → right_spot f ≡ spot_at p (turn (quarter f)) → quarter f ≡ m
    → right_spot f ≡ spot_at p (turn m)
right_by test p k m f right is = right ∙ ap (λ (j : Quarter). spot_at p (turn j)) is

-- round a corner, from the right spot of the edge that comes to that of the one that goes on
round_corner : (test : Place → Bool) (p : Corner) (k : Quarter) (f : Edge) → IsBorder test f → f.0 ≡ p → at_quarter test p k ≡ false
    → ((g : Edge) → IsBorder test g → g.0 ≡ f.0 → g ≢ f → right_spot f ≡ spot_at p k) → RightJoined test p k f
round_corner test p k f border start out paired =
    let at = begins_at test p f border start in
    elim (turned_by k (quarter f)) [
      | inl same ↦ absurd (false≢true (sym out ∙ ap (at_quarter test p) (sym same) ∙ at.in_left))
      | inr (inl once) ↦
          let right : right_spot f ≡ spot_at p (turn (turn k)) = right_by test p k (turn k) f at.right once in
          let out_right : at_quarter test p (turn (turn k)) ≡ false = ap (in_set test) (sym right) ∙ border.right in
          elim (cases_Bool (at_quarter test p (turn (turn (turn k))))) [
            | inl within ↦
                let other = leaving_between test p (turn (turn (turn k)))
                (λ same. false≢true (sym out ∙ ap (at_quarter test p) (sym (four_turns k)) ∙ sym same ∙ within)) in
                let other_border : IsBorder test other.edge = record {
                  unit = other.unit;
                  left = ap (in_set test) other.left ∙ within;
                  right = ap (in_set test) other.right ∙ ap (at_quarter test p) (four_turns k) ∙ out;
                } in
                joined_self test false (spot_at p k) (right_spot f)
                (sym (paired other.edge other_border (other.start ∙ sym start) (λ same. two_turns (turn k) (sym other.quarter ∙ ap quarter same ∙ once))))
            | inr outside ↦ subst (λ (o : Option Place). IsJoinedBy test false (spot_at p k) o) (sym right)
                (joined_trans test false _ _ _ (last_joined test p k outside out)
                (joined_back test false _ _ (beside_joined test p (turn (turn k)) out_right outside)))
          ]
      | inr (inr (inl twice)) ↦
          let right : right_spot f ≡ spot_at p (turn (turn (turn k))) = right_by test p k (turn (turn k)) f at.right twice in
          subst (λ (o : Option Place). IsJoinedBy test false (spot_at p k) o) (sym right)
          (last_joined test p k (ap (in_set test) (sym right) ∙ border.right) out)
      | inr (inr (inr back)) ↦ joined_self test false (spot_at p k) (right_spot f)
          (sym (right_by test p k (turn (turn (turn k))) f at.right back ∙ ap (spot_at p) (four_turns k)))
    ]

-- the right spots of an edge and of the one that follows are joined outside
pub follows_joined : (test : Place → Bool) (e f : Edge) → IsBorder test e → IsBorder test f → Follows test e f
    → IsJoinedBy test false (right_spot e) (right_spot f)
follows_joined test e f border_e border_f follows =
    let k = turn (turn (quarter e)) in
    let right : right_spot e ≡ spot_at e.1 k = right_at_end e border_e.unit in
    subst (λ (o : Option Place). IsJoinedBy test false o (right_spot f)) (sym right)
    (round_corner test e.1 k f border_f follows.begins (ap (in_set test) (sym right)
    ∙ border_e.right) (λ g border start other. follows.paired g border start other ∙ right))

pub runs_joined : (test : Place → Bool) (x : Edge) (xs : List Edge) (end : Edge) → Runs test x xs end
    → ((e : Edge) → Contains (x ∷ xs) e → IsBorder test e) → (e : Edge) → Contains (x ∷ xs) e → IsJoinedBy test false (right_spot x) (right_spot e)
runs_joined test x [] end runs borders e member = elim (contains_cases x [] e member) [
  | inl here ↦ joined_self test false _ _ (ap right_spot here)
  | inr there ↦ absurd (omega (arith, there.1))
]
runs_joined test x (y ∷ ys) end runs borders e member = elim (contains_cases x (y ∷ ys) e member) [
  | inl here ↦ joined_self test false _ _ (ap right_spot here)
  | inr there ↦ joined_trans test false _ _ _ (follows_joined test x y (borders x (contains_here x (y ∷ ys)))
      (borders y (contains_there x (y ∷ ys) y (contains_here y ys))) runs.0)
      (runs_joined test y ys end runs.1 (λ f in_rest. borders f (contains_there x (y ∷ ys) f in_rest)) e there)
]

-- the right spots of a cycle's edges are joined outside the set
pub cycle_joined : (test : Place → Bool) (first : Edge) (others : List Edge) → IsCycle test first others → (e f : Edge) → Contains (first ∷ others) e
    → Contains (first ∷ others) f → IsJoinedBy test false (right_spot e) (right_spot f)
cycle_joined test first others cycle e f has_e has_f = joined_trans test false _ _ _
    (joined_back test false _ _ (runs_joined test first others first cycle.runs cycle.borders e has_e))
    (runs_joined test first others first cycle.runs cycle.borders f has_f)

runs_lead : (test : Place → Bool) (x : Edge) (xs : List Edge) (end : Edge) → Runs test x xs end
    → ((e : Edge) → Contains (x ∷ xs) e → IsBorder test e) → Leads x.0 (x ∷ xs) end.0
runs_lead test x [] end runs borders = (refl, (borders x (contains_here x [])).unit, sym runs.begins)
runs_lead test x (y ∷ ys) end runs borders = (
  refl,
  (borders x (contains_here x (y ∷ ys))).unit,
  subst
      (λ (p : Corner). Leads p (y ∷ ys) end.0) runs.0.begins (runs_lead test y ys end runs.1 (λ e member. borders e (contains_there x (y ∷ ys) e member))),
)

pub cycle_leads : (test : Place → Bool) (first : Edge) (others : List Edge) → IsCycle test first others → Leads first.0 (first ∷ others) first.0
cycle_leads test first others cycle = runs_lead test first others first cycle.runs cycle.borders

-- a cycle is a closed walk
pub cycle_round : (test : Place → Bool) (first : Edge) (others : List Edge) → IsCycle test first others → IsRound test (first ∷ others)
cycle_round test first others cycle = record { start = first.0; closed = runs_lead test first others first cycle.runs cycle.borders; borders = cycle.borders }

-- one closed walk for each part outside: it holds each boundary edge whose right spot is joined outside to that of one of its edges
pub one_for_part : (test : Place → Bool) → IsOnePart test → (edges : List Edge) → IsRound test edges → IsOnce edges → (e f : Edge) → Contains edges e
    → IsBorder test f → IsJoinedBy test false (right_spot e) (right_spot f) → Contains edges f
one_for_part test one edges round once e f has_e border_f joined = elim (held_or_not edges f) [
  | inl is ↦ is
  | inr none ↦
      let border_e = round.borders e has_e in
      let change = crossing_held edges test round e border_e (held_once edges e once has_e) in
      let lefts = side_constant edges test true round (left_spot e) (left_spot f) (one (left_spot e) (left_spot f) border_e.left border_f.left) in
      let rights = side_constant edges test false round (right_spot e) (right_spot f) joined in
      let same : side edges (left_spot e) ≡ side edges (right_spot e) = lefts ∙ crossing_other edges test round f border_f none ∙ sym rights in
      absurd (false≢true (sym (xor_self (side edges (right_spot e))) ∙ ap (λ (b : Bool). xor b (side edges (right_spot e))) (sym same) ∙ change))
]

rows_differ : (p q : Place) → Some p ≡ Some q → p.0 ≢ q.0 → ⊥
rows_differ p q is other =
    let same : p ≡ q = cc in
    other (ap (λ (s : Place). s.0) same)

-- two opposite quarters in the set have two spots between them
pub opposite : (test : Place → Bool) (r c : ℕ) (k : Quarter) → at_quarter test (r, c) k ≡ true → at_quarter test (r, c) (turn (turn k)) ≡ true
    → spot_at (r, c) (turn k) ≢ spot_at (r, c) (turn (turn (turn k)))
opposite test zero c nw one two same = false≢true one
opposite test zero c ne one two same = false≢true one
opposite test zero c se one two same = false≢true two
opposite test zero c sw one two same = false≢true two
opposite test (suc r) zero nw one two same = false≢true one
opposite test (suc r) zero ne one two same = false≢true two
opposite test (suc r) zero se one two same = false≢true two
opposite test (suc r) zero sw one two same = false≢true one
opposite test (suc r) (suc c) nw one two same = rows_differ (r, (suc c)) ((suc r), c) same (omega arith)
opposite test (suc r) (suc c) ne one two same = rows_differ ((suc r), (suc c)) (r, c) same (omega arith)
opposite test (suc r) (suc c) se one two same = rows_differ ((suc r), c) (r, (suc c)) same (omega arith)
opposite test (suc r) (suc c) sw one two same = rows_differ (r, c) ((suc r), (suc c)) same (omega arith)

-- two boundary edges that begin at one corner

pub record BeginTwo (test : Place → Bool) (p : Corner) (e f : Edge) : Type 0 where
  pub one : Begins test p e
  pub two : Begins test p f
  pub apart : quarter f ≡ turn (turn (quarter e))

pub begin_two : (test : Place → Bool) (p : Corner) (e f : Edge) → IsBorder test e → IsBorder test f → e.0 ≡ p → f.0 ≡ p → e ≢ f → BeginTwo test p e f
begin_two test p e f border_e border_f start_e start_f other =
    let one = begins_at test p e border_e start_e in
    let two = begins_at test p f border_f start_f in
    record {
      one = one;
      two = two;
      apart = elim (turned_by (quarter e) (quarter f)) [
        | inl same ↦ absurd (other (same_leaving e f border_e.unit border_f.unit (start_e ∙ sym start_f) (sym same)))
        | inr (inl once) ↦ absurd (false≢true (sym one.in_right ∙ ap (at_quarter test p) (sym once) ∙ two.in_left))
        | inr (inr (inl twice)) ↦ twice
        | inr (inr (inr back)) ↦ absurd (false≢true (sym two.in_right ∙ ap (λ (k : Quarter). at_quarter test p (turn k)) back
            ∙ ap (at_quarter test p) (four_turns (quarter e)) ∙ one.in_left))
      ];
    }

-- a third one is one of the two
no_third : (test : Place → Bool) (p : Corner) (e f g : Edge) → IsBorder test e → IsBorder test f → IsBorder test g → e.0 ≡ p → f.0 ≡ p → g.0 ≡ p
    → BeginTwo test p e f → (g ≡ e) ⊎ (g ≡ f)
no_third test p e f g border_e border_f border_g start_e start_f start_g at =
    let third = begins_at test p g border_g start_g in
    elim (turned_by (quarter e) (quarter g)) [
      | inl same ↦ inl (same_leaving g e border_g.unit border_e.unit (start_g ∙ sym start_e) same)
      | inr (inl once) ↦ absurd (false≢true (sym at.one.in_right ∙ ap (at_quarter test p) (sym once) ∙ third.in_left))
      | inr (inr (inl twice)) ↦ inr (same_leaving g f border_g.unit border_f.unit (start_g ∙ sym start_f) (twice ∙ sym at.apart))
      | inr (inr (inr back)) ↦ absurd (false≢true (sym at.two.in_right ∙ ap (λ (k : Quarter). at_quarter test p (turn k)) at.apart
          ∙ ap (at_quarter test p) (sym back) ∙ third.in_left))
    ]

-- the edge that follows one of a run
pub record HasNext (test : Place → Bool) (xs : List Edge) (end e : Edge) : Type 0 where
  pub next : Edge
  pub follows : Follows test e next
  pub where_is : Contains xs next ⊎ (next ≡ end)

pub next_of : (test : Place → Bool) (x : Edge) (xs : List Edge) (end : Edge) → Runs test x xs end → (e : Edge) → Contains (x ∷ xs) e → HasNext test xs end e
next_of test x [] end runs e member = elim (contains_cases x [] e member) [
  | inl here ↦ record { next = end; follows = subst (λ (y : Edge). Follows test y end) here runs; where_is = inr refl }
  | inr there ↦ absurd (omega (arith, there.1))
]
next_of test x (y ∷ ys) end runs e member = elim (contains_cases x (y ∷ ys) e member) [
  | inl here ↦ record { next = y; follows = subst (λ (z : Edge). Follows test z y) here runs.0; where_is = inl (contains_here y ys) }
  | inr there ↦
      let found = next_of test y ys end runs.1 e there in
      record {
        next = found.next;
        follows = found.follows;
        where_is = elim found.where_is [
          | inl inside ↦ inl
              (contains_there y ys found.next inside)
          | inr is ↦ inr is
        ];
      }
]

-- a run that comes back to the corner where it began, by another edge, can't be
pub comes_back : (test : Place → Bool) → IsOnePart test → (x z : Edge) (xs : List Edge) → ((e : Edge) → Contains (x ∷ xs) e → IsBorder test e)
    → IsBorder test z → Runs test x xs z → ¬ Contains xs x → ¬ Contains xs z → x ≢ z → z.0 ≡ x.0 → ⊥
unfolding xor
comes_back test one x z xs borders border_z runs not_x not_z other back =
    let p = x.0 in
    let edges = x ∷ xs in
    let border_x = borders x (contains_here x xs) in
    let at = begin_two test p x z border_x border_z refl back other in
    let k = quarter x in
    let round : IsRound test edges = record {
      start = p;
      closed = subst (λ (q : Corner). Leads p edges q) back
          (runs_lead test x xs z runs borders);
      borders = borders;
    } in
    let held : odd_held edges x ≡ true = ap (λ (b : Bool). xor b (odd_held xs x)) (same_edge_complete x x refl) ∙ ap (xor true) (not_held xs x not_x) in
    let change : xor (side edges (spot_at p k)) (side edges (spot_at p (turn k))) ≡ true = ap
    (λ (o : Option Place). xor (side edges o) (side edges (spot_at p (turn k)))) (sym at.one.left)
    ∙ ap (λ (o : Option Place). xor (side edges (left_spot x)) (side edges o)) (sym at.one.right) ∙ crossing_held edges test round x border_x held in
    let in_far : at_quarter test p (turn (turn k)) ≡ true = ap (at_quarter test p) (sym at.apart) ∙ at.two.in_left in
    let between = leaving_between test p (turn k) (λ same. false≢true (sym at.one.in_right ∙ same ∙ in_far)) in
    let g = between.edge in
    let right_z : right_spot z ≡ spot_at p (turn (turn (turn k))) = at.two.right ∙ ap (λ (j : Quarter). spot_at p (turn j)) at.apart in
    let not_g : ¬ Contains edges g = λ member. false≢true (sym at.one.in_right ∙ ap (in_set test) (sym between.left) ∙ (borders g member).left) in
    let not_turned : ¬ Contains edges (turned g) = λ member.
    let found = next_of test x xs z runs (turned g) member in
    let start : found.next.0 ≡ p = found.follows.begins ∙ between.start in
    elim found.where_is [
      | inl inside ↦ elim (no_third test p x z found.next border_x border_z (borders found.next (contains_there x xs found.next inside)) refl back start at) [
        | inl is ↦ not_x (subst (λ (y : Edge). Contains xs y) is inside)
        | inr is ↦ not_z (subst (λ (y : Edge). Contains xs y) is inside)
      ]
      | inr is ↦ opposite test p.0 p.1 k at.one.in_left in_far (sym between.left ∙ sym (turned_right g between.unit)
          ∙ sym (found.follows.paired x border_x (sym start) (λ same. other (same ∙ is))) ∙ ap right_spot is ∙ right_z)
    ] in
    let same : side edges (spot_at p (turn k)) ≡ side edges (spot_at p (turn (turn k))) = ap (side edges) (sym between.left)
    ∙ crossing_none edges test round g between.unit not_g not_turned ∙ ap (side edges) between.right in
    let joined : side edges (spot_at p k) ≡ side edges (spot_at p (turn (turn k))) = side_constant edges test true round _ _ (one _ _ at.one.in_left in_far) in
    false≢true (sym (xor_self (side edges (spot_at p (turn k)))) ∙ ap (λ (b : Bool). xor b (side edges (spot_at p (turn k)))) (same ∙ sym joined) ∙ change)
