-- Each boundary edge is followed by one, so each is on a cycle, if there are finitely many.
use Rattle.std.proofs.Common.{◌≡◌, ◌≢◌, ℕ, zero, suc, ◌+◌, ◌≤◌, ◌⊎◌, inl, inr, Bool, true, false, List, [], ◌∷◌, ◌++◌, length, length-append, sym, ap, ◌∙◌, subst, arith}
use Rattle.std.specs.Prelude.{Contains}
use Rattle.std.proofs.lemmas.Bool.{false≢true, cases_Bool, cases_lt}
use Rattle.std.proofs.lemmas.List.Elements.{Contains-append_cases}
use Rattle.cell_base.specs.Raster.{Place}
use Rattle.cell_base.proofs.ListDeciders.{contains_cases, contains_here, contains_there}
use Rattle.region_label.proofs.CountLaws.{no_longer}
use Rattle.edge_trace.specs.Edge.{Corner, Edge}
use Rattle.ring_faces.proofs.SpotLemmas.{Quarter, turn, spot_at, quarter, right_spot, in_set, IsBorder, Leaving, left_at_end, right_at_end, same_leaving}
use Rattle.ring_faces.proofs.PartLemmas.{IsOnePart, IsOnce, held_or_not, joined_back, not_twice, once_rest}
use Rattle.ring_faces.proofs.CycleLemmas.{Follows, Runs, IsCycle, at_quarter, begins_at, cycle_round, four_turns, leaving_between, one_for_part, runs_joined, turned_by}
use Rattle.ring_faces.proofs.SimpleLemmas.{same_edges}
use Rattle.ring_faces.proofs.MemberLemmas.{none_in, once_join, pairs_cons, pairs_nil}
use Rattle.ring_faces.proofs.TurnLemmas.{IsFrom}
use Rattle.ring_faces.proofs.StartLemmas.{AllFrom}

-- the edge that follows

pub record HasFollower (test : Place → Bool) (e : Edge) : Type 0 where
  pub next : Edge
  pub border : IsBorder test next
  pub follows : Follows test e next

leaving_border : (test : Place → Bool) (p : Corner) (k : Quarter) → (l : Leaving p k) → at_quarter test p k ≡ true
    → at_quarter test p (turn k) ≡ false → IsBorder test l.edge
leaving_border test p k l within out = record { unit = l.unit; left = ap (in_set test) l.left ∙ within; right = ap (in_set test) l.right ∙ out }

-- where the quarter is the only one between the set and the rest
lone_follower : (test : Place → Bool) (e : Edge) (k : Quarter) → at_quarter test e.1 k ≡ true → at_quarter test e.1 (turn k) ≡ false
    → ((m : Quarter) → at_quarter test e.1 m ≡ true → at_quarter test e.1 (turn m) ≡ false → m ≡ k) → HasFollower test e
lone_follower test e k within out lone =
    let l = leaving_between test e.1 k (λ same. false≢true (sym out ∙ sym same ∙ within)) in
    let border = leaving_border test e.1 k l within out in
    record {
      next = l.edge;
      border = border;
      follows = record {
        begins = l.start;
        paired = λ g border_g start other.
            let at = begins_at test e.1 g border_g (start ∙ l.start) in
            absurd (other (same_leaving g l.edge border_g.unit l.unit start (lone (quarter g) at.in_left at.in_right ∙ sym l.quarter)));
      };
    }

pub follower : (test : Place → Bool) (e : Edge) → IsBorder test e → HasFollower test e
follower test e border =
    let p = e.1 in
    let k = turn (turn (quarter e)) in
    let right : right_spot e ≡ spot_at p k = right_at_end e border.unit in
    let out : at_quarter test p k ≡ false = ap (in_set test) (sym right) ∙ border.right in
    let within : at_quarter test p (turn k) ≡ true = ap (in_set test) (sym (left_at_end e border.unit)) ∙ border.left in
    elim (cases_Bool (at_quarter test p (turn (turn (turn k))))) [
      | inl third ↦
          let last : at_quarter test p (turn (turn (turn (turn k)))) ≡ false = ap (at_quarter test p) (four_turns k) ∙ out in
          let l = leaving_between test p (turn (turn (turn k))) (λ same. false≢true (sym last ∙ sym same ∙ third)) in
          record {
            next = l.edge;
            border = leaving_border test p (turn (turn (turn k))) l third last;
            follows = record { begins = l.start; paired = λ g border_g start other. l.right ∙ ap (spot_at p) (four_turns k) ∙ sym right };
          }
      | inr not_third ↦ elim (cases_Bool (at_quarter test p (turn (turn k)))) [
        | inl second ↦ lone_follower test e (turn (turn k)) second not_third (λ m in_m out_m. elim (turned_by k m) [
          | inl zeroth ↦ absurd (false≢true (sym out ∙ ap (at_quarter test p) (sym zeroth) ∙ in_m))
          | inr (inl first) ↦ absurd (false≢true (sym out_m ∙ ap (λ (j : Quarter). at_quarter test p (turn j)) first ∙ second))
          | inr (inr (inl is)) ↦ is
          | inr (inr (inr last)) ↦ absurd (false≢true (sym not_third ∙ ap (at_quarter test p) (sym last) ∙ in_m))
        ])
        | inr not_second ↦ lone_follower test e (turn k) within not_second (λ m in_m out_m. elim (turned_by k m) [
          | inl zeroth ↦ absurd (false≢true (sym out ∙ ap (at_quarter test p) (sym zeroth) ∙ in_m))
          | inr (inl is) ↦ is
          | inr (inr (inl twice)) ↦ absurd (false≢true (sym not_second ∙ ap (at_quarter test p) (sym twice) ∙ in_m))
          | inr (inr (inr last)) ↦ absurd (false≢true (sym not_third ∙ ap (at_quarter test p) (sym last) ∙ in_m))
        ])
      ]
    ]

-- walking on

runs_push : (test : Place → Bool) (x : Edge) (xs : List Edge) (z w : Edge) → Runs test x xs z → Follows test z w → Runs test x (xs ++ z ∷ []) w
runs_push test x [] z w runs follows = (runs, follows)
runs_push test x (y ∷ ys) z w runs follows = (runs.0, runs_push test y ys z w runs.1 follows)

-- a run from one of its edges on: from the first, or from a later one
record RunFrom (test : Place → Bool) (xs : List Edge) (z end : Edge) : Type 0 where
  rest : List Edge
  runs : Runs test z rest end
  once : IsOnce (z ∷ rest)
  inside : (e : Edge) → Contains (z ∷ rest) e → Contains xs e

run_from : (test : Place → Bool) (x : Edge) (xs : List Edge) (z end : Edge) → Runs test x xs end → IsOnce (x ∷ xs) → Contains xs z → RunFrom test xs z end
run_from test x [] z end runs once member = absurd (none_in z member)
run_from test x (y ∷ ys) z end runs once member = elim (contains_cases y ys z member) [
  | inl here ↦ subst (λ (u : Edge). RunFrom test (y ∷ ys) u end) here
      (record { rest = ys; runs = runs.1; once = once_rest x (y ∷ ys) once; inside = λ e has. has })
  | inr there ↦
      let found = run_from test y ys z end runs.1 (once_rest x (y ∷ ys) once) there in
      record { rest = found.rest; runs = found.runs; once = found.once; inside = λ e has. contains_there y ys e (found.inside e has) }
]

-- a list that holds all boundary edges
abbrev pub HoldsBorders : (Place → Bool) → List Edge → Type 0
HoldsBorders test all = (e : Edge) → IsBorder test e → Contains all e

pub record CycleAt (test : Place → Bool) (x : Edge) : Type 0 where
  pub others : List Edge
  pub cycle : IsCycle test x others

closes : (test : Place → Bool) → IsOnePart test → (x : Edge) (xs : List Edge) (z : Edge) → Runs test x xs z → IsOnce (x ∷ xs)
    → ((e : Edge) → Contains (x ∷ xs) e → IsBorder test e) → Contains (x ∷ xs) z → CycleAt test x
closes test one x xs z runs once borders member = elim (contains_cases x xs z member) [
  | inl here ↦ record { others = xs; cycle = record { borders = borders; once = once; runs = subst (λ (e : Edge). Runs test x xs e) (sym here) runs } }
  | inr there ↦
      let found = run_from test x xs z z runs once there in
      let cycle : IsCycle test z found.rest = record {
        borders = λ e has. borders e
            (contains_there x xs e (found.inside e has));
        once = found.once;
        runs = found.runs;
      } in
      let joined = joined_back test false (right_spot x) (right_spot z) (runs_joined test x xs z runs borders z member) in
      let on_cycle = one_for_part test one (z ∷ found.rest) (cycle_round test z found.rest cycle) found.once z x (contains_here z found.rest)
      (borders x (contains_here x xs)) joined in
      absurd (not_twice x xs once (found.inside x on_cycle))
]

walk : (test : Place → Bool) → IsOnePart test → (all : List Edge) → HoldsBorders test all → (n : ℕ) (x : Edge) (xs : List Edge) (z : Edge)
    → Runs test x xs z → IsOnce (x ∷ xs) → ((e : Edge) → Contains (x ∷ xs) e → IsBorder test e) → IsBorder test z → length all ≤ n + length (x ∷ xs)
    → CycleAt test x
walk test one all holds zero x xs z runs once borders border_z long = elim (held_or_not (x ∷ xs) z) [
  | inl is ↦ closes test one x xs z runs once borders is
  | inr none ↦
      let more = once_join (x ∷ xs) (z ∷ []) once (pairs_cons (λ a b. a ≢ b) z [] (λ y member. absurd (none_in y member)) (pairs_nil (λ a b. a ≢ b)))
      (λ e has last. elim (contains_cases z [] e last) [
        | inl here ↦ none
            (subst (λ (f : Edge). Contains (x ∷ xs) f) (sym here) has)
        | inr there ↦ none_in e there
      ]) in
      let short = no_longer ((x ∷ xs) ++ z ∷ []) all more (λ e member. elim (Contains-append_cases (x ∷ xs) (z ∷ []) e member) [
        | inl old ↦ holds e (borders e old)
        | inr last ↦ elim (contains_cases z [] e last) [
          | inl here ↦ holds e
              (subst (λ (f : Edge). IsBorder test f) here border_z)
          | inr there ↦ absurd (none_in e there)
        ]
      ]) in
      absurd (omega (arith, short, long, length-append (x ∷ xs) (z ∷ [])))
]
walk test one all holds (suc n) x xs z runs once borders border_z long = elim (held_or_not (x ∷ xs) z) [
  | inl is ↦ closes test one x xs z runs once borders is
  | inr none ↦
      let more = once_join (x ∷ xs) (z ∷ []) once (pairs_cons (λ a b. a ≢ b) z [] (λ y member. absurd (none_in y member)) (pairs_nil (λ a b. a ≢ b)))
      (λ e has last. elim (contains_cases z [] e last) [
        | inl here ↦ none
            (subst (λ (f : Edge). Contains (x ∷ xs) f) (sym here) has)
        | inr there ↦ none_in e there
      ]) in
      let next = follower test z border_z in
      walk test one all holds n x (xs ++ z ∷ []) next.next (runs_push test x xs z next.next runs next.follows) more
      (λ e member. elim (Contains-append_cases (x ∷ xs) (z ∷ []) e member) [
        | inl old ↦ borders e old
        | inr last ↦ elim (contains_cases z [] e last) [ inl here ↦ subst (λ (f : Edge). IsBorder test f) here border_z | inr there ↦ absurd (none_in e there) ]
      ])
      next.border (omega (arith, long, length-append (x ∷ xs) (z ∷ [])))
]

-- each boundary edge begins a cycle
pub cycle_from : (test : Place → Bool) → IsOnePart test → (all : List Edge) → HoldsBorders test all → (x : Edge) → IsBorder test x → CycleAt test x
cycle_from test one all holds x border =
    let next = follower test x border in
    walk test one all holds (length all) x [] next.next next.follows
    (pairs_cons (λ a b. a ≢ b) x [] (λ y member. absurd (none_in y member)) (pairs_nil (λ a b. a ≢ b)))
    (λ e member. elim (contains_cases x [] e member) [
      | inl here ↦ subst (λ (f : Edge). IsBorder test f) here border
      | inr there ↦ absurd
          (none_in e there)
    ]) next.border (omega arith)

-- from its least corner

pub from_total : (p q : Corner) → IsFrom p q ⊎ IsFrom q p
from_total p q = elim (cases_lt p.0 q.0) [
  | inl less ↦ inl (inl less)
  | inr past ↦ elim (cases_lt q.0 p.0) [
    | inl less ↦ inr (inl less)
    | inr same ↦ elim (cases_lt q.1 p.1) [ inl before ↦ inr (inr (omega arith, omega arith)) | inr after ↦ inl (inr (omega arith, after)) ]
  ]
]

from_trans : (p q r : Corner) → IsFrom p q → IsFrom q r → IsFrom p r
from_trans p q r (inl one) (inl two) = inl (omega arith)
from_trans p q r (inl one) (inr two) = inl (omega arith)
from_trans p q r (inr one) (inl two) = inl (omega arith)
from_trans p q r (inr one) (inr two) = inr (omega arith, omega arith)

least_of : (x : Edge) (xs : List Edge) → (m : Edge) × Contains (x ∷ xs) m × AllFrom m.0 (x ∷ xs)
least_of x [] = (
  x,
  contains_here x [],
  λ e member. elim
      (contains_cases x [] e member) [
        | inl here ↦ inr
            (ap (λ (f : Edge). f.0.0) here, omega (arith, ap (λ (f : Edge). f.0.1) here))
        | inr there ↦ absurd (none_in e there)
      ],
)
least_of x (y ∷ ys) =
    let found = least_of y ys in
    elim (from_total x.0 found.0.0) [
      | inl first ↦ (
        x,
        contains_here x (y ∷ ys),
        λ e member. elim (contains_cases x (y ∷ ys) e member) [
          | inl here ↦ inr (ap (λ (f : Edge). f.0.0) here, omega (arith, ap (λ (f : Edge). f.0.1) here))
          | inr there ↦ from_trans x.0 found.0.0 e.0 first (found.2 e there)
        ],
      )
      | inr later ↦ (
        found.0,
        contains_there x (y ∷ ys) found.0 found.1,
        λ e member. elim (contains_cases x (y ∷ ys) e member) [
          | inl here ↦ subst (λ (f : Edge). IsFrom found.0.0 f.0) here later
          | inr there ↦ found.2 e there
        ],
      )
    ]

pub record LeastCycle (test : Place → Bool) (e : Edge) : Type 0 where
  pub first : Edge
  pub others : List Edge
  pub cycle : IsCycle test first others
  pub has : Contains (first ∷ others) e
  pub from : AllFrom first.0 (first ∷ others)

pub least_cycle : (test : Place → Bool) → IsOnePart test → (all : List Edge) → HoldsBorders test all → (e : Edge) → IsBorder test e → LeastCycle test e
least_cycle test one all holds e border =
    let found = cycle_from test one all holds e border in
    let least = least_of e found.others in
    let m = least.0 in
    let again = cycle_from test one all holds m (found.cycle.borders m least.1) in
    record {
      first = m;
      others = again.others;
      cycle = again.cycle;
      has = same_edges test one e found.others m again.others found.cycle again.cycle m least.1 (contains_here m again.others) e (contains_here e found.others);
      from = λ f member. least.2 f (same_edges test one m again.others e found.others again.cycle found.cycle m
          (contains_here m again.others) least.1 f member);
    }
