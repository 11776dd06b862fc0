-- Walking links through numbers, each marked, until they lead back.
use Rattle.std.proofs.Common.{◌≡◌, ◌≢◌, ℕ, zero, suc, ◌+◌, ◌-◌, ◌<◌, ◌≤◌, ◌⊎◌, inl, inr, Bool, true, false, List, [], ◌∷◌, ◌++◌, length, get_or, get_or-set_same, get_or-set_other, set, refl, sym, ap, ◌∙◌, subst, arith}
use Rattle.std.specs.Prelude.{AllPairs, Contains, slice_index, slice_index_or}
use Rattle.std.proofs.Math.ListN.{length-set}
use Rattle.std.proofs.lemmas.Bool.{cases_eq, cases_lt, false≢true, false_from_ne_true}
use Rattle.std.proofs.lemmas.Grind.{flat_map-append}
use Rattle.std.proofs.lemmas.List.{append-nil, get_or_default}
use Rattle.std.proofs.lemmas.List.Quantifiers.{all_pairs_push}
use Rattle.std.proofs.lemmas.List.Elements.{Contains-append_cases, Contains-append_left, Contains-append_right, Contains-push_cases}
use Rattle.cell_base.proofs.ListDeciders.{contains_cases}
use Rattle.region_label.proofs.FillLemmas.{distinct_below}
use Rattle.ring_faces.specs.declared.cycles.Cycle.{Cycle}
use Rattle.ring_faces.specs.Inner.Cycles.{AreAllCycles, AreFound, AreLinks, AreMarks, IsFree, IsMarked, IsRound, MarksThese, all_numbers, number_after, numbers_from, numbers_of}
use Rattle.ring_faces.proofs.MemberLemmas.{none_in, once_join, pairs_cons, pairs_nil}

-- one link more

after_push : (next : List ℕ) (n i : ℕ) → number_after next (suc n) i ≡ slice_index next (number_after next n i)
after_push next zero i = refl
after_push next (suc n) i = after_push next n (slice_index next i)

pub numbers_push : (next : List ℕ) (n i : ℕ) → numbers_from next (suc n) i ≡ numbers_from next n i ++ number_after next n i ∷ []
numbers_push next zero i = refl
numbers_push next (suc n) i = ap (λ (is : List ℕ). i ∷ is) (numbers_push next n (slice_index next i))

numbers_length : (next : List ℕ) (n i : ℕ) → length (numbers_from next n i) ≡ n
numbers_length next zero i = refl
numbers_length next (suc n) i = ap suc (numbers_length next n (slice_index next i))

number_at : (next : List ℕ) (n i m d : ℕ) → m < n → get_or (numbers_from next n i) m d ≡ number_after next m i
number_at next zero i m d within = absurd (omega arith)
number_at next (suc n) i zero d within = refl
number_at next (suc n) i (suc m) d within = number_at next n (slice_index next i) m d (omega arith)

pub in_numbers : (next : List ℕ) (n i m : ℕ) → m < n → Contains (numbers_from next n i) (number_after next m i)
in_numbers next n i m within = (m, omega (arith, numbers_length next n i), number_at next n i m _ within)

pub of_numbers : (next : List ℕ) (n i j : ℕ) → Contains (numbers_from next n i) j → (m : ℕ) × (m < n) × (number_after next m i ≡ j)
of_numbers next n i j member =
    let within : member.0 < n = omega (arith, member.1, numbers_length next n i) in
    (member.0, within, sym (number_at next n i member.0 j within) ∙ member.2)

-- a walk so far: from the first number to the one at hand
pub record IsUnderWay (next : List ℕ) (old marks : List Bool) (first count at : ℕ) : Type 0 where
  pub leads : number_after next count first ≡ at
  pub within : at < length next
  pub fresh : IsFree old at
  pub once : AllPairs (λ i j. i ≢ j) (numbers_from next count first)
  pub below : (i : ℕ) → Contains (numbers_from next count first) i → i < length next
  pub marking : MarksThese (numbers_from next count first) old marks

pub under_way_begin : (next : List ℕ) (marks : List Bool) (first : ℕ) → first < length next → IsFree marks first
    → IsUnderWay next marks marks first 0 first
under_way_begin next marks first within free = record {
  leads = refl;
  within = within;
  fresh = free;
  once = pairs_nil (λ i j. i ≢ j);
  below = λ i member. absurd (none_in i member);
  marking = record {
    sized = refl;
    fresh = λ i member. absurd (none_in i member);
    marked = λ i member. absurd (none_in i member);
    kept = λ i is. is;
    only = λ i is. inl is;
  };
}

-- no number of the walk is free
not_on_walk : (next : List ℕ) (old marks : List Bool) (first count at : ℕ) → IsUnderWay next old marks first count at → IsFree marks at
    → ¬ Contains (numbers_from next count first) at
not_on_walk next old marks first count at way free member = false≢true (sym free ∙ way.marking.marked at member)

-- one number more

once_push : (next : List ℕ) (old marks : List Bool) (first count at : ℕ) → IsUnderWay next old marks first count at → IsFree marks at
    → AllPairs (λ i j. i ≢ j) (numbers_from next (suc count) first)
once_push next old marks first count at way free =
    let new = not_on_walk next old marks first count at way free in
    let joined = once_join (numbers_from next count first) (at ∷ []) way.once
    (pairs_cons (λ i j. i ≢ j) at [] (λ i member. absurd (none_in i member)) (pairs_nil (λ i j. i ≢ j)))
    (λ i on last. elim (contains_cases at [] i last) [
      | inl here ↦ new
          (subst (λ (j : ℕ). Contains (numbers_from next count first) j) (sym here) on)
      | inr none ↦ none_in i none
    ]) in
    subst (λ (is : List ℕ). AllPairs (λ i j. i ≢ j) is) (sym (pushed next count first at way.leads)) joined
  where
    pushed : (next : List ℕ) (count first at : ℕ) → number_after next count first ≡ at
        → numbers_from next (suc count) first ≡ numbers_from next count first ++ at ∷ []
    pushed next count first at leads = numbers_push next count first ∙ ap (λ (i : ℕ). numbers_from next count first ++ i ∷ []) leads

push_cases : (next : List ℕ) (count first at i : ℕ) → number_after next count first ≡ at → Contains (numbers_from next (suc count) first) i
    → Contains (numbers_from next count first) i ⊎ (i ≡ at)
push_cases next count first at i leads member =
    let found = of_numbers next (suc count) first i member in
    elim (cases_lt found.0 count) [
      | inl before ↦ inl (subst (λ (j : ℕ). Contains (numbers_from next count first) j) found.2 (in_numbers next count first found.0 before))
      | inr last ↦ inr (sym found.2 ∙ ap (λ (m : ℕ). number_after next m first) (ends found.0 count found.1 last) ∙ leads)
    ]
  where
    ends : (m n : ℕ) → m < suc n → n ≤ m → m ≡ n
    ends m n within past = omega arith

push_old : (next : List ℕ) (count first i : ℕ) → Contains (numbers_from next count first) i → Contains (numbers_from next (suc count) first) i
push_old next count first i member =
    let found = of_numbers next count first i member in
    subst (λ (j : ℕ). Contains (numbers_from next (suc count) first) j) found.2 (in_numbers next (suc count) first found.0 (omega (arith, found.1)))

push_last : (next : List ℕ) (count first at : ℕ) → number_after next count first ≡ at → Contains (numbers_from next (suc count) first) at
push_last next count first at leads = subst (λ (j : ℕ). Contains (numbers_from next (suc count) first) j) leads
    (in_numbers next (suc count) first count (omega arith))

below_push : (next : List ℕ) (old marks : List Bool) (first count at : ℕ) → IsUnderWay next old marks first count at → (i : ℕ)
    → Contains (numbers_from next (suc count) first) i → i < length next
below_push next old marks first count at way i member = elim (push_cases next count first at i way.leads member) [
  | inl before ↦ way.below i before
  | inr last ↦ omega (arith, way.within, last)
]

-- so many numbers are fewer than there are
pub under_way_short : (next : List ℕ) (old marks : List Bool) (first count at : ℕ) → IsUnderWay next old marks first count at → IsFree marks at
    → count < length next
under_way_short next old marks first count at way free = omega (
  arith,
  numbers_length next (suc count) first,
  distinct_below (numbers_from next (suc count) first) (length next)
      (once_push next old marks first count at way free) (below_push next old marks first count at way),
)

marked_set : (marks : List Bool) (at i : ℕ) → at < length marks → IsMarked marks i ⊎ (i ≡ at) → IsMarked (set marks at true) i
marked_set marks at i within (inr same) = ap (λ (j : ℕ). get_or (set marks at true) j false) same ∙ get_or-set_same marks at true false within
marked_set marks at i within (inl is) = elim (cases_eq i at) [
  | inl same ↦ ap (λ (j : ℕ). get_or (set marks at true) j false) same ∙ get_or-set_same marks at true false within
  | inr other ↦ get_or-set_other marks at i true false other ∙ is
]

set_marked : (marks : List Bool) (at i : ℕ) → IsMarked (set marks at true) i → IsMarked marks i ⊎ (i ≡ at)
set_marked marks at i is = elim (cases_eq i at) [
  | inl same ↦ inr same
  | inr other ↦ inl (sym (get_or-set_other marks at i true false other) ∙ is)
]

pub under_way_on : (next : List ℕ) (old marks : List Bool) (first count at : ℕ) → AreLinks next → AreMarks next old
    → IsUnderWay next old marks first count at → IsFree marks at → IsUnderWay next old (set marks at true) first (count + 1) (slice_index next at)
under_way_on next old marks first count at links closed way free =
    let more : count + 1 ≡ suc count = omega arith in
    let in_marks : at < length marks = omega (arith, way.within, way.marking.sized, closed.sized) in
    subst (λ (n : ℕ). IsUnderWay next old (set marks at true) first n (slice_index next at)) (sym more) (record {
      leads = after_push next count first ∙ ap (slice_index next) way.leads;
      within = links.below at way.within;
      fresh = false_from_ne_true _ (λ marked. false≢true (sym way.fresh ∙ closed.back at way.within marked));
      once = once_push next old marks first count at way free;
      below = below_push next old marks first count at way;
      marking = record {
        sized = length-set marks at true ∙ way.marking.sized;
        fresh = λ i member. elim (push_cases next count first at i way.leads member) [
          | inl before ↦ way.marking.fresh i before
          | inr last ↦ ap (λ (j : ℕ). slice_index_or old j false) last ∙ way.fresh
        ];
        marked = λ i member. elim (push_cases next count first at i way.leads member) [
          | inl before ↦ marked_set marks at i in_marks (inl (way.marking.marked i before))
          | inr last ↦ marked_set marks at i in_marks (inr last)
        ];
        kept = λ i is. marked_set marks at i in_marks (inl (way.marking.kept i is));
        only = λ i is. elim (set_marked marks at i is) [
          | inl before ↦ elim (way.marking.only i before) [ inl was ↦ inl was | inr on ↦ inr (push_old next count first i on) ]
          | inr last ↦ inr (subst (λ (j : ℕ). Contains (numbers_from next (suc count) first) j) (sym last) (push_last next count first at way.leads))
        ];
      };
    })

-- where the walk comes to a number of its own, it is the first, and the walk is a cycle

on_walk : (next : List ℕ) (old marks : List Bool) (first count at : ℕ) → IsUnderWay next old marks first count at → IsMarked marks at
    → (m : ℕ) × (m < count) × (number_after next m first ≡ at)
on_walk next old marks first count at way marked = elim (way.marking.only at marked) [
  | inl was ↦ absurd (false≢true (sym way.fresh ∙ was))
  | inr on ↦ of_numbers next count first at on
]

-- two numbers of a walk without repeats are the same only at one place
same_place : (next : List ℕ) (count first m n : ℕ) → AllPairs (λ i j. i ≢ j) (numbers_from next count first) → m < count → n < count
    → number_after next m first ≡ number_after next n first → ¬ (m < n)
same_place next count first m n once in_m in_n same less = once m n first less (omega (arith, numbers_length next count first))
    (number_at next count first m first in_m ∙ same ∙ sym (number_at next count first n first in_n))

closes : (next : List ℕ) (old marks : List Bool) (first count at : ℕ) → AreLinks next → IsUnderWay next old marks first count at → (m : ℕ)
    → m < count → number_after next m first ≡ at → at ≡ first
closes next old marks first count at links way zero within is = sym is
closes next old marks first zero at links way (suc k) within is = absurd (omega arith)
closes next old marks first (suc n) at links way (suc k) within is =
    let from_k : slice_index next (number_after next k first) ≡ at = sym (after_push next k first) ∙ is in
    let from_n : slice_index next (number_after next n first) ≡ at = sym (after_push next n first) ∙ way.leads in
    let in_k : k < suc n = omega arith in
    let in_n : n < suc n = omega arith in
    let same = links.apart (number_after next k first) (number_after next n first) (way.below _ (in_numbers next (suc n) first k in_k))
    (way.below _ (in_numbers next (suc n) first n in_n)) (from_k ∙ sym from_n) in
    absurd (same_place next (suc n) first k n way.once in_k in_n same (omega arith))

pub under_way_round : (next : List ℕ) (old marks : List Bool) (first count at : ℕ) → AreLinks next → IsUnderWay next old marks first count at
    → IsMarked marks at → IsRound next (record { first = first; edges = count })
under_way_round next old marks first count at links way marked =
    let found = on_walk next old marks first count at way marked in
    record {
      some = omega (arith, found.1);
      ends = way.leads ∙ closes next old marks first count at links way found.0 found.1 found.2;
      once = way.once;
      below = way.below;
    }

-- what leads to a number of a cycle is on the cycle
came_from : (next : List ℕ) (cycle : Cycle) → AreLinks next → IsRound next cycle → (i : ℕ) → i < length next
    → Contains (numbers_of next cycle) (slice_index next i) → Contains (numbers_of next cycle) i
came_from next cycle links round i within member =
    let found = of_numbers next cycle.edges cycle.first (slice_index next i) member in
    by found.0 found.1 found.2
  where
    whole : (n : ℕ) → 0 < n → suc (n - 1) ≡ n
    whole n some = omega arith

    on : (m : ℕ) → m < cycle.edges → slice_index next (number_after next m cycle.first) ≡ slice_index next i → Contains (numbers_of next cycle) i
    on m less same =
        let has = in_numbers next cycle.edges cycle.first m less in
        subst (λ (j : ℕ). Contains (numbers_of next cycle) j) (links.apart _ i (round.below _ has) within same) has

    by : (m : ℕ) → m < cycle.edges → number_after next m cycle.first ≡ slice_index next i → Contains (numbers_of next cycle) i
    by zero less is =
        let last : cycle.edges - 1 < cycle.edges = omega (arith, round.some) in
        on (cycle.edges - 1) last (sym (after_push next (cycle.edges - 1) cycle.first)
        ∙ ap (λ (n : ℕ). number_after next n cycle.first) (whole cycle.edges round.some) ∙ round.ends ∙ is)
    by (suc m) less is = on m (omega arith) (sym (after_push next m cycle.first) ∙ is)

-- the marks after a cycle
pub marks_after : (next : List ℕ) (old new : List Bool) (cycle : Cycle) → AreLinks next → AreMarks next old → IsRound next cycle
    → MarksThese (numbers_of next cycle) old new → AreMarks next new
marks_after next old new cycle links closed round marks = record {
  sized = marks.sized ∙ closed.sized;
  back = λ i within marked. elim (marks.only (slice_index next i) marked) [
    | inl was ↦ marks.kept i (closed.back i within was)
    | inr on ↦ marks.marked i (came_from next cycle links round i within on)
  ];
}

-- all cycles, found one after another

below_next : (marks : List Bool) (n i : ℕ) → i < n + 1 → ((j : ℕ) → j < n → IsMarked marks j) → IsMarked marks n → IsMarked marks i
below_next marks n i less below here = elim (cases_lt i n) [
  | inl before ↦ below i before
  | inr past ↦ subst (λ (j : ℕ). IsMarked marks j) (is n i less past) here
]
  where
    is : (n i : ℕ) → i < n + 1 → n ≤ i → n ≡ i
    is n i less past = omega arith

-- a number of a cycle that was found is passed over
pub found_pass : (next : List ℕ) (cycles : List Cycle) (marks : List Bool) (n : ℕ) → AreFound next cycles marks n → IsMarked marks n
    → AreFound next cycles marks (n + 1)
found_pass next cycles marks n found here = record {
  closed = found.closed;
  are = found.are;
  below = λ i less. below_next marks n i less found.below here;
  firsts = λ cycle member. omega (arith, found.firsts cycle member);
  held = found.held;
  marked = found.marked;
}

numbers_more : (next : List ℕ) (cycles : List Cycle) (cycle : Cycle)
    → all_numbers next (cycles ++ cycle ∷ []) ≡ all_numbers next cycles ++ numbers_of next cycle
numbers_more next cycles cycle = flat_map-append (numbers_of next) cycles (cycle ∷ [])
    ∙ ap (λ (is : List ℕ). all_numbers next cycles ++ is) (append-nil (numbers_of next cycle))

pub found_more : (next : List ℕ) (cycles : List Cycle) (old new : List Bool) (n : ℕ) (cycle : Cycle) → AreLinks next → AreFound next cycles old n
    → cycle.first ≡ n → IsRound next cycle → MarksThese (numbers_of next cycle) old new → AreFound next (cycles ++ cycle ∷ []) new (n + 1)
found_more next cycles old new n cycle links found first round marks =
    let all = numbers_more next cycles cycle in
    let first_on : Contains (numbers_of next cycle) n = subst (λ (i : ℕ). Contains (numbers_of next cycle) i) first
    (in_numbers next cycle.edges cycle.first 0 round.some) in
    let apart : (i : ℕ) → Contains (all_numbers next cycles) i
    → ¬ Contains (numbers_of next cycle) i = λ i old_on on. false≢true (sym (marks.fresh i on) ∙ found.marked i old_on) in
    record {
      closed = marks_after next old new cycle links found.closed round marks;
      are = record {
        round = λ c member. elim (Contains-push_cases cycles cycle c member) [
          | inl before ↦ found.are.round c before
          | inr is ↦ subst
              (λ (d : Cycle). IsRound next d) is round
        ];
        least = λ c member. elim (Contains-push_cases cycles cycle c member) [
          | inl before ↦ found.are.least c before
          | inr is ↦ subst
              (λ (d : Cycle). (i : ℕ) → Contains (numbers_of next d) i
              → d.first ≤ i) is (λ i on. elim (cases_lt i n) [
                | inl less ↦ absurd
                    (false≢true (sym (marks.fresh i on) ∙ found.below i less))
                | inr past ↦ omega (arith, first, past)
              ])
        ];
        order = all_pairs_push (λ c d. c.first < d.first) cycles cycle found.are.order
            (λ k d within. omega (arith, first, found.firsts (get_or cycles k d) (contains_at cycles k d within)));
        once = subst (λ (is : List ℕ). AllPairs (λ i j. i ≢ j) is) (sym all)
            (once_join (all_numbers next cycles) (numbers_of next cycle) found.are.once round.once apart);
      };
      below = λ i less. below_next new n i less (λ j before. marks.kept j (found.below j before)) (marks.marked n first_on);
      firsts = λ c member. elim (Contains-push_cases cycles cycle c member) [
        | inl before ↦ omega (arith, found.firsts c before)
        | inr is ↦ omega
            (arith, first, ap (λ (d : Cycle). d.first) is)
      ];
      held = λ i marked. subst (λ (is : List ℕ). Contains is i) (sym all) (elim (marks.only i marked) [
        | inl was ↦ Contains-append_left (all_numbers next cycles) (numbers_of next cycle) i (found.held i was)
        | inr on ↦ Contains-append_right (all_numbers next cycles) (numbers_of next cycle) i on
      ]);
      marked = λ i member. elim (Contains-append_cases (all_numbers next cycles) (numbers_of next cycle) i
          (subst (λ (is : List ℕ). Contains is i) all member)) [
            | inl before ↦ marks.kept i (found.marked i before)
            | inr on ↦ marks.marked i on
          ];
    }
  where
    contains_at : (cycles : List Cycle) (k : ℕ) (d : Cycle) → k < length cycles → Contains cycles (get_or cycles k d)
    contains_at cycles k d within = (k, within, get_or_default cycles k (get_or cycles k d) d within)

pub found_all : (next : List ℕ) (cycles : List Cycle) (marks : List Bool) → AreFound next cycles marks (length next) → AreAllCycles next cycles
found_all next cycles marks found = record { are = found.are; all = λ i within. found.held i (found.below i within) }
