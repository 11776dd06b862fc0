use Rattle.std.proofs.Common.{◌≡◌, ◌≢◌, ◌↔◌, ℕ, ◌+◌, ◌<◌, ◌⊎◌, inl, inr, List, [], ◌∷◌, ◌++◌, Some, length, take, length-append, length-take, get_or, refl, ap, sym, ◌∙◌, subst, arith}
use Rattle.std.specs.Prelude.{Contains, slice_get}
use Rattle.std.proofs.lemmas.Bool.{cases_eq, cases_lt}
use Rattle.std.proofs.lemmas.List.{get_or_default}
use Rattle.std.proofs.lemmas.List.Elements.{Contains-append_left, Contains-push, Contains-push_cases}
use Rattle.std.proofs.lemmas.List.Quantifiers.{all_pairs_push}
use Rattle.std.proofs.lemmas.Option.{same_Some, slice_get-get_or, slice_get_within}
use Rattle.cell_base.specs.Raster.{Place}
use Rattle.cell_base.specs.Order.{IsBefore}
use Rattle.cell_base.proofs.OrderLemmas.{before_not_itself, before_trans}
use Rattle.region_label.specs.Count.{HasCount}
use Rattle.region_label.proofs.ListLemmas.{at_from_contains, contains_from_at, slice_get-take}

-- sets with the same members have the same count
pub count_same : {A : Type 0} (P Q : A → Type 0) (n : ℕ) → ((x : A) → P x ↔ Q x) → HasCount P n → HasCount Q n
count_same P Q n same count = (
  count.0,
  record {
    all = λ x. (λ member. (same x).0 ((count.1.all x).0 member), λ is. (count.1.all x).1 ((same x).1 is));
    once = count.1.once;
  },
  count.2,
)

pub count_none : {A : Type 0} (P : A → Type 0) → ((x : A) → ¬ P x) → HasCount P 0
count_none P none = (
  [],
  record {
    all = λ x. (λ member. absurd (omega (arith, member.1)), λ is. absurd (none x is));
    once = λ i j d less within. absurd (omega (arith, within));
  },
  refl,
)

-- one member more
pub count_more : (P Q : Place → Type 0) (n : ℕ) (y : Place) → HasCount P n → ¬ P y → Q y → ((x : Place) → P x → Q x) → ((x : Place) → Q x → P x ⊎ (x ≡ y)) → HasCount Q (n + 1)
count_more P Q n y count new is old only = (
  count.0 ++ y ∷ [],
  record {
    all = λ x. (
      λ member. elim (Contains-push_cases count.0 y x member) [
        | inl before ↦ old x ((count.1.all x).0 before)
        | inr same ↦ rw (← same) is
      ],
      λ has. elim (only x has) [
        | inl before ↦ Contains-append_left count.0 (y ∷ []) x ((count.1.all x).1 before)
        | inr same ↦ rw same (Contains-push count.0 y)
      ],
    );
    once = all_pairs_push (λ x z. x ≢ z) count.0 y count.1.once (λ k d within same.
        new (subst P same ((count.1.all (get_or count.0 k d)).0 (k, within, get_or_default count.0 k _ d within))));
  },
  omega (arith, length-append count.0 (y ∷ []), count.2),
)

same_at : {A : Type 0} (xs : List A) (i j : ℕ) (x y : A) → i ≡ j → slice_get xs i ≡ Some x → slice_get xs j ≡ Some y → x ≡ y
same_at xs i j x y same at_x at_y =
    same_Some x y (sym at_x ∙ ap (slice_get xs) same ∙ at_y)

-- in a list in order, those before the k-th stand in front of it
index_before : (firsts : List Place) → ((i j : ℕ) (a b : Place) → i < j → slice_get firsts i ≡ Some a → slice_get firsts j ≡ Some b → IsBefore a b) → (i k : ℕ) (a b : Place) → slice_get firsts i ≡ Some a → slice_get firsts k ≡ Some b → IsBefore a b → i < k
index_before firsts order i k a b at_a at_b before = elim (cases_lt i k) [
  | inl less ↦ less
  | inr past ↦ elim (cases_eq k i) [
    | inl same ↦ absurd (before_not_itself a (subst (λ (p : Place). IsBefore a p) (same_at firsts k i b a same at_b at_a) before))
    | inr other ↦ absurd (before_not_itself a (before_trans a b a before (order k i b a (omega arith) at_b at_a)))
  ]
]

-- in a list of a set in order, the index of a member is how many are before it
pub count_before : (set : Place → Type 0) (firsts : List Place) → ((i j : ℕ) (a b : Place) → i < j → slice_get firsts i ≡ Some a → slice_get firsts j ≡ Some b → IsBefore a b) → ((x : Place) → Contains firsts x ↔ set x) → (k : ℕ) (a : Place) → slice_get firsts k ≡ Some a → HasCount (λ x. set x × IsBefore x a) k
count_before set firsts order is k a at =
    let within = slice_get_within firsts k a at in
    let long : length (take k firsts) ≡ k = omega (arith, length-take k firsts) in
    let old_at : (i : ℕ) (x : Place) → slice_get (take k firsts) i ≡ Some x → slice_get firsts i ≡ Some x = λ i x at_x. sym (slice_get-take k firsts i (omega (arith, long, slice_get_within (take k firsts) i x at_x))) ∙ at_x in (
      take k firsts,
      record {
        all = λ x. (
          λ member.
              let at_x = at_from_contains (take k firsts) x member in
              let there = old_at at_x.0 x at_x.1 in
              ((is x).0 (contains_from_at firsts at_x.0 x there), order at_x.0 k x a (omega (arith, long, slice_get_within (take k firsts) at_x.0 x at_x.1)) there at),
          λ has.
              let found = at_from_contains firsts x ((is x).1 has.0) in
              contains_from_at (take k firsts) found.0 x (slice_get-take k firsts found.0 (index_before firsts order found.0 k x a found.1 at has.1) ∙ found.1),
        );
        once = λ i j d less within_j same.
            let at_i = old_at i _ (slice_get-get_or (take k firsts) i d (omega arith)) in
            let at_j = old_at j _ (slice_get-get_or (take k firsts) j d within_j) in
            before_not_itself _ (subst (λ (p : Place). IsBefore p (get_or (take k firsts) j d)) same (order i j _ _ less at_i at_j));
      },
      long,
    )
