-- The fill of one component after another.
use Rattle.std.proofs.Common.{◌≡◌, ℕ, ◌+◌, ◌<◌, ◌⊎◌, inl, inr, List, [], ◌∷◌, ◌++◌, Option, Some, None, length, length-append, replicate, set, refl, ap, sym, ◌∙◌, subst, arith}
use Rattle.std.specs.Prelude.{Contains, slice_get}
use Rattle.std.proofs.lemmas.Bool.{cases_eq, cases_lt}
use Rattle.std.proofs.lemmas.List.{get_or-replicate, length-replicate, length-set}
use Rattle.std.proofs.lemmas.Option.{get_or_from_slice_get, same_Some, slice_get_within}
use Rattle.cell_base.specs.Walk.{IsWalk}
use Rattle.region_label.specs.Inner.Lists.{AreFilled, AreSized, Fills, HasNone, IsCleared, IsFilling, IsFree, IsLinked, IsListed, IsNumbered, IsOf}
use Rattle.region_label.specs.declared.lists.RunLists.{RunLists}
use Rattle.region_label.proofs.ListLemmas.{contains_from_at, slice_get-push_last, slice_get-push_old, slice_get-set_other, slice_get-set_same}
use Rattle.region_label.proofs.ListsLemmas.{last_in}

pub free_and_numbered : (components : List (Option ℕ)) (i k : ℕ) → IsFree components i → IsOf components i k → ⊥
free_and_numbered components i k free is =
    let both : Some (Some k) ≡ Some None = sym is ∙ free in
    cc

pub same_component : (components : List (Option ℕ)) (i k m : ℕ) → IsOf components i k → IsOf components i m → k ≡ m
same_component components i k m is_k is_m = same_Some k m (same_Some (Some k) (Some m) (sym is_k ∙ is_m))

none_replicated : (n i : ℕ) (o : Option ℕ) → slice_get (replicate n None) i ≡ Some o → o ≡ None
none_replicated n i o at =
    let within : i < n = omega (arith, slice_get_within (replicate n None) i o at, length-replicate {A = Option ℕ} n None) in
    sym (get_or_from_slice_get (replicate n None) i o None at) ∙ get_or-replicate n i None None within

no_number : (n i k : ℕ) → IsOf (replicate n None) i k → ⊥
no_number n i k is =
    let none : Some k ≡ None = none_replicated n i (Some k) is in
    cc

-- nothing is filled yet
pub filled_none : (touch : ℕ → ℕ → Type 0) (runs : ℕ) (old new : RunLists) → AreSized runs old → IsCleared old new → AreFilled touch runs new 0
filled_none touch runs old new sized cleared =
    let same : length new.components.items ≡ runs = ap length cleared.components ∙ length-replicate (length old.components.items) None ∙ sized.components in
    let unnumbered : (i k : ℕ) → IsOf new.components.items i k → ⊥ = λ i k is. no_number (length old.components.items) i k (rw cleared.components at is) in
    record {
      sized = record {
        components = same;
        links = cleared.sized ∙ sized.links;
        firsts = ap (λ v. length v.items) cleared.firsts ∙ sized.firsts;
      };
      few = omega (arith, cleared.count);
      listed = λ k less. absurd (omega (arith, less, cleared.count));
      order = λ k m i j less within. absurd (omega (arith, within, cleared.count));
      before = λ k i less. absurd (omega (arith, less, cleared.count));
      done = λ i less. absurd (omega (arith, less));
      known = λ i k is. absurd (unnumbered i k is);
      closed = λ i j k is. absurd (unnumbered i k is);
      free = λ i free. cleared.links i (omega (arith, slice_get_within new.components.items i None free, same, cleared.sized, sized.links));
    }

-- the run is in a component already
pub filled_skip : (touch : ℕ → ℕ → Type 0) (runs : ℕ) (lists : RunLists) (at : ℕ) → AreFilled touch runs lists at → IsNumbered lists.components.items at → AreFilled touch runs lists (at + 1)
filled_skip touch runs lists at filled numbered = record {
  sized = filled.sized;
  few = omega (arith, filled.few);
  listed = filled.listed;
  order = filled.order;
  before = λ k i less is. omega (arith, filled.before k i less is);
  done = λ i less. elim (cases_eq i at) [
    | inl same ↦ subst (λ (j : ℕ). IsNumbered lists.components.items j) (sym same) numbered
    | inr other ↦ filled.done i (omega arith)
  ];
  known = filled.known;
  closed = filled.closed;
  free = filled.free;
}

pub linked_same : (old new list : List ℕ) (start last : ℕ) → ((i : ℕ) → Contains list i → slice_get new i ≡ slice_get old i) → IsLinked old list start last → IsLinked new list start last
linked_same old new list start last same linked = record {
  first = linked.first;
  once = linked.once;
  next = λ m i j at_i at_j. same i (contains_from_at list m i at_i) ∙ linked.next m i j at_i at_j;
  last_at = linked.last_at;
  ends = same last (last_in old list start last linked) ∙ linked.ends;
}

-- what a fill from a run leaves
record IsKept (old new : RunLists) (number : ℕ) (list : List ℕ) : Type 0 where
  numbered : (i k : ℕ) → IsOf old.components.items i k → IsOf new.components.items i k
  links : (i k : ℕ) → IsOf old.components.items i k → slice_get new.links.items i ≡ slice_get old.links.items i
  only : (i k : ℕ) → IsOf new.components.items i k → ((k ≡ number) × Contains list i) ⊎ IsOf old.components.items i k

is_kept : (touch : ℕ → ℕ → Type 0) (start number : ℕ) (old new : RunLists) (list : List ℕ) (last : ℕ) → IsFilling touch start number old.components.items new.components.items old.links.items new.links.items list last → IsKept old new number list
is_kept touch start number old new list last filling = record {
  numbered = λ i k is. elim (filling.kept i) [
    | inl member ↦ absurd (free_and_numbered old.components.items i k (filling.free i member) is)
    | inr same ↦ same.0 ∙ is
  ];
  links = λ i k is. elim (filling.kept i) [
    | inl member ↦ absurd (free_and_numbered old.components.items i k (filling.free i member) is)
    | inr same ↦ same.1
  ];
  only = λ i k is. elim (filling.kept i) [
    | inl member ↦ inl (same_component new.components.items i k number is (filling.numbered i member), member)
    | inr same ↦ inr (sym same.0 ∙ is)
  ];
}

-- the lists of the components before stay
listed_kept : (touch : ℕ → ℕ → Type 0) (old new : RunLists) (firsts : List ℕ) (number k at : ℕ) (grown : List ℕ) → IsKept old new number grown → k < number → firsts ≡ set old.firsts.items number at → (list : List ℕ) → IsListed touch old.components.items old.links.items old.firsts.items k list → IsListed touch new.components.items new.links.items firsts k list
listed_kept touch old new firsts number k at grown kept less same list listed = record {
  start = listed.start;
  last = listed.last;
  start_at = ap (λ (xs : List ℕ). slice_get xs k) same ∙ slice_get-set_other old.firsts.items number k at (λ is. omega (arith, is, less)) ∙ listed.start_at;
  linked = linked_same old.links.items new.links.items list listed.start listed.last (λ i member. kept.links i k (listed.numbered i member)) listed.linked;
  numbered = λ i member. kept.numbered i k (listed.numbered i member);
  all = λ i is. elim (kept.only i k is) [
    | inl new_one ↦ absurd (omega (arith, new_one.0, less))
    | inr was ↦ listed.all i was
  ];
  reached = listed.reached;
  least = listed.least;
}

-- the list of the new component
listed_new : (touch : ℕ → ℕ → Type 0) (runs : ℕ) (old new : RunLists) (firsts : List ℕ) (at : ℕ) (list : List ℕ) (last : ℕ) → AreFilled touch runs old at → IsFilling touch at old.count old.components.items new.components.items old.links.items new.links.items list last → IsKept old new old.count list → slice_get firsts old.count ≡ Some at → IsListed touch new.components.items new.links.items firsts old.count list
listed_new touch runs old new firsts at list last filled filling kept start_at = record {
  start = at;
  last = last;
  start_at = start_at;
  linked = filling.linked;
  numbered = filling.numbered;
  all = λ i is. elim (kept.only i old.count is) [
    | inl member ↦ member.1
    | inr was ↦ absurd (omega (arith, filled.known i old.count was))
  ];
  reached = filling.reached;
  least = λ i member. elim (cases_lt i at) [
    | inr past ↦ past
    | inl early ↦
        let had = filled.done i early in
        absurd (free_and_numbered old.components.items i had.0 (filling.free i member) had.1)
  ];
}

firsts_at : (firsts : List ℕ) (number at k i : ℕ) → number < length firsts → slice_get (set firsts number at) k ≡ Some i → ((k ≡ number) × (i ≡ at)) ⊎ (slice_get firsts k ≡ Some i)
firsts_at firsts number at k i within is = elim (cases_eq k number) [
  | inl same ↦ inl (same, same_Some i at (sym is ∙ ap (slice_get (set firsts number at)) same ∙ slice_get-set_same firsts number at within))
  | inr other ↦ inr (sym (slice_get-set_other firsts number k at other) ∙ is)
]

-- one component more
pub filled_more : (touch : ℕ → ℕ → Type 0) (runs : ℕ) (old begun new end : RunLists) (at : ℕ) → ((i j : ℕ) → touch i j → touch j i) → AreFilled touch runs old at → at < runs → begun.components ≡ old.components → begun.links ≡ old.links → begun.firsts.items ≡ set old.firsts.items old.count at → Fills touch at old.count begun new → end.components ≡ new.components → end.links ≡ new.links → end.firsts ≡ new.firsts → end.count ≡ old.count + 1 → AreFilled touch runs end (at + 1)
filled_more touch runs old begun new end at symmetric filled within same_components same_links firsts fills end_components end_links end_firsts count =
    let filling : IsFilling touch at old.count old.components.items end.components.items old.links.items end.links.items fills.list fills.last = rw (end_components, end_links, ← same_components, ← same_links) fills.filling in
    let kept : IsKept old end old.count fills.list = is_kept touch at old.count old end fills.list fills.last filling in
    let first_runs : end.firsts.items ≡ set old.firsts.items old.count at = ap (λ v. v.items) end_firsts ∙ ap (λ v. v.items) fills.firsts ∙ firsts in
    let room : old.count < length old.firsts.items = omega (arith, filled.few, filled.sized.firsts, within) in
    let starts : (k i : ℕ) → slice_get end.firsts.items k ≡ Some i → ((k ≡ old.count) × (i ≡ at)) ⊎ (slice_get old.firsts.items k ≡ Some i) = λ k i is. firsts_at old.firsts.items old.count at k i room (sym (ap (λ (xs : List ℕ). slice_get xs k) first_runs) ∙ is) in
    record {
      sized = record {
        components = ap (λ v. length v.items) end_components ∙ fills.components ∙ ap (λ v. length v.items) same_components ∙ filled.sized.components;
        links = ap (λ v. length v.items) end_links ∙ fills.links ∙ ap (λ v. length v.items) same_links ∙ filled.sized.links;
        firsts = ap length first_runs ∙ length-set old.firsts.items old.count at ∙ filled.sized.firsts;
      };
      few = omega (arith, filled.few, count);
      listed = λ k less. elim (cases_eq k old.count) [
        | inl same ↦
            let start_at : slice_get end.firsts.items old.count ≡ Some at = ap (λ (xs : List ℕ). slice_get xs old.count) first_runs ∙ slice_get-set_same old.firsts.items old.count at room in
            (fills.list, subst (λ (m : ℕ). IsListed touch end.components.items end.links.items end.firsts.items m fills.list) (sym same) (listed_new touch runs old end end.firsts.items at fills.list fills.last filled filling kept start_at))
        | inr other ↦
            let had = filled.listed k (omega (arith, less, count)) in
            (had.0, listed_kept touch old end end.firsts.items old.count k at fills.list kept (omega (arith, less, count)) first_runs had.0 had.1)
      ];
      order = λ k m i j less in_count at_k at_m. elim (starts k i at_k) [
        | inl last ↦ absurd (omega (arith, last.0, less, in_count, count))
        | inr old_k ↦ elim (starts m j at_m) [
          | inl last ↦ omega (arith, last.1, filled.before k i (omega (arith, last.0)) old_k)
          | inr old_m ↦ elim (cases_lt m old.count) [
            | inl below ↦ filled.order k m i j less below old_k old_m
            | inr past ↦
                let is_last : m ≡ old.count = omega (arith, in_count, count) in
                let is_at : j ≡ at = same_Some j at (sym at_m ∙ ap (slice_get end.firsts.items) is_last ∙ ap (λ (xs : List ℕ). slice_get xs old.count) first_runs ∙ slice_get-set_same old.firsts.items old.count at room) in
                omega (arith, is_at, filled.before k i (omega (arith, less, is_last)) old_k)
          ]
        ]
      ];
      before = λ k i less at_k. elim (cases_lt k old.count) [
        | inl below ↦ elim (starts k i at_k) [
          | inl last ↦ omega (arith, last.1)
          | inr old_k ↦ omega (arith, filled.before k i below old_k)
        ]
        | inr past ↦
            let is_last : k ≡ old.count = omega (arith, less, count) in
            let is_at : i ≡ at = same_Some i at (sym at_k ∙ ap (slice_get end.firsts.items) is_last ∙ ap (λ (xs : List ℕ). slice_get xs old.count) first_runs ∙ slice_get-set_same old.firsts.items old.count at room) in
            omega (arith, is_at)
      ];
      done = λ i less. elim (cases_eq i at) [
        | inl same ↦ (old.count, filling.numbered i (contains_from_at fills.list 0 i (filling.linked.first ∙ ap (λ (n : ℕ). Some n) (sym same))))
        | inr other ↦
            let had = filled.done i (omega arith) in
            (had.0, kept.numbered i had.0 had.1)
      ];
      known = λ i k is. elim (kept.only i k is) [
        | inl last ↦ omega (arith, last.0, count)
        | inr was ↦ omega (arith, filled.known i k was, count)
      ];
      closed = λ i j k is touches. elim (kept.only i k is) [
        | inl last ↦
            let found : IsNumbered end.components.items j = rw end_components (fills.closed i j last.1 touches) in
            elim (kept.only j found.0 found.1) [
              | inl too ↦ subst (λ (m : ℕ). IsOf end.components.items j m) (too.0 ∙ sym last.0) found.1
              | inr was ↦ absurd (free_and_numbered old.components.items i found.0 (filling.free i last.1) (filled.closed j i found.0 was (symmetric i j touches)))
            ]
        | inr was ↦ kept.numbered j k (filled.closed i j k was touches)
      ];
      free = λ i free. elim (filling.kept i) [
        | inl member ↦ absurd (free_and_numbered end.components.items i old.count free (filling.numbered i member))
        | inr same ↦ same.1 ∙ filled.free i (sym same.0 ∙ free)
      ];
    }

none_there : (components : List (Option ℕ)) → length components ≡ 0 → components ≡ replicate (length components) None
none_there [] none = refl
none_there (o ∷ os) none = absurd (omega (arith, none))

-- a fill that finds no component leaves no run unclear: there is none
pub filled_clear : (touch : ℕ → ℕ → Type 0) (runs : ℕ) (lists : RunLists) → AreFilled touch runs lists runs → lists.count ≡ 0 → HasNone lists
filled_clear touch runs lists filled none = elim (cases_lt 0 runs) [
  | inl some ↦
      let had = filled.done 0 some in
      absurd (omega (arith, filled.known 0 had.0 had.1, none))
  | inr past ↦ record {
    components = none_there lists.components.items (omega (arith, past, filled.sized.components));
    links = λ i less. absurd (omega (arith, less, past, filled.sized.links));
  }
]

walk_same : (touch other : ℕ → ℕ → Type 0) → ((i j : ℕ) → touch i j → other i j) → (i j : ℕ) (walk : List ℕ) → IsWalk touch i walk j → IsWalk other i walk j
walk_same touch other to i j [] walked = walked
walk_same touch other to i j (k ∷ ks) walked = (to i k walked.0, walk_same touch other to k j ks walked.1)

listed_same : (touch other : ℕ → ℕ → Type 0) → ((i j : ℕ) → touch i j → other i j) → (components : List (Option ℕ)) (links firsts : List ℕ) (k : ℕ) (list : List ℕ) → IsListed touch components links firsts k list → IsListed other components links firsts k list
listed_same touch other to components links firsts k list listed = record {
  start = listed.start;
  last = listed.last;
  start_at = listed.start_at;
  linked = listed.linked;
  numbered = listed.numbered;
  all = listed.all;
  reached = λ i member.
      let had = listed.reached i member in
      (had.0, walk_same touch other to listed.start i had.0 had.1);
  least = listed.least;
}

-- what is filled is so where the same touch
pub filled_same : (touch other : ℕ → ℕ → Type 0) (runs : ℕ) (lists : RunLists) (at : ℕ) → ((i j : ℕ) → touch i j → other i j) → ((i j : ℕ) → other i j → touch i j) → AreFilled touch runs lists at → AreFilled other runs lists at
filled_same touch other runs lists at to from filled = record {
  sized = filled.sized;
  few = filled.few;
  listed = λ k less.
      let had = filled.listed k less in
      (had.0, listed_same touch other to lists.components.items lists.links.items lists.firsts.items k had.0 had.1);
  order = filled.order;
  before = filled.before;
  done = filled.done;
  known = filled.known;
  closed = λ i j k is touches. filled.closed i j k is (from i j touches);
  free = filled.free;
}

-- links of runs to themselves, and one more
pub linked_more : (links : List ℕ) (run : ℕ) → length links ≡ run → ((i : ℕ) → i < length links → slice_get links i ≡ Some i) → (i : ℕ) → i < length (links ++ run ∷ []) → slice_get (links ++ run ∷ []) i ≡ Some i
linked_more links run is each i less = elim (cases_lt i (length links)) [
  | inl early ↦ slice_get-push_old links run i early ∙ each i early
  | inr late ↦
      let last : i ≡ length links = omega (arith, less, late, length-append links (run ∷ [])) in
      ap (slice_get (links ++ run ∷ [])) last ∙ slice_get-push_last links run ∙ ap (λ (n : ℕ). Some n) (sym is ∙ sym last)
]
