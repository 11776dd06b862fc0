-- The fill of one component.
use Rattle.std.proofs.Common.{◌≡◌, ◌≢◌, ℕ, ◌+◌, ◌<◌, ◌≤◌, inl, inr, List, [], ◌∷◌, ◌++◌, Option, Some, None, length, length-set, set, get_or, refl, ap, sym, ◌∙◌, subst, arith}
use Rattle.std.specs.Prelude.{AllPairs, Contains, slice_get}
use Rattle.std.specs.List.{range_with_len}
use Rattle.std.proofs.lemmas.Bool.{cases_eq, cases_lt}
use Rattle.std.proofs.lemmas.Grind.{common_steps}
use Rattle.std.proofs.lemmas.List.FromFn.{get_or-range_with_len, length-range_with_len}
use Rattle.std.proofs.lemmas.Option.{gets, same_Some, slice_get-get_or, slice_get_within}
use Rattle.region_label.specs.Inner.Lists.{Fills, IsFilling, IsFree, IsLinked, IsLinkedToItself, IsNumbered, Joins}
use Rattle.region_label.specs.declared.lists.RunLists.{RunLists}
use Rattle.region_label.proofs.ListLemmas.{at_from_contains, contains_from_at, slice_get-set_other, slice_get-set_same}
use Rattle.region_label.proofs.CountLaws.{no_longer}
use Rattle.region_label.proofs.ListsLemmas.{last_in, not_last}

-- a list of which so many runs have been looked at, and the next is this
pub record IsUnderWay (touch : ℕ → ℕ → Type 0) (start number : ℕ) (old new : RunLists) (last at done : ℕ) : Type 0 where
  pub list : List ℕ
  pub filling : IsFilling touch start number old.components.items new.components.items old.links.items new.links.items list last
  pub at_done : slice_get list done ≡ Some at
  pub closed : (m i j : ℕ) → m < done → slice_get list m ≡ Some i → touch i j → IsNumbered new.components.items j
  pub components : length new.components.items ≡ length old.components.items
  pub links : length new.links.items ≡ length old.links.items
  pub firsts : new.firsts ≡ old.firsts
  pub count : new.count ≡ old.count

pub only_start : (start i : ℕ) → Contains (start ∷ []) i → i ≡ start
only_start start i member =
    let first : member.0 ≡ 0 = omega (arith, member.1) in
    sym (member.2) ∙ ap (λ k. get_or (start ∷ []) k i) first

pub linked_first : (links : List ℕ) (start : ℕ) → slice_get links start ≡ Some start → IsLinked links (start ∷ []) start start
linked_first links start itself = record {
  first = refl;
  once = λ i j d less within. absurd (omega (arith, less, within));
  next = λ m i j at_i at_j. absurd (omega (arith, slice_get_within (start ∷ []) (m + 1) j at_j));
  last_at = λ m end.
      let first : m ≡ 0 = omega (arith, end) in
      ap (slice_get (start ∷ [])) first;
  ends = itself;
}

-- the first run alone
pub filling_first : (touch : ℕ → ℕ → Type 0) (start number : ℕ) (before : List (Option ℕ)) (links : List ℕ) → ((i : ℕ) → IsFree before i → slice_get links i ≡ Some i) → IsFree before start → IsFilling touch start number before (set before start (Some number)) links links (start ∷ []) start
filling_first touch start number before links free_links free =
    let within = slice_get_within before start None free in
    record {
      linked = linked_first links start (free_links start free);
      numbered = λ i member. ap (slice_get (set before start (Some number))) (only_start start i member) ∙ slice_get-set_same before start (Some number) within;
      free = λ i member. ap (slice_get before) (only_start start i member) ∙ free;
      reached = λ i member. ([], sym (only_start start i member));
      kept = λ i. elim (cases_eq i start) [
        | inl same ↦ inl (subst (λ (j : ℕ). Contains (start ∷ []) j) (sym same) (0, omega arith, refl))
        | inr other ↦ inr (slice_get-set_other before start i (Some number) other, refl)
      ];
    }

pub under_way_first : (touch : ℕ → ℕ → Type 0) (start number : ℕ) (old new : RunLists) → IsLinkedToItself old → IsFree old.components.items start → new.components.items ≡ set old.components.items start (Some number) → new.links ≡ old.links → new.firsts ≡ old.firsts → new.count ≡ old.count → IsUnderWay touch start number old new start start 0
under_way_first touch start number old new free_links free components links firsts count = record {
  list = start ∷ [];
  filling = rw (components, links) (filling_first touch start number old.components.items old.links.items free_links free);
  at_done = refl;
  closed = λ m i j less at touches. absurd (omega arith);
  components = ap length components ∙ length-set old.components.items start (Some number);
  links = ap (λ l. length l.items) links;
  firsts = firsts;
  count = count;
}

kept_append : (list more : List ℕ) (k i : ℕ) → slice_get list k ≡ Some i → slice_get (list ++ more) k ≡ Some i
kept_append list more k i at =
    let within = slice_get_within list k i at in
    let same : slice_get (list ++ more) k ≡ slice_get list k = grind (arith, common_steps, gets) in
    same ∙ at

-- the contacts of one more run have joined; another comes next
pub under_way_on : (touch : ℕ → ℕ → Type 0) (start number : ℕ) (old now new : RunLists) (last new_last at done next : ℕ) → IsLinkedToItself old → IsUnderWay touch start number old now last at done → Joins touch at number now new last new_last → ((j : ℕ) → touch at j → IsNumbered new.components.items j) → at ≢ new_last → slice_get new.links.items at ≡ Some next → IsUnderWay touch start number old new new_last next (done + 1)
under_way_on touch start number old now new last new_last at done next free_links way joins joined other link =
    let at_in = contains_from_at way.list done at way.at_done in
    let grown = joins.grows start old way.list free_links way.filling at_in in
    let list = way.list ++ grown.0 in
    let at_done : slice_get list done ≡ Some at = kept_append way.list grown.0 done at way.at_done in
    let within = slice_get_within list done at at_done in
    let further : done + 1 < length list = elim (cases_lt (done + 1) (length list)) [
      | inl less ↦ less
      | inr past ↦ absurd (other (same_Some at new_last (sym at_done ∙ grown.1.linked.last_at done (omega arith))))
    ] in
    let follows : slice_get list (done + 1) ≡ Some (get_or list (done + 1) 0) = slice_get-get_or list (done + 1) 0 further in
    let is_next : get_or list (done + 1) 0 ≡ next = same_Some (get_or list (done + 1) 0) next (sym (grown.1.linked.next done at (get_or list (done + 1) 0) at_done follows) ∙ link) in
    record {
      list = list;
      filling = grown.1;
      at_done = follows ∙ ap (λ (n : ℕ). Some n) is_next;
      closed = λ m i j less at_i touches. elim (cases_eq m done) [
        | inl same ↦
            let is : i ≡ at = same_Some i at (sym at_i ∙ ap (slice_get list) same ∙ at_done) in
            joined j (subst (λ (k : ℕ). touch k j) is touches)
        | inr before ↦
            let early : m < length way.list = omega (arith, slice_get_within way.list done at way.at_done) in
            let was : slice_get way.list m ≡ Some (get_or way.list m 0) = slice_get-get_or way.list m 0 early in
            let is : get_or way.list m 0 ≡ i = same_Some (get_or way.list m 0) i (sym (kept_append way.list grown.0 m (get_or way.list m 0) was) ∙ at_i) in
            let had = way.closed m i j (omega arith) (was ∙ ap (λ (n : ℕ). Some n) is) touches in
            (had.0, joins.kept j had.0 had.1)
      ];
      components = joins.components ∙ way.components;
      links = joins.links ∙ way.links;
      firsts = joins.firsts ∙ way.firsts;
      count = joins.count ∙ way.count;
    }

-- the last run has been looked at
pub under_way_end : (touch : ℕ → ℕ → Type 0) (start number : ℕ) (old now new : RunLists) (last at done : ℕ) → IsLinkedToItself old → IsUnderWay touch start number old now last at done → Joins touch at number now new last at → ((j : ℕ) → touch at j → IsNumbered new.components.items j) → Fills touch start number old new
under_way_end touch start number old now new last at done free_links way joins joined =
    let at_in = contains_from_at way.list done at way.at_done in
    let grown = joins.grows start old way.list free_links way.filling at_in in
    let list = way.list ++ grown.0 in
    let at_done : slice_get list done ≡ Some at = kept_append way.list grown.0 done at way.at_done in
    let ends : done + 1 ≡ length list = elim (cases_lt (done + 1) (length list)) [
      | inr past ↦ omega (arith, slice_get_within list done at at_done)
      | inl less ↦ absurd (not_last new.links.items list start at done at grown.1.linked at_done less refl)
    ] in
    record {
      list = list;
      last = at;
      filling = grown.1;
      closed = λ i j member touches.
          let found = at_from_contains list i member in
          let within = slice_get_within list found.0 i found.1 in
          elim (cases_eq found.0 done) [
            | inl same ↦
                let is : i ≡ at = same_Some i at (sym found.1 ∙ ap (slice_get list) same ∙ at_done) in
                joined j (subst (λ (k : ℕ). touch k j) is touches)
            | inr before ↦
                let early : found.0 < length way.list = omega (arith, slice_get_within way.list done at way.at_done) in
                let was : slice_get way.list found.0 ≡ Some (get_or way.list found.0 0) = slice_get-get_or way.list found.0 0 early in
                let is : get_or way.list found.0 0 ≡ i = same_Some (get_or way.list found.0 0) i (sym (kept_append way.list grown.0 found.0 (get_or way.list found.0 0) was) ∙ found.1) in
                let had = way.closed found.0 i j (omega arith) (was ∙ ap (λ (n : ℕ). Some n) is) touches in
                (had.0, joins.kept j had.0 had.1)
          ];
      components = joins.components ∙ way.components;
      links = joins.links ∙ way.links;
      firsts = joins.firsts ∙ way.firsts;
      count = joins.count ∙ way.count;
    }

pub distinct_below : (xs : List ℕ) (n : ℕ) → AllPairs (λ i j. i ≢ j) xs → ((i : ℕ) → Contains xs i → i < n) → length xs ≤ n
distinct_below xs n once below =
    let most = no_longer xs (range_with_len 0 n) once (λ i member.
    let less = below i member in
    (i, omega (arith, less, length-range_with_len 0 n), omega (arith, get_or-range_with_len 0 n i i less))) in
    omega (arith, most, length-range_with_len 0 n)

-- no list is longer than the runs
pub under_way_short : (touch : ℕ → ℕ → Type 0) (start number : ℕ) (old now : RunLists) (last at done : ℕ) → IsUnderWay touch start number old now last at done → done < length old.components.items
under_way_short touch start number old now last at done way =
    let within = slice_get_within way.list done at way.at_done in
    omega (arith, distinct_below way.list (length now.components.items) way.filling.linked.once (λ i member. slice_get_within now.components.items i (Some number) (way.filling.numbered i member)), way.components)

-- the next run, and the last, are runs
pub under_way_within : (touch : ℕ → ℕ → Type 0) (start number : ℕ) (old now : RunLists) (last at done : ℕ) → IsUnderWay touch start number old now last at done → (at < length old.components.items) × (last < length old.components.items)
under_way_within touch start number old now last at done way =
    let at_is = way.filling.numbered at (contains_from_at way.list done at way.at_done) in
    let last_is = way.filling.numbered last (last_in now.links.items way.list start last way.filling.linked) in
    (omega (arith, slice_get_within now.components.items at (Some number) at_is, way.components), omega (arith, slice_get_within now.components.items last (Some number) last_is, way.components))
