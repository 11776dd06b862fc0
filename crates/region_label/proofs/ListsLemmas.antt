-- Linked lists of runs that grow.
use Rattle.std.proofs.Common.{◌≡◌, ◌≢◌, ℕ, ◌+◌, ◌-◌, ◌<◌, inl, inr, List, [], ◌∷◌, ◌++◌, Option, Some, None, length, length-append, set, get_or, append_assoc, length-set, refl, ap, sym, ◌∙◌, subst, arith}
use Rattle.std.specs.Prelude.{Contains, slice_get}
use Rattle.std.proofs.lemmas.Bool.{cases_eq}
use Rattle.std.proofs.lemmas.List.{append-nil}
use Rattle.std.proofs.lemmas.List.Elements.{Contains-append_left, Contains-get_or, Contains-push, Contains-push_cases}
use Rattle.std.proofs.lemmas.List.Quantifiers.{all_pairs_push}
use Rattle.std.proofs.lemmas.Option.{get_or_from_slice_get, same_Some, slice_get_within}
use Rattle.cell_base.proofs.WalkLemmas.{walk-append}
use Rattle.region_label.specs.Inner.Lists.{IsFilling, IsFree, IsLinked, IsOf, Joins}
use Rattle.region_label.specs.declared.lists.RunLists.{RunLists}
use Rattle.region_label.proofs.ListLemmas.{at_push_cases, contains_from_at, slice_get-push_last, slice_get-push_old, slice_get-set_other, slice_get-set_same}

-- the last of a linked list is in it
pub last_in : (links list : List ℕ) (start last : ℕ) → IsLinked links list start last → Contains list last
last_in links list start last linked =
    let some = slice_get_within list 0 start linked.first in
    contains_from_at list (length list - 1) last (linked.last_at (length list - 1) (omega arith))

pub numbered_not_free : (components : List (Option ℕ)) (i j k : ℕ) → IsOf components i k → IsFree components j → i ≢ j
numbered_not_free components i j k is free same =
    let both : Some (Some k) ≡ Some None = sym is ∙ ap (slice_get components) same ∙ free in
    cc

-- in a linked list only the last is last
pub not_last : (links list : List ℕ) (start last m i : ℕ) → IsLinked links list start last → slice_get list m ≡ Some i → m + 1 < length list → i ≢ last
not_last links list start last m i linked at less same =
    let end = linked.last_at (length list - 1) (omega arith) in
    linked.once m (length list - 1) 0 (omega arith) (omega arith) (get_or_from_slice_get list m i 0 at ∙ same ∙ sym (get_or_from_slice_get list (length list - 1) last 0 end))

-- one run more at the end
linked_push : (links list : List ℕ) (start last run : ℕ) → IsLinked links list start last → ((i : ℕ) → Contains list i → i ≢ run) → slice_get links run ≡ Some run → IsLinked (set links last run) (list ++ run ∷ []) start run
linked_push links list start last run linked new itself =
    let some = slice_get_within list 0 start linked.first in
    let within = slice_get_within links last last linked.ends in
    let other : run ≢ last = λ same. new last (last_in links list start last linked) (sym same) in
    record {
      first = slice_get-push_old list run 0 some ∙ linked.first;
      once = all_pairs_push (λ i j. i ≢ j) list run linked.once (λ k d in_list same. new (get_or list k d) (Contains-get_or list k d in_list) same);
      next = λ m i j at_i at_j. elim (at_push_cases list run (m + 1) j at_j) [
        | inl old ↦
            let less = slice_get_within list (m + 1) j old in
            let was : slice_get list m ≡ Some i = sym (slice_get-push_old list run m (omega (arith, less))) ∙ at_i in
            slice_get-set_other links last i run (not_last links list start last m i linked was less) ∙ linked.next m i j was old
        | inr end ↦
            let was : slice_get list m ≡ Some i = sym (slice_get-push_old list run m (omega (arith, end.0))) ∙ at_i in
            let is_last : i ≡ last = same_Some i last (sym was ∙ linked.last_at m end.0) in
            ap (slice_get (set links last run)) is_last ∙ slice_get-set_same links last run within ∙ ap (λ (r : ℕ). Some r) (sym end.1)
      ];
      last_at = λ m end.
          let is : m ≡ length list = omega (arith, end, length-append list (run ∷ [])) in
          ap (slice_get (list ++ run ∷ [])) is ∙ slice_get-push_last list run;
      ends = slice_get-set_other links last run run other ∙ itself;
    }

-- a free run that touches a member gets the number
pub filling_push : (touch : ℕ → ℕ → Type 0) (start number : ℕ) (before after : List (Option ℕ)) (links_before links list : List ℕ) (last at run : ℕ) → ((i : ℕ) → IsFree before i → slice_get links_before i ≡ Some i) → IsFilling touch start number before after links_before links list last → Contains list at → touch at run → IsFree after run → IsFilling touch start number before (set after run (Some number)) links_before (set links last run) (list ++ run ∷ []) run
filling_push touch start number before after links_before links list last at run free_links filling at_in touches free =
    let new : (i : ℕ) → Contains list i → i ≢ run = λ i member. numbered_not_free after i run number (filling.numbered i member) free in
    let same_run : (slice_get after run ≡ slice_get before run) × (slice_get links run ≡ slice_get links_before run) = elim (filling.kept run) [
      | inl member ↦ absurd (new run member refl)
      | inr same ↦ same
    ] in
    let free_before : IsFree before run = sym same_run.0 ∙ free in
    let within = slice_get_within after run None free in
    record {
      linked = linked_push links list start last run filling.linked new (same_run.1 ∙ free_links run free_before);
      numbered = λ i member. elim (Contains-push_cases list run i member) [
        | inl old ↦ slice_get-set_other after run i (Some number) (new i old) ∙ filling.numbered i old
        | inr same ↦ ap (slice_get (set after run (Some number))) (sym same) ∙ slice_get-set_same after run (Some number) within
      ];
      free = λ i member. elim (Contains-push_cases list run i member) [
        | inl old ↦ filling.free i old
        | inr same ↦ ap (slice_get before) (sym same) ∙ free_before
      ];
      reached = λ i member. elim (Contains-push_cases list run i member) [
        | inl old ↦ filling.reached i old
        | inr same ↦
            let walk = filling.reached at at_in in
            (walk.0 ++ i ∷ [], walk-append touch start at i walk.0 (i ∷ []) walk.1 (subst (λ (j : ℕ). touch at j) same touches, refl))
      ];
      kept = λ i. elim (filling.kept i) [
        | inl member ↦ inl (Contains-append_left list (run ∷ []) i member)
        | inr same ↦ elim (cases_eq i run) [
          | inl is_run ↦ inl (subst (λ (j : ℕ). Contains (list ++ run ∷ []) j) (sym is_run) (Contains-push list run))
          | inr other_run ↦ elim (cases_eq i last) [
            | inl is_last ↦ inl (Contains-append_left list (run ∷ []) i (subst (λ (j : ℕ). Contains list j) (sym is_last) (last_in links list start last filling.linked)))
            | inr other_last ↦ inr (slice_get-set_other after run i (Some number) other_run ∙ same.0, slice_get-set_other links last i run other_last ∙ same.1)
          ]
        ]
      ];
    }

pub joins_none : (touch : ℕ → ℕ → Type 0) (at number : ℕ) (lists : RunLists) (last : ℕ) → Joins touch at number lists lists last last
joins_none touch at number lists last = record {
  components = refl;
  links = refl;
  firsts = refl;
  count = refl;
  within = λ less. less;
  kept = λ i k is. is;
  grows = λ start base list free filling at_in.
      ([], subst (λ (l : List ℕ). IsFilling touch start number base.components.items lists.components.items base.links.items lists.links.items l last) (sym (append-nil list)) filling);
}

pub joins_then : (touch : ℕ → ℕ → Type 0) (at number : ℕ) (first second third : RunLists) (last middle end : ℕ) → Joins touch at number first second last middle → Joins touch at number second third middle end → Joins touch at number first third last end
joins_then touch at number first second third last middle end a b = record {
  components = b.components ∙ a.components;
  links = b.links ∙ a.links;
  firsts = b.firsts ∙ a.firsts;
  count = b.count ∙ a.count;
  within = λ less. omega (arith, a.links, b.within (omega (arith, a.links, a.within less)));
  kept = λ i k is. b.kept i k (a.kept i k is);
  grows = λ start base list free filling at_in.
      let one = a.grows start base list free filling at_in in
      let two = b.grows start base (list ++ one.0) free one.1 (Contains-append_left list one.0 at at_in) in
      (one.0 ++ two.0, subst (λ (l : List ℕ). IsFilling touch start number base.components.items third.components.items base.links.items third.links.items l end) (append_assoc list one.0 two.0) two.1);
}

kept_push : (after : List (Option ℕ)) (number run i k : ℕ) → IsFree after run → IsOf after i k → IsOf (set after run (Some number)) i k
kept_push after number run i k free is = slice_get-set_other after run i (Some number) (numbered_not_free after i run k is free) ∙ is

-- one run was added
pub joins_one : (touch : ℕ → ℕ → Type 0) (at number : ℕ) (old new : RunLists) (last run : ℕ) → run < length old.links.items → touch at run → IsFree old.components.items run → new.components.items ≡ set old.components.items run (Some number) → new.links.items ≡ set old.links.items last run → new.firsts ≡ old.firsts → new.count ≡ old.count → Joins touch at number old new last run
joins_one touch at number old new last run within touches free components links firsts count = record {
  components = ap length components ∙ length-set old.components.items run (Some number);
  links = ap length links ∙ length-set old.links.items last run;
  firsts = firsts;
  count = count;
  within = λ less. within;
  kept = λ i k is. rw components (kept_push old.components.items number run i k free is);
  grows = λ start base list free_links filling at_in.
      (run ∷ [], rw (components, links) (filling_push touch start number base.components.items old.components.items base.links.items old.links.items list last at run free_links filling at_in touches free));
}
