-- Walks along linked lists of runs.
use Rattle.std.proofs.Common.{◌≡◌, ◌≢◌, ℕ, suc, ◌+◌, ◌<◌, inl, inr, true, false, List, [], ◌∷◌, Option, Some, None, map, length, drop, get_or, refl, ap, sym, ◌∙◌, arith}
use Rattle.std.specs.Prelude.{◌==◌, slice_get, slice_index, unwrap_or}
use Rattle.std.proofs.lemmas.Bool.{cases_lt, eq-eqb, eqb-true, false_from_ne_true}
use Rattle.std.proofs.lemmas.Grind.{common_steps}
use Rattle.std.proofs.lemmas.Option.{get_or_from_slice_get, same_Some, slice_get-get_or, slice_get_within}
use Rattle.region_label.specs.Run.{Run}
use Rattle.region_label.specs.Inner.Lists.{AreFilled}
use Rattle.region_label.specs.Inner.Table.{IsOnList, IsTable, IsWalkOf, following, linked_from, runs_from}
use Rattle.region_label.specs.declared.rows.RowRuns.{RowRuns}
use Rattle.region_label.specs.declared.lists.RunLists.{RunLists}
use Rattle.region_label.proofs.FillLemmas.{distinct_below}
use Rattle.region_label.proofs.FilledLemmas.{filled_clear}
use Rattle.region_label.proofs.ListLemmas.{contains_from_at}
use Rattle.region_label.proofs.WholeLemmas.{drop_at, linked_drop}

-- the indices from a member on are it and those from the next on
record GoesOn (runs : ℕ) (links : List ℕ) (at : ℕ) : Type 0 where
  next : (i : ℕ) → following links at ≡ Some i → IsOnList runs links i
  last : following links at ≡ None → linked_from links (length links) at ≡ at ∷ []
  more : (i : ℕ) → following links at ≡ Some i → linked_from links (length links) at ≡ at ∷ linked_from links (length links) i

none_some : (i j : ℕ) → Some i ≡ None → ⊥
none_some i j is = cc

goes_on : (runs : ℕ) (links : List ℕ) (at : ℕ) → length links ≡ runs → IsOnList runs links at → GoesOn runs links at
goes_on runs links at sized on =
    let short = distinct_below on.list runs on.linked.once on.below in
    let here : linked_from links (length links) at ≡ drop on.index on.list = linked_drop links on.list on.start on.last (length links) on.index at on.linked on.at_index (omega (arith, short, sized)) in
    let first : drop on.index on.list ≡ at ∷ drop (suc on.index) on.list = drop_at on.list on.index at on.at_index in
    let more : on.index + 1 ≡ suc on.index = omega arith in
    elim (cases_lt (suc on.index) (length on.list)) [
      | inl less ↦
          let after = slice_get-get_or on.list (suc on.index) 0 less in
          let link : slice_get links at ≡ Some (get_or on.list (suc on.index) 0) = on.linked.next on.index at (get_or on.list (suc on.index) 0) on.at_index (ap (slice_get on.list) more ∙ after) in
          let read : slice_index links at ≡ get_or on.list (suc on.index) 0 = get_or_from_slice_get links at (get_or on.list (suc on.index) 0) 0 link in
          let other : get_or on.list (suc on.index) 0 ≢ at = λ same. on.linked.once on.index (suc on.index) 0 (omega arith) less (get_or_from_slice_get on.list on.index at 0 on.at_index ∙ sym same) in
          let test : (slice_index links at == at) ≡ false = false_from_ne_true (slice_index links at == at) (λ is. other (sym read ∙ eqb-true (slice_index links at) at is)) in
          let is : following links at ≡ Some (get_or on.list (suc on.index) 0) = rw test (ap (λ (i : ℕ). Some i) read) in
          record {
            next = λ i follows.
                let same : get_or on.list (suc on.index) 0 ≡ i = same_Some (get_or on.list (suc on.index) 0) i (sym is ∙ follows) in
                record { list = on.list; start = on.start; last = on.last; index = suc on.index; linked = on.linked; at_index = after ∙ ap (λ (j : ℕ). Some j) same; below = on.below };
            last = λ none. absurd (none_some (get_or on.list (suc on.index) 0) 0 (sym is ∙ none));
            more = λ i follows.
                let same : get_or on.list (suc on.index) 0 ≡ i = same_Some (get_or on.list (suc on.index) 0) i (sym is ∙ follows) in
                let rest : linked_from links (length links) i ≡ drop (suc on.index) on.list = linked_drop links on.list on.start on.last (length links) (suc on.index) i on.linked (after ∙ ap (λ (j : ℕ). Some j) same) (omega (arith, short, sized)) in
                here ∙ first ∙ ap (λ (xs : List ℕ). at ∷ xs) (sym rest);
          }
      | inr past ↦
          let end : on.index + 1 ≡ length on.list = omega (arith, slice_get_within on.list on.index at on.at_index) in
          let is_last : at ≡ on.last = same_Some at on.last (sym on.at_index ∙ on.linked.last_at on.index end) in
          let link : slice_get links at ≡ Some at = ap (slice_get links) is_last ∙ on.linked.ends ∙ ap (λ (k : ℕ). Some k) (sym is_last) in
          let read : slice_index links at ≡ at = get_or_from_slice_get links at at 0 link in
          let test : (slice_index links at == at) ≡ true = eq-eqb (slice_index links at) at read in
          let is : following links at ≡ None = rw test refl in
          let none : drop (suc on.index) on.list ≡ [] = grind (arith, common_steps) in
          record {
            next = λ i follows. absurd (none_some i 0 (sym follows ∙ is));
            last = λ none_follows. here ∙ first ∙ ap (λ (xs : List ℕ). at ∷ xs) none;
            more = λ i follows. absurd (none_some i 0 (sym follows ∙ is));
          }
    ]

-- the walk goes on from the next
pub walk_on : (runs : List Run) (links : List ℕ) (at : ℕ) → IsWalkOf runs links (Some at) → IsWalkOf runs links (following links at)
walk_on runs links at walk = record {
  sized = walk.sized;
  on = (goes_on (length runs) links at walk.sized (walk.on at refl)).next;
}

-- what is left is the run and what is left from the next
pub left_on : (runs : List Run) (links : List ℕ) (at : ℕ) (run : Run) → IsWalkOf runs links (Some at) → slice_get runs at ≡ Some run → runs_from runs links (Some at) ≡ run ∷ runs_from runs links (following links at)
left_on runs links at run walk is = by_next (following links at) refl
  where
    read : unwrap_or (slice_get runs at) (record { row = 0; from = 0; to = 0 }) ≡ run
    read = ap (λ (o : Option Run). unwrap_or o (record { row = 0; from = 0; to = 0 })) is

    run_of : ℕ → Run
    run_of j = unwrap_or (slice_get runs j) (record { row = 0; from = 0; to = 0 })

    goes : GoesOn (length runs) links at
    goes = goes_on (length runs) links at walk.sized (walk.on at refl)

    by_next : (o : Option ℕ) → following links at ≡ o → runs_from runs links (Some at) ≡ run ∷ runs_from runs links o
    by_next None none = ap (map (λ j. unwrap_or (slice_get runs j) (record { row = 0; from = 0; to = 0 }))) (goes.last none) ∙ ap (λ (r : Run). r ∷ []) read
    by_next (Some i) follows = ap (map (λ j. unwrap_or (slice_get runs j) (record { row = 0; from = 0; to = 0 }))) (goes.more i follows) ∙ ap (λ (r : Run). r ∷ map (λ j. unwrap_or (slice_get runs j) (record { row = 0; from = 0; to = 0 })) (linked_from links (length links) i)) read

-- a walk is on a run
pub walk_within : (runs : List Run) (links : List ℕ) (at : ℕ) → IsWalkOf runs links (Some at) → at < length runs
walk_within runs links at walk =
    let on = walk.on at refl in
    on.below at (contains_from_at on.list on.index at on.at_index)

-- each component of a filled table has its list
pub table_kept : (touch : ℕ → ℕ → Type 0) (rows : RowRuns) (old new : RunLists) → IsTable rows old → AreFilled touch (length rows.runs.items) new (length rows.runs.items) → IsTable rows new
table_kept touch rows old new kept filled = record {
  order = kept.order;
  blocks = kept.blocks;
  noted = kept.noted;
  sized = filled.sized;
  few = omega (arith, filled.few, filled.sized.firsts);
  clear = λ none. filled_clear touch (length rows.runs.items) new filled none;
  listed = λ k start less at.
      let had = filled.listed k less in
      let same : had.1.start ≡ start = same_Some had.1.start start (sym had.1.start_at ∙ at) in
      record {
        list = had.0;
        start = had.1.start;
        last = had.1.last;
        index = 0;
        linked = had.1.linked;
        at_index = had.1.linked.first ∙ ap (λ (i : ℕ). Some i) same;
        below = λ i member. omega (arith, slice_get_within new.components.items i (Some k) (had.1.numbered i member), filled.sized.components);
      };
}
