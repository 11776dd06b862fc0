-- Runs get the components of their blocks, from the last run to the first.
use Rattle.std.proofs.Common.{◌≡◌, ◌≢◌, ℕ, zero, suc, ◌+◌, ◌-◌, ◌<◌, ◌≤◌, inl, inr, Bool, List, [], ◌∷◌, ◌++◌, Option, Some, length, length-set, set, get_or, refl, ap, sym, ◌∙◌, subst, arith}
use Rattle.std.specs.Prelude.{Contains, slice_get, slice_index}
use Rattle.std.proofs.lemmas.Bool.{cases_eq}
use Rattle.std.proofs.lemmas.List.Elements.{Contains-get_or}
use Rattle.std.proofs.lemmas.List.Kept.{AllPairs-cons}
use Rattle.std.proofs.lemmas.Option.{same_Some, slice_get_within}
use Rattle.cell_base.specs.Walk.{IsWalk}
use Rattle.cell_base.proofs.ListDeciders.{contains_cases, contains_here, contains_there}
use Rattle.cell_base.proofs.WalkLemmas.{walk-append}
use Rattle.region_label.specs.Inner.Blocks.{AreBeside, HasBlocks, IsPut, SetsAt, block_at, block_count, firsts_of, numbers_of}
use Rattle.region_label.specs.Inner.Lists.{AreFilled, AreSized, IsLinked, IsListed, IsNumbered, IsOf, contacts}
use Rattle.region_label.specs.Inner.Rows.{noted_units}
use Rattle.region_label.specs.declared.rows.RowRuns.{RowRuns}
use Rattle.region_label.specs.declared.lists.RunLists.{RunLists}
use Rattle.region_label.proofs.BesideLemmas.{beside_of}
use Rattle.region_label.proofs.ContactLemmas.{contact_back}
use Rattle.region_label.proofs.FillLemmas.{linked_first, only_start}
use Rattle.region_label.proofs.FilledLemmas.{free_and_numbered, linked_same, same_component}
use Rattle.region_label.proofs.ListLemmas.{contains_from_at, slice_get-set_other, slice_get-set_same}
use Rattle.region_label.proofs.ListsLemmas.{last_in}

-- the runs from one on whose blocks have a number
pub record IsMine (of : List ℕ) (components : List (Option ℕ)) (end at k i : ℕ) : Type 0 where
  pub from : at ≤ i
  pub within : i < end
  pub is : IsOf components (slice_index of i) k

-- the linked list of the runs of a component from one on; its start is the end, if there are none
pub record IsSpread (of : List ℕ) (components : List (Option ℕ)) (links firsts : List ℕ) (end at k : ℕ) : Type 0 where
  pub start : ℕ
  pub start_at : slice_get firsts k ≡ Some start
  pub least : (i : ℕ) → IsMine of components end at k i → start ≤ i
  pub bound : start ≤ end
  pub linked : start < end → (list : List ℕ) × (last : ℕ) × IsLinked links list start last
      × ((i : ℕ) → Contains list i → IsMine of components end at k i) × ((i : ℕ) → IsMine of components end at k i → Contains list i)

-- the runs from one on have the components of their blocks, and are linked
pub record AreSpread (of : List ℕ) (old new : RunLists) (end at : ℕ) : Type 0 where
  pub sized : AreSized end new
  pub count : new.count ≡ old.count
  pub early : (i : ℕ) → i < at → slice_get new.components.items i ≡ slice_get old.components.items i
  pub late : (i : ℕ) → at ≤ i → i < end → slice_get new.components.items i ≡ slice_get old.components.items (slice_index of i)
  pub each : (k : ℕ) → k < old.count → IsSpread of old.components.items new.links.items new.firsts.items end at k

pub sets_at : {A : Type 0} (old new : List A) (at : ℕ) (value : A) → at < length old → new ≡ set old at value → SetsAt old new at value
sets_at old new at value within is = record {
  sized = ap length is ∙ length-set old at value;
  at_index = ap (λ xs. slice_get xs at) is ∙ slice_get-set_same old at value within;
  others = λ i other. ap (λ xs. slice_get xs i) is ∙ slice_get-set_other old at i value other;
}

-- one run more in front of a linked list
linked_cons : (old new list : List ℕ) (start last run : ℕ) → IsLinked old list start last → ((i : ℕ) → Contains list i → i ≢ run) → SetsAt old new run start → IsLinked new (run ∷ list) run last
linked_cons old new list start last run linked others sets = record {
  first = refl;
  once = AllPairs-cons (λ i j. i ≢ j) run list (λ k d in_list same. others (get_or list k d) (Contains-get_or list k d in_list) (sym same)) linked.once;
  next = λ m i j at_i at_j. follows m i j at_i at_j;
  last_at = λ m end. ends m end;
  ends = sets.others last (others last (last_in old list start last linked)) ∙ linked.ends;
}
  where
    follows : (m i j : ℕ) → slice_get (run ∷ list) m ≡ Some i → slice_get (run ∷ list) (m + 1) ≡ Some j → slice_get new i ≡ Some j
    follows zero i j at_i at_j =
        let is : run ≡ i = same_Some run i at_i in
        ap (slice_get new) (sym is) ∙ sets.at_index ∙ sym linked.first ∙ at_j
    follows (suc m) i j at_i at_j =
        let step : suc (m + 1) ≡ suc m + 1 = omega arith in
        sets.others i (others i (contains_from_at list m i at_i)) ∙ linked.next m i j at_i (ap (slice_get (run ∷ list)) step ∙ at_j)

    ends : (m : ℕ) → m + 1 ≡ length (run ∷ list) → slice_get (run ∷ list) m ≡ Some last
    ends zero end = absurd (omega (arith, end, slice_get_within list 0 start linked.first))
    ends (suc m) end = linked.last_at m (omega (arith, end))

mine_later : (of : List ℕ) (components : List (Option ℕ)) (end at k i : ℕ) → i ≢ at → IsMine of components end at k i → IsMine of components end (at + 1) k i
mine_later of components end at k i other mine = record { from = omega (arith, mine.from, other); within = mine.within; is = mine.is }

mine_earlier : (of : List ℕ) (components : List (Option ℕ)) (end at k i : ℕ) → IsMine of components end (at + 1) k i → IsMine of components end at k i
mine_earlier of components end at k i mine = record { from = omega (arith, mine.from); within = mine.within; is = mine.is }

-- nothing is spread yet
pub spread_none : (of : List ℕ) (old new : RunLists) (end : ℕ) → AreSized end new → new.count ≡ old.count → new.components.items ≡ old.components.items → ((k : ℕ) → k < old.count → slice_get new.firsts.items k ≡ Some end) → AreSpread of old new end end
spread_none of old new end sized count same none = record {
  sized = sized;
  count = count;
  early = λ i less. ap (λ (xs : List (Option ℕ)). slice_get xs i) same;
  late = λ i past less. absurd (omega (arith, past, less));
  each = λ k known. record {
    start = end;
    start_at = none k known;
    least = λ i mine. absurd (omega (arith, mine.from, mine.within));
    bound = omega arith;
    linked = λ less. absurd (omega (arith, less));
  };
}

-- the list of the run's own component
spread_own : (of : List ℕ) (components : List (Option ℕ)) (old new : RunLists) (end at k : ℕ) (from : IsSpread of components old.links.items old.firsts.items end (at + 1) k) → at < end → IsOf components (slice_index of at) k → IsPut end at k from.start old new → IsSpread of components new.links.items new.firsts.items end at k
spread_own of components old new end at k from within is put = record {
  start = at;
  start_at = put.firsts.at_index;
  least = λ i mine. mine.from;
  bound = omega (arith, within);
  linked = λ less. elim (cases_eq from.start end) [
    | inl none ↦ (
      at ∷ [],
      at,
      linked_first new.links.items at (put.alone none).at_index,
      λ i member. subst (λ (j : ℕ). IsMine of components end at k j) (sym (only_start at i member)) itself,
      λ i mine. elim (cases_eq i at) [
        | inl same ↦ (0, omega arith, sym same)
        | inr other ↦ absurd (omega (arith, none, mine.within, from.least i (mine_later of components end at k i other mine)))
      ],
    )
    | inr some ↦
        let had = from.linked (omega (arith, some, from.bound)) in (
          at ∷ had.0,
          had.1,
          linked_cons old.links.items new.links.items had.0 from.start had.1 at had.2 (λ i member same. omega (arith, same, (had.3 i member).from)) (put.more some),
          λ i member. elim (contains_cases at had.0 i member) [
            | inl here ↦ subst (λ (j : ℕ). IsMine of components end at k j) here itself
            | inr there ↦ mine_earlier of components end at k i (had.3 i there)
          ],
          λ i mine. elim (cases_eq i at) [
            | inl same ↦ subst (λ (j : ℕ). Contains (at ∷ had.0) j) (sym same) (contains_here at had.0)
            | inr other ↦ contains_there at had.0 i (had.4 i (mine_later of components end at k i other mine))
          ],
        )
  ];
}
  where
    itself : IsMine of components end at k at
    itself = record { from = omega arith; within = within; is = is }

-- the lists of the other components
spread_other : (of : List ℕ) (components : List (Option ℕ)) (old new : RunLists) (end at k m next : ℕ) → IsSpread of components old.links.items old.firsts.items end (at + 1) m → IsOf components (slice_index of at) k → m ≢ k → IsPut end at k next old new → IsSpread of components new.links.items new.firsts.items end at m
spread_other of components old new end at k m next from is other put =
    let not_at : (i : ℕ) → IsMine of components end at m i → i ≢ at = λ i mine same. other (same_component components (slice_index of at) m k (subst (λ (j : ℕ). IsOf components (slice_index of j) m) same mine.is) is) in
    record {
      start = from.start;
      start_at = put.firsts.others m other ∙ from.start_at;
      least = λ i mine. from.least i (mine_later of components end at m i (not_at i mine) mine);
      bound = from.bound;
      linked = λ less.
          let had = from.linked less in
          let kept : (i : ℕ) → Contains had.0 i → slice_get new.links.items i ≡ slice_get old.links.items i = λ i member. others_kept i (λ same. omega (arith, same, (had.3 i member).from)) in (
            had.0,
            had.1,
            linked_same old.links.items new.links.items had.0 from.start had.1 kept had.2,
            λ i member. mine_earlier of components end at m i (had.3 i member),
            λ i mine. had.4 i (mine_later of components end at m i (not_at i mine) mine),
          );
    }
  where
    others_kept : (i : ℕ) → i ≢ at → slice_get new.links.items i ≡ slice_get old.links.items i
    others_kept i apart = elim (cases_eq next end) [
      | inl none ↦ (put.alone none).others i apart
      | inr some ↦ (put.more some).others i apart
    ]

-- while only runs after it are spread, a run's block has its number still

pub spread_before : (of : List ℕ) (old now : RunLists) (end at : ℕ) → AreSpread of old now end at → 0 < at → AreSpread of old now end (at - 1 + 1)
spread_before of old now end at spread some =
    let same : at ≡ at - 1 + 1 = omega (arith, some) in
    subst (λ (n : ℕ). AreSpread of old now end n) same spread

pub block_kept : (rows : RowRuns) (old now : RunLists) (at : ℕ) → HasBlocks rows → AreSpread (numbers_of rows) old now (length rows.runs.items) (at + 1) → at < length rows.runs.items → slice_get now.components.items (block_at rows at) ≡ slice_get old.components.items (block_at rows at)
block_kept rows old now at blocks spread within = spread.early (block_at rows at) (omega (arith, blocks.placed.low at within))

pub block_numbered : (connectivity : Bool) (rows : RowRuns) (old now : RunLists) (at : ℕ) → HasBlocks rows → AreFilled (AreBeside connectivity rows) (length rows.runs.items) old (block_count rows) → AreSpread (numbers_of rows) old now (length rows.runs.items) (at + 1) → at < length rows.runs.items → IsNumbered now.components.items (block_at rows at)
block_numbered connectivity rows old now at blocks filled spread within =
    let had = filled.done (block_at rows at) (blocks.placed.known at within) in
    (had.0, block_kept rows old now at blocks spread within ∙ had.1)

pub block_known : (connectivity : Bool) (rows : RowRuns) (old now : RunLists) (at k : ℕ) → HasBlocks rows → AreFilled (AreBeside connectivity rows) (length rows.runs.items) old (block_count rows) → AreSpread (numbers_of rows) old now (length rows.runs.items) (at + 1) → at < length rows.runs.items → IsOf now.components.items (block_at rows at) k → k < length now.firsts.items
block_known connectivity rows old now at k blocks filled spread within is =
    let known = filled.known (block_at rows at) k (sym (block_kept rows old now at blocks spread within) ∙ is) in
    omega (arith, known, filled.few, blocks.placed.few, spread.sized.firsts)

-- a run is put in front of the list of its component
pub put_is : (end at k next m first link : ℕ) (component : Option ℕ) (old new : RunLists) → component ≡ Some m → component ≡ Some k → slice_get old.firsts.items m ≡ Some first → slice_get old.firsts.items k ≡ Some next → (first ≡ end → link ≡ at) → (first ≢ end → link ≡ first) → at < length old.components.items → at < length old.links.items → new.components.items ≡ set old.components.items at component → new.links.items ≡ set old.links.items at link → new.firsts.items ≡ set old.firsts.items m at → new.count ≡ old.count → IsPut end at k next old new
put_is end at k next m first link component old new is_m is_k at_m at_k alone more in_components in_links components links firsts count =
    let same : m ≡ k = same_Some m k (sym is_m ∙ is_k) in
    let same_first : first ≡ next = same_Some first next (sym at_m ∙ ap (slice_get old.firsts.items) same ∙ at_k) in
    record {
      components = sets_at old.components.items new.components.items at (Some k) in_components (components ∙ ap (set old.components.items at) is_k);
      firsts = sets_at old.firsts.items new.firsts.items k at (slice_get_within old.firsts.items k next at_k) (firsts ∙ ap (λ (n : ℕ). set old.firsts.items n at) same);
      alone = λ none. sets_at old.links.items new.links.items at at in_links (links ∙ ap (set old.links.items at) (alone (same_first ∙ none)));
      more = λ some. sets_at old.links.items new.links.items at next in_links (links ∙ ap (set old.links.items at) (more (λ is. some (sym same_first ∙ is)) ∙ same_first));
      count = count;
    }

-- one run more
pub spread_put : (of : List ℕ) (old now new : RunLists) (end at k : ℕ) → AreSpread of old now end (at + 1) → at < end → IsOf old.components.items (slice_index of at) k → k < old.count → ((next : ℕ) → slice_get now.firsts.items k ≡ Some next → IsPut end at k next now new) → AreSpread of old new end at
spread_put of old now new end at k spread within is known puts =
    let mine = spread.each k known in
    let put = puts mine.start mine.start_at in
    record {
      sized = record {
        components = put.components.sized ∙ spread.sized.components;
        links = elim (cases_eq mine.start end) [
          | inl none ↦ (put.alone none).sized ∙ spread.sized.links
          | inr some ↦ (put.more some).sized ∙ spread.sized.links
        ];
        firsts = put.firsts.sized ∙ spread.sized.firsts;
      };
      count = put.count ∙ spread.count;
      early = λ i less. put.components.others i (λ same. omega (arith, same, less)) ∙ spread.early i (omega (arith, less));
      late = λ i past less. elim (cases_eq i at) [
        | inl same ↦
            let here : slice_get new.components.items at ≡ slice_get old.components.items (slice_index of at) = put.components.at_index ∙ sym is in
            subst (λ (j : ℕ). slice_get new.components.items j ≡ slice_get old.components.items (slice_index of j)) (sym same) here
        | inr other ↦ put.components.others i other ∙ spread.late i (omega (arith, past, other)) less
      ];
      each = λ m in_count. elim (cases_eq m k) [
        | inl same ↦ subst (λ (n : ℕ). IsSpread of old.components.items new.links.items new.firsts.items end at n) (sym same) (spread_own of old.components.items now new end at k mine within is put)
        | inr other ↦ spread_other of old.components.items now new end at k m mine.start (spread.each m in_count) is other put
      ];
    }

-- the next run is put
pub spread_on : (connectivity : Bool) (rows : RowRuns) (old now new : RunLists) (at : ℕ) → HasBlocks rows → AreFilled (AreBeside connectivity rows) (length rows.runs.items) old (block_count rows) → AreSpread (numbers_of rows) old now (length rows.runs.items) (at + 1) → at < length rows.runs.items → ((k next : ℕ) → IsOf now.components.items (block_at rows at) k → slice_get now.firsts.items k ≡ Some next → IsPut (length rows.runs.items) at k next now new) → AreSpread (numbers_of rows) old new (length rows.runs.items) at
spread_on connectivity rows old now new at blocks filled spread within puts =
    let had = filled.done (block_at rows at) (blocks.placed.known at within) in
    let now_is = block_kept rows old now at blocks spread within ∙ had.1 in
    spread_put (numbers_of rows) old now new (length rows.runs.items) at had.0 spread within had.1 (filled.known (block_at rows at) had.0 had.1) (λ next at_next. puts had.0 next now_is at_next)

-- runs that walks of contacts join

abbrev AreLinked : Bool → RowRuns → ℕ → ℕ → Type 0
AreLinked connectivity rows i j = (walk : List ℕ) × IsWalk (contacts connectivity rows) i walk j

linked_then : (connectivity : Bool) (rows : RowRuns) (i j h : ℕ) → AreLinked connectivity rows i j → AreLinked connectivity rows j h → AreLinked connectivity rows i h
linked_then connectivity rows i j h first second = (first.0 ++ second.0, walk-append (contacts connectivity rows) i j h first.0 second.0 first.1 second.1)

linked_step : (connectivity : Bool) (rows : RowRuns) (i j : ℕ) → contacts connectivity rows i j → AreLinked connectivity rows i j
linked_step connectivity rows i j contact = (j ∷ [], (contact, refl))

linked_back : (connectivity : Bool) (rows : RowRuns) (i j : ℕ) (walk : List ℕ) → IsWalk (contacts connectivity rows) i walk j → AreLinked connectivity rows j i
linked_back connectivity rows i j [] walked = ([], sym walked)
linked_back connectivity rows i j (h ∷ hs) walked = linked_then connectivity rows j h i (linked_back connectivity rows h j hs walked.1) (linked_step connectivity rows h i (contact_back connectivity rows.runs.items (noted_units rows.notes.items) i h walked.0))

-- two runs of a block
in_block : (connectivity : Bool) (rows : RowRuns) (i j : ℕ) → HasBlocks rows → i < length rows.runs.items → j < length rows.runs.items → block_at rows i ≡ block_at rows j → AreLinked connectivity rows i j
in_block connectivity rows i j blocks in_i in_j same =
    let to_i = blocks.placed.joined connectivity i in_i in
    let to_j = blocks.placed.joined connectivity j in_j in
    let first = slice_index (firsts_of rows) (block_at rows i) in
    let first_same : slice_index (firsts_of rows) (block_at rows j) ≡ first = ap (slice_index (firsts_of rows)) (sym same) in
    let from_first : AreLinked connectivity rows first j = (to_j.0, subst (λ (n : ℕ). IsWalk (contacts connectivity rows) n to_j.0 j) first_same to_j.1) in
    linked_then connectivity rows i first j (linked_back connectivity rows first i to_i.0 to_i.1) from_first

-- a walk of blocks is one of runs
walk_of_runs : (connectivity : Bool) (rows : RowRuns) (a b : ℕ) (walk : List ℕ) (i j : ℕ) → HasBlocks rows → i < length rows.runs.items → j < length rows.runs.items → block_at rows i ≡ a → block_at rows j ≡ b → IsWalk (AreBeside connectivity rows) a walk b → AreLinked connectivity rows i j
walk_of_runs connectivity rows a b [] i j blocks in_i in_j is_a is_b walked = in_block connectivity rows i j blocks in_i in_j (is_a ∙ walked ∙ sym is_b)
walk_of_runs connectivity rows a b (c ∷ cs) i j blocks in_i in_j is_a is_b walked =
    let beside = walked.0 in
    let contact = beside.contact in
    let in_x = slice_get_within rows.runs.items beside.first contact.first contact.at_first in
    let in_y = slice_get_within rows.runs.items beside.second contact.second contact.at_second in
    let to_x = in_block connectivity rows i beside.first blocks in_i in_x (is_a ∙ sym beside.in_first) in
    let rest = walk_of_runs connectivity rows c b cs beside.second j blocks in_y in_j beside.in_second is_b walked.1 in
    linked_then connectivity rows i beside.first j to_x (linked_then connectivity rows beside.first beside.second j (linked_step connectivity rows beside.first beside.second contact) rest)

-- the list of a component when all runs are spread
record HasRuns (connectivity : Bool) (rows : RowRuns) (new : RunLists) (k start : ℕ) : Type 0 where
  list : List ℕ
  listed : IsListed (contacts connectivity rows) new.components.items new.links.items new.firsts.items k list
  is_start : slice_get new.firsts.items k ≡ Some start

number_of : (rows : RowRuns) (old new : RunLists) (i k : ℕ) → AreSpread (numbers_of rows) old new (length rows.runs.items) 0 → IsOf new.components.items i k → (i < length rows.runs.items) × IsOf old.components.items (block_at rows i) k
number_of rows old new i k spread is =
    let within : i < length rows.runs.items = omega (arith, slice_get_within new.components.items i (Some k) is, spread.sized.components) in
    (within, sym (spread.late i (omega arith) within) ∙ is)

-- a component's list begins with the first run of its first block
has_runs : (connectivity : Bool) (rows : RowRuns) (old new : RunLists) (k : ℕ) (blocks_list : List ℕ) → HasBlocks rows → AreSpread (numbers_of rows) old new (length rows.runs.items) 0 → k < old.count → (had : IsListed (AreBeside connectivity rows) old.components.items old.links.items old.firsts.items k blocks_list) → had.start < block_count rows → HasRuns connectivity rows new k (slice_index (firsts_of rows) had.start)
has_runs connectivity rows old new k blocks_list blocks spread known had in_blocks =
    let of = numbers_of rows in
    let end = length rows.runs.items in
    let mine = spread.each k known in
    let in_firsts : had.start < block_count rows = omega (arith, in_blocks) in
    let first = blocks.placed.first had.start in_firsts in
    let number = had.numbered had.start (contains_from_at blocks_list 0 had.start had.linked.first) in
    let first_mine : IsMine of old.components.items end 0 k (slice_index (firsts_of rows) had.start) = record { from = omega arith; within = first.0; is = ap (slice_get old.components.items) first.1 ∙ number } in
    let up = mine.least (slice_index (firsts_of rows) had.start) first_mine in
    let within : mine.start < end = omega (arith, up, first.0) in
    let list = mine.linked within in
    let start_mine = list.3 mine.start (contains_from_at list.0 0 mine.start list.2.first) in
    let later : had.start ≤ block_at rows mine.start = had.least (block_at rows mine.start) (had.all (block_at rows mine.start) start_mine.is) in
    let down : slice_index (firsts_of rows) (block_at rows mine.start) ≤ mine.start = blocks.placed.least mine.start within in
    let rises : slice_index (firsts_of rows) had.start ≤ slice_index (firsts_of rows) (block_at rows mine.start) = elim (cases_eq had.start (block_at rows mine.start)) [
      | inl same ↦ omega (arith, ap (slice_index (firsts_of rows)) same)
      | inr other ↦ omega (arith, blocks.placed.rise had.start (block_at rows mine.start) (omega (arith, later, other)) (blocks.placed.known mine.start within))
    ] in
    let is : mine.start ≡ slice_index (firsts_of rows) had.start = omega (arith, up, down, rises) in
    let start_block : block_at rows mine.start ≡ had.start = ap (block_at rows) is ∙ first.1 in
    record {
      list = list.0;
      listed = record {
        start = mine.start;
        last = list.1;
        start_at = mine.start_at;
        linked = list.2;
        numbered = λ i member. spread.late i (omega arith) (list.3 i member).within ∙ (list.3 i member).is;
        all = λ i is_k.
            let was = number_of rows old new i k spread is_k in
            list.4 i (record { from = omega arith; within = was.0; is = was.1 });
        reached = λ i member.
            let reached = had.reached (block_at rows i) (had.all (block_at rows i) (list.3 i member).is) in
            walk_of_runs connectivity rows had.start (block_at rows i) reached.0 mine.start i blocks within (list.3 i member).within start_block refl reached.1;
        least = λ i member. mine.least i (list.3 i member);
      };
      is_start = mine.start_at ∙ ap (λ (n : ℕ). Some n) is;
    }

-- all runs are spread
pub spread_filled : (connectivity : Bool) (rows : RowRuns) (old new : RunLists) → HasBlocks rows → AreFilled (AreBeside connectivity rows) (length rows.runs.items) old (block_count rows) → AreSpread (numbers_of rows) old new (length rows.runs.items) 0 → AreFilled (contacts connectivity rows) (length rows.runs.items) new (length rows.runs.items)
spread_filled connectivity rows old new blocks filled spread =
    let runs_of : (k : ℕ) → k < new.count → (start : ℕ) × (slice_get old.firsts.items k ≡ Some start) × (start < block_count rows) × HasRuns connectivity rows new k (slice_index (firsts_of rows) start) = λ k less.
    let known : k < old.count = omega (arith, less, spread.count) in
    let had = filled.listed k known in
    let early = filled.before k had.1.start known had.1.start_at in
    (had.1.start, had.1.start_at, early, has_runs connectivity rows old new k had.0 blocks spread known had.1 early) in
    let few : block_count rows ≤ length rows.runs.items = omega (arith, blocks.placed.few) in
    let number : (i : ℕ) → i < length rows.runs.items → IsNumbered new.components.items i = λ i within.
    let had = filled.done (block_at rows i) (blocks.placed.known i within) in
    (had.0, spread.late i (omega arith) within ∙ had.1) in
    record {
      sized = spread.sized;
      few = omega (arith, filled.few, few, spread.count);
      listed = λ k less.
          let had = runs_of k less in
          (had.3.list, had.3.listed);
      order = λ k m i j less in_count at_k at_m.
          let first = runs_of k (omega (arith, less, in_count)) in
          let second = runs_of m in_count in
          let before = filled.order k m first.0 second.0 less (omega (arith, in_count, spread.count)) first.1 second.1 in
          let is_i : i ≡ slice_index (firsts_of rows) first.0 = same_Some i (slice_index (firsts_of rows) first.0) (sym at_k ∙ first.3.is_start) in
          let is_j : j ≡ slice_index (firsts_of rows) second.0 = same_Some j (slice_index (firsts_of rows) second.0) (sym at_m ∙ second.3.is_start) in
          omega (arith, is_i, is_j, blocks.placed.rise first.0 second.0 before (omega (arith, second.2)));
      before = λ k i less at_k.
          let had = runs_of k less in
          let is_i : i ≡ slice_index (firsts_of rows) had.0 = same_Some i (slice_index (firsts_of rows) had.0) (sym at_k ∙ had.3.is_start) in
          omega (arith, is_i, (blocks.placed.first had.0 (omega (arith, had.2))).0);
      done = number;
      known = λ i k is. omega (arith, filled.known (block_at rows i) k (number_of rows old new i k spread is).1, spread.count);
      closed = λ i j k is contact.
          let was = number_of rows old new i k spread is in
          let in_j = slice_get_within rows.runs.items j contact.second contact.at_second in
          spread.late j (omega arith) in_j ∙ filled.closed (block_at rows i) (block_at rows j) k was.1 (beside_of connectivity rows i j contact);
      free = λ i free.
          let within : i < length rows.runs.items = omega (arith, slice_get_within new.components.items i _ free, spread.sized.components) in
          let had = number i within in
          absurd (free_and_numbered new.components.items i had.0 free had.1);
    }
