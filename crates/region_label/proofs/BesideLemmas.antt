-- Blocks beside one another: what a fill from block to block finds.
use Rattle.std.proofs.Common.{◌≡◌, ℕ, ◌+◌, ◌<◌, inl, inr, ℤ, Bool, true, List, [], ◌∷◌, length, refl, ap, sym, ◌∙◌, subst, arith}
use Rattle.std.specs.Prelude.{slice_get, slice_index}
use Rattle.std.proofs.lemmas.List.{length-map}
use Rattle.std.proofs.lemmas.List.FromFn.{length-range_with_len}
use Rattle.std.proofs.lemmas.Option.{slice_get_within}
use Rattle.cell_base.specs.Walk.{IsWalk}
use Rattle.region_label.specs.Run.{Run}
use Rattle.region_label.specs.Inner.Blocks.{AreBeside, AreBlocksJoined, HasBlocks, block_at, block_count, first_runs, firsts_of, kept_or_own, last_runs, lasts_of}
use Rattle.region_label.specs.Inner.Lists.{IsContact, IsNumbered, Joins, contacts}
use Rattle.region_label.specs.Inner.Rows.{noted_units}
use Rattle.region_label.specs.declared.blocks.Block.{Block}
use Rattle.region_label.specs.declared.rows.RowRuns.{RowRuns}
use Rattle.region_label.specs.declared.lists.RunLists.{RunLists}
use Rattle.region_label.proofs.BlockLemmas.{own_at}
use Rattle.region_label.proofs.ContactLemmas.{contact_back, corner_small}
use Rattle.region_label.proofs.FillLemmas.{IsUnderWay}
use Rattle.region_label.proofs.ListLemmas.{contains_from_at}

-- what is read of blocks, which may be kept or not

pub number_read : (of list : List ℕ) (runs i number : ℕ) → i < runs → (length of ≡ 0 → number ≡ i) → (0 < length of → number ≡ slice_index list i) → slice_index (kept_or_own of list runs) i ≡ number
number_read [] list runs i number within alone kept = omega (arith, own_at runs i within, alone refl)
number_read (b ∷ bs) list runs i number within alone kept = sym (kept (omega arith))

kept_run : (of : List ℕ) (runs i : ℕ) → length (kept_or_own of of runs) ≡ runs → i < runs → 0 < length of → i < length of
kept_run [] runs i sized within some = absurd (omega (arith, some))
kept_run (b ∷ bs) runs i sized within some = omega (arith, sized, within)

pub run_kept : (rows : RowRuns) (i : ℕ) → HasBlocks rows → i < length rows.runs.items → 0 < length rows.blocks.of.items → i < length rows.blocks.of.items
run_kept rows i blocks within some = kept_run rows.blocks.of.items (length rows.runs.items) i blocks.placed.sized within some

block_kept : (of : List ℕ) (ends : List Block) (runs b : ℕ) → b < length (kept_or_own of (first_runs ends) runs) → 0 < length of → b < length ends
block_kept [] ends runs b within some = absurd (omega (arith, some))
block_kept (k ∷ ks) ends runs b within some = omega (arith, within, length-map ends (λ (block : Block). block.first))

pub ends_kept : (rows : RowRuns) (b : ℕ) → b < block_count rows → 0 < length rows.blocks.of.items → b < length rows.blocks.ends.items
ends_kept rows b within some = block_kept rows.blocks.of.items rows.blocks.ends.items (length rows.runs.items) b within some

count_kept : (of : List ℕ) (ends : List Block) (runs count : ℕ) → (length of ≡ 0 → count ≡ runs) → (0 < length of → count ≡ length ends) → length (kept_or_own of (first_runs ends) runs) ≡ count
count_kept [] ends runs count alone kept = omega (arith, length-range_with_len 0 runs, alone refl)
count_kept (k ∷ ks) ends runs count alone kept = omega (arith, kept (omega arith), length-map ends (λ (block : Block). block.first))

pub count_read : (rows : RowRuns) (count : ℕ) → (length rows.blocks.of.items ≡ 0 → count ≡ length rows.runs.items) → (0 < length rows.blocks.of.items → count ≡ length rows.blocks.ends.items) → block_count rows ≡ count
count_read rows count alone kept = count_kept rows.blocks.of.items rows.blocks.ends.items (length rows.runs.items) count alone kept

pub few_blocks : (rows : RowRuns) (b : ℕ) → HasBlocks rows → b < block_count rows → b < length rows.runs.items
few_blocks rows b blocks within = omega (arith, within, blocks.placed.few)

-- the first and last run of a block
pub record HasEnds (rows : RowRuns) (b : ℕ) (block : Block) : Type 0 where
  pub first : block.first < length rows.runs.items
  pub last : block.last < length rows.runs.items
  pub first_is : slice_index (firsts_of rows) b ≡ block.first
  pub last_is : slice_index (lasts_of rows) b ≡ block.last
  pub in_first : block_at rows block.first ≡ b
  pub in_last : block_at rows block.last ≡ b

-- the ends that are read are those of the block
pub ends_read : (rows : RowRuns) (b : ℕ) (block : Block) → HasBlocks rows → b < block_count rows → (length rows.blocks.of.items ≡ 0 → block.first ≡ b) → (length rows.blocks.of.items ≡ 0 → block.last ≡ b) → (0 < length rows.blocks.of.items → block.first ≡ slice_index (first_runs rows.blocks.ends.items) b) → (0 < length rows.blocks.of.items → block.last ≡ slice_index (last_runs rows.blocks.ends.items) b) → HasEnds rows b block
ends_read rows b block blocks within first_alone last_alone first_kept last_kept =
    let in_runs = few_blocks rows b blocks within in
    let first_is : slice_index (firsts_of rows) b ≡ block.first = number_read rows.blocks.of.items (first_runs rows.blocks.ends.items) (length rows.runs.items) b block.first in_runs first_alone first_kept in
    let last_is : slice_index (lasts_of rows) b ≡ block.last = number_read rows.blocks.of.items (last_runs rows.blocks.ends.items) (length rows.runs.items) b block.last in_runs last_alone last_kept in
    let first = blocks.placed.first b within in
    let last = blocks.placed.last b within in
    record {
      first = omega (arith, first.0, first_is);
      last = omega (arith, last.0, last_is);
      first_is = first_is;
      last_is = last_is;
      in_first = ap (block_at rows) (sym first_is) ∙ first.1;
      in_last = ap (block_at rows) (sym last_is) ∙ last.1;
    }

pub beside_back : (connectivity : Bool) (rows : RowRuns) (a b : ℕ) → AreBeside connectivity rows a b → AreBeside connectivity rows b a
beside_back connectivity rows a b beside = record {
  first = beside.second;
  second = beside.first;
  in_first = beside.in_second;
  in_second = beside.in_first;
  contact = contact_back connectivity rows.runs.items (noted_units rows.notes.items) beside.first beside.second beside.contact;
}

-- a contact of runs is one of their blocks
pub beside_of : (connectivity : Bool) (rows : RowRuns) (i j : ℕ) → contacts connectivity rows i j → AreBeside connectivity rows (block_at rows i) (block_at rows j)
beside_of connectivity rows i j contact = record { first = i; second = j; in_first = refl; in_second = refl; contact = contact }

-- the block of a run that is read
pub block_read : (rows : RowRuns) (i number : ℕ) → i < length rows.runs.items → (length rows.blocks.of.items ≡ 0 → number ≡ i) → (0 < length rows.blocks.of.items → number ≡ slice_index rows.blocks.of.items i) → block_at rows i ≡ number
block_read rows i number within alone kept = number_read rows.blocks.of.items rows.blocks.of.items (length rows.runs.items) i number within alone kept

-- it comes no later than the run
pub low_block : (rows : RowRuns) (i number : ℕ) → HasBlocks rows → i < length rows.runs.items → block_at rows i ≡ number → number < length rows.runs.items
low_block rows i number blocks within is = omega (arith, within, blocks.placed.low i within, is)

pub beside_to : (connectivity : Bool) (rows : RowRuns) (i j number : ℕ) → block_at rows j ≡ number → contacts connectivity rows i j → AreBeside connectivity rows (block_at rows i) number
beside_to connectivity rows i j number is contact = record { first = i; second = j; in_first = refl; in_second = is; contact = contact }

-- a contact under four is one under eight
pub wider : (connectivity : Bool) (runs : List Run) (units : List ℤ) (i j : ℕ) → IsContact connectivity runs units i j → IsContact true runs units i j
wider connectivity runs units i j contact = record {
  first = contact.first;
  second = contact.second;
  value = contact.value;
  at_first = contact.at_first;
  at_second = contact.at_second;
  first_value = contact.first_value;
  second_value = contact.second_value;
  touch = (
    contact.touch.0,
    omega (arith, contact.touch.1, corner_small connectivity),
    omega (arith, contact.touch.2, corner_small connectivity),
  );
}

walk_within : (connectivity : Bool) (rows : RowRuns) (a b : ℕ) (walk : List ℕ) → HasBlocks rows → a < block_count rows → IsWalk (AreBeside connectivity rows) a walk b → b < block_count rows
walk_within connectivity rows a b [] blocks within walked = omega (arith, within, walked)
walk_within connectivity rows a b (c ∷ cs) blocks within walked =
    let beside = walked.0 in
    let next : c < block_count rows = omega (arith, beside.in_second, blocks.placed.known beside.second (slice_get_within rows.runs.items beside.second beside.contact.second beside.contact.at_second)) in
    walk_within connectivity rows c b cs blocks next walked.1

-- a list that began at a block has blocks alone
pub under_way_block : (connectivity : Bool) (rows : RowRuns) (start number : ℕ) (old now : RunLists) (last at done : ℕ) → HasBlocks rows → start < block_count rows → IsUnderWay (AreBeside connectivity rows) start number old now last at done → at < block_count rows
under_way_block connectivity rows start number old now last at done blocks within way =
    let reached = way.filling.reached at (contains_from_at way.list done at way.at_done) in
    walk_within connectivity rows start at reached.0 blocks within reached.1

pub under_way_numbered : (touch : ℕ → ℕ → Type 0) (start number : ℕ) (old now : RunLists) (last at done : ℕ) → IsUnderWay touch start number old now last at done → IsNumbered now.components.items at
under_way_numbered touch start number old now last at done way = (number, way.filling.numbered at (contains_from_at way.list done at way.at_done))

-- with the row above its first run and the row below its last all blocks beside a block have joined
pub both_joined : (connectivity : Bool) (rows : RowRuns) (b number : ℕ) (block : Block) (now middle new : RunLists) (last next end : ℕ) → HasBlocks rows → HasEnds rows b block → IsNumbered now.components.items b → Joins (AreBeside connectivity rows) (block_at rows block.first) number now middle last next → AreBlocksJoined connectivity rows (λ row above. row ≡ above + 1) block.first middle → Joins (AreBeside connectivity rows) (block_at rows block.last) number middle new next end → AreBlocksJoined connectivity rows (λ row below. below ≡ row + 1) block.last new → (c : ℕ) → AreBeside connectivity rows b c → IsNumbered new.components.items c
both_joined connectivity rows b number block now middle new last next end blocks ends numbered first above joins below c beside =
    let contact = beside.contact in
    let x = beside.first in
    let y = beside.second in
    let itself : IsNumbered new.components.items b = (numbered.0, joins.kept b numbered.0 (first.kept b numbered.0 numbered.1)) in
    let back = contact_back connectivity rows.runs.items (noted_units rows.notes.items) x y contact in
    elim contact.touch.0 [
      | inl up ↦ elim (blocks.leave y x contact.second contact.first contact.at_second contact.at_first up (wider connectivity rows.runs.items (noted_units rows.notes.items) y x back)) [
        | inl same ↦ subst (λ (n : ℕ). IsNumbered new.components.items n) (sym beside.in_first ∙ sym same ∙ beside.in_second) itself
        | inr leaves ↦
            let is : x ≡ block.first = leaves.1 ∙ ap (slice_index (firsts_of rows)) beside.in_first ∙ ends.first_is in
            let had = above y contact.first contact.second (ap (slice_get rows.runs.items) (sym is) ∙ contact.at_first) contact.at_second up (subst (λ (n : ℕ). contacts connectivity rows n y) is contact) in
            subst (λ (n : ℕ). IsNumbered new.components.items n) beside.in_second (had.0, joins.kept (block_at rows y) had.0 had.1)
      ]
      | inr down ↦ elim (blocks.leave x y contact.first contact.second contact.at_first contact.at_second down (wider connectivity rows.runs.items (noted_units rows.notes.items) x y contact)) [
        | inl same ↦ subst (λ (n : ℕ). IsNumbered new.components.items n) (sym beside.in_first ∙ same ∙ beside.in_second) itself
        | inr leaves ↦
            let is : x ≡ block.last = leaves.0 ∙ ap (slice_index (lasts_of rows)) beside.in_first ∙ ends.last_is in
            let had = below y contact.first contact.second (ap (slice_get rows.runs.items) (sym is) ∙ contact.at_first) contact.at_second down (subst (λ (n : ℕ). contacts connectivity rows n y) is contact) in
            subst (λ (n : ℕ). IsNumbered new.components.items n) beside.in_second had
      ]
    ]

-- where each run is a block of its own, blocks are runs

own_number : (of : List ℕ) (runs i : ℕ) → length of ≡ 0 → i < runs → slice_index (kept_or_own of of runs) i ≡ i
own_number [] runs i none within = own_at runs i within
own_number (b ∷ bs) runs i none within = absurd (omega (arith, none))

pub own_block : (rows : RowRuns) (i : ℕ) → length rows.blocks.of.items ≡ 0 → i < length rows.runs.items → block_at rows i ≡ i
own_block rows i none within = own_number rows.blocks.of.items (length rows.runs.items) i none within

pub contact_of_own : (connectivity : Bool) (rows : RowRuns) (i j : ℕ) → length rows.blocks.of.items ≡ 0 → AreBeside connectivity rows i j → contacts connectivity rows i j
contact_of_own connectivity rows i j none beside =
    let contact = beside.contact in
    let first : beside.first ≡ i = sym (own_block rows beside.first none (slice_get_within rows.runs.items beside.first contact.first contact.at_first)) ∙ beside.in_first in
    let second : beside.second ≡ j = sym (own_block rows beside.second none (slice_get_within rows.runs.items beside.second contact.second contact.at_second)) ∙ beside.in_second in
    subst (λ (n : ℕ). contacts connectivity rows n j) first (subst (λ (n : ℕ). contacts connectivity rows beside.first n) second contact)

pub own_of_contact : (connectivity : Bool) (rows : RowRuns) (i j : ℕ) → length rows.blocks.of.items ≡ 0 → contacts connectivity rows i j → AreBeside connectivity rows i j
own_of_contact connectivity rows i j none contact = record {
  first = i;
  second = j;
  in_first = own_block rows i none (slice_get_within rows.runs.items i contact.first contact.at_first);
  in_second = own_block rows j none (slice_get_within rows.runs.items j contact.second contact.at_second);
  contact = contact;
}
