-- Blocks: runs of equal units that lie one below the other with the same ends.
use Rattle.std.specs.Prelude.{◌≡◌, ◌≢◌, ℕ, ◌+◌, ◌<◌, ◌≤◌, ◌⊎◌, ℤ, Bool, true, List, [], ◌∷◌, Some, length, map, slice_get, slice_index}
use Rattle.std.specs.List.{range_with_len}
use Rattle.cell_base.specs.Walk.{IsWalk}
use Rattle.region_label.specs.Run.{Run}
use Rattle.region_label.specs.Inner.Lists.{IsContact, IsNumbered, contacts}
use Rattle.region_label.specs.Inner.Rows.{noted_units}
use Rattle.region_label.specs.declared.blocks.Block.{Block}
use Rattle.region_label.specs.declared.blocks.Blocks.{Blocks}
use Rattle.region_label.specs.declared.rows.RowRuns.{RowRuns}
use Rattle.region_label.specs.declared.lists.RunLists.{RunLists}

-- the first and the last runs of blocks
abbrev pub first_runs : List Block → List ℕ
first_runs blocks = map (λ block. block.first) blocks

abbrev pub last_runs : List Block → List ℕ
last_runs blocks = map (λ block. block.last) blocks

-- a list, if any of these are kept, and else 0, 1, 2, ..
abbrev pub kept_or_own : List ℕ → List ℕ → ℕ → List ℕ
kept_or_own [] list runs = range_with_len 0 runs
kept_or_own (b ∷ bs) list runs = list

-- the block of each of so many runs
abbrev pub numbers_in : Blocks → ℕ → List ℕ
numbers_in blocks runs = kept_or_own blocks.of.items blocks.of.items runs

-- the first and the last run of each block
abbrev pub firsts_in : Blocks → ℕ → List ℕ
firsts_in blocks runs = kept_or_own blocks.of.items (first_runs blocks.ends.items) runs

abbrev pub lasts_in : Blocks → ℕ → List ℕ
lasts_in blocks runs = kept_or_own blocks.of.items (last_runs blocks.ends.items) runs

-- these of the runs of a grid
abbrev pub numbers_of : RowRuns → List ℕ
numbers_of rows = numbers_in rows.blocks (length rows.runs.items)

abbrev pub firsts_of : RowRuns → List ℕ
firsts_of rows = firsts_in rows.blocks (length rows.runs.items)

abbrev pub lasts_of : RowRuns → List ℕ
lasts_of rows = lasts_in rows.blocks (length rows.runs.items)

-- the number of blocks
abbrev pub block_count : RowRuns → ℕ
block_count rows = length (firsts_of rows)

-- the second run lies right below the first, with its ends and its units
pub record GoesOn (runs : List Run) (units : List ℤ) (i j : ℕ) : Type 0 where
  pub first : Run
  pub second : Run
  pub value : ℤ
  pub at_first : slice_get runs i ≡ Some first
  pub at_second : slice_get runs j ≡ Some second
  pub first_value : slice_get units i ≡ Some value
  pub second_value : slice_get units j ≡ Some value
  pub row : second.row ≡ first.row + 1
  pub from : second.from ≡ first.from
  pub to : second.to ≡ first.to

-- of two runs side by side in a row the units differ
abbrev pub AreApart : List Run → List ℤ → Type 0
AreApart runs units = (i j : ℕ) (a b : Run) (u : ℤ) → slice_get runs i ≡ Some a → slice_get runs j ≡ Some b
    → slice_get units i ≡ Some u → slice_get units j ≡ Some u → a.row ≡ b.row → a.to ≢ b.from

-- the runs before one are in blocks: each but the first of its block goes on from a run of it, and each but the last
-- has a run of it that goes on
pub record ArePlaced (runs : List Run) (units : List ℤ) (of firsts lasts : List ℕ) (at : ℕ) : Type 0 where
  pub sized : length of ≡ at
  pub paired : length lasts ≡ length firsts
  pub few : length firsts ≤ at
  pub known : (i : ℕ) → i < at → slice_index of i < length firsts
  pub low : (i : ℕ) → i < at → slice_index of i ≤ i
  pub first : (b : ℕ) → b < length firsts → (slice_index firsts b < at) × (slice_index of (slice_index firsts b) ≡ b)
  pub last : (b : ℕ) → b < length firsts → (slice_index lasts b < at) × (slice_index of (slice_index lasts b) ≡ b)
  pub rise : (b c : ℕ) → b < c → c < length firsts → slice_index firsts b < slice_index firsts c
  pub least : (i : ℕ) → i < at → slice_index firsts (slice_index of i) ≤ i
  pub joined : (connectivity : Bool) (i : ℕ) → i < at
      → (walk : List ℕ) × IsWalk (IsContact connectivity runs units) (slice_index firsts (slice_index of i)) walk i
  pub from : (i : ℕ) → i < at → (i ≡ slice_index firsts (slice_index of i))
      ⊎ ((h : ℕ) × (h < at) × (slice_index of h ≡ slice_index of i) × GoesOn runs units h i)
  pub on : (i : ℕ) → i < at → (i ≡ slice_index lasts (slice_index of i))
      ⊎ ((j : ℕ) × (j < at) × (slice_index of j ≡ slice_index of i) × GoesOn runs units i j)

-- so many runs of a grid are in blocks
abbrev pub HasPlaced : RowRuns → Blocks → ℕ → Type 0
HasPlaced rows blocks = ArePlaced rows.runs.items (noted_units rows.notes.items) blocks.of.items (first_runs blocks.ends.items) (last_runs blocks.ends.items)

-- all runs are in blocks, and only the first and the last run of a block touch runs of other blocks
pub record AreBlocks (runs : List Run) (units : List ℤ) (of firsts lasts : List ℕ) : Type 0 where
  pub placed : ArePlaced runs units of firsts lasts (length runs)
  pub leave : (i j : ℕ) (a b : Run) → slice_get runs i ≡ Some a → slice_get runs j ≡ Some b
      → b.row ≡ a.row + 1 → IsContact true runs units i j
      → (slice_index of i ≡ slice_index of j)
      ⊎ ((i ≡ slice_index lasts (slice_index of i)) × (j ≡ slice_index firsts (slice_index of j)))

-- these are the blocks of a grid's runs
abbrev pub AreBlocksOf : RowRuns → Blocks → Type 0
AreBlocksOf rows blocks = AreBlocks rows.runs.items (noted_units rows.notes.items) (numbers_in blocks (length rows.runs.items)) (firsts_in blocks (length rows.runs.items)) (lasts_in blocks (length rows.runs.items))

abbrev pub HasBlocks : RowRuns → Type 0
HasBlocks rows = AreBlocksOf rows rows.blocks

-- the block of a run
abbrev pub block_at : RowRuns → ℕ → ℕ
block_at rows i = slice_index (numbers_of rows) i

-- a run of the one block is in contact with one of the other
pub record AreBeside (connectivity : Bool) (rows : RowRuns) (a b : ℕ) : Type 0 where
  pub first : ℕ
  pub second : ℕ
  pub in_first : block_at rows first ≡ a
  pub in_second : block_at rows second ≡ b
  pub contact : contacts connectivity rows first second

-- the blocks of the contacts of a run in the rows of this kind are in components
abbrev pub AreBlocksJoined : Bool → RowRuns → (ℕ → ℕ → Type 0) → ℕ → RunLists → Type 0
AreBlocksJoined connectivity rows kind at lists = (j : ℕ) (a b : Run) → slice_get rows.runs.items at ≡ Some a
    → slice_get rows.runs.items j ≡ Some b → kind a.row b.row → contacts connectivity rows at j
    → IsNumbered lists.components.items (block_at rows j)

-- what is at this index becomes this, and all else stays
pub record SetsAt {A : Type 0} (old new : List A) (at : ℕ) (value : A) : Type 0 where
  pub sized : length new ≡ length old
  pub at_index : slice_get new at ≡ Some value
  pub others : (i : ℕ) → i ≢ at → slice_get new i ≡ slice_get old i

-- a run got the number of its block, and stands in front of its component's list
pub record IsPut (end at k next : ℕ) (old new : RunLists) : Type 0 where
  pub components : SetsAt old.components.items new.components.items at (Some k)
  pub firsts : SetsAt old.firsts.items new.firsts.items k at
  pub alone : next ≡ end → SetsAt old.links.items new.links.items at at
  pub more : next ≢ end → SetsAt old.links.items new.links.items at next
  pub count : new.count ≡ old.count
