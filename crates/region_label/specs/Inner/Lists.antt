-- The runs of each component as a linked list, and how far a fill has come.
use Rattle.std.specs.Prelude.{◌≡◌, ◌≢◌, ℕ, ◌+◌, ◌<◌, ◌≤◌, ◌⊎◌, ℤ, Bool, List, ◌++◌, Option, Some, None, AllPairs, Contains, length, replicate, slice_get}
use Rattle.cell_base.specs.Steps.{AreNext, step_reach}
use Rattle.cell_base.specs.Walk.{IsWalk}
use Rattle.region_label.specs.Run.{Run}
use Rattle.region_label.specs.Inner.Rows.{noted_units}
use Rattle.region_label.specs.declared.rows.RowRuns.{RowRuns}
use Rattle.region_label.specs.declared.lists.RunLists.{RunLists}

-- the runs are in neighbouring rows, and a step leads from a cell of the one to a cell of the other
abbrev pub Touches : Bool → Run → Run → Type 0
Touches connectivity a b = AreNext a.row b.row × (a.from < b.to + step_reach connectivity) × (b.from < a.to + step_reach connectivity)

-- two runs of equal units touch
pub record IsContact (connectivity : Bool) (runs : List Run) (units : List ℤ) (i j : ℕ) : Type 0 where
  pub first : Run
  pub second : Run
  pub value : ℤ
  pub at_first : slice_get runs i ≡ Some first
  pub at_second : slice_get runs j ≡ Some second
  pub first_value : slice_get units i ≡ Some value
  pub second_value : slice_get units j ≡ Some value
  pub touch : Touches connectivity first second

-- the run is in the component of this number, or in none
abbrev pub IsOf : List (Option ℕ) → ℕ → ℕ → Type 0
IsOf components i k = slice_get components i ≡ Some (Some k)

abbrev pub IsNumbered : List (Option ℕ) → ℕ → Type 0
IsNumbered components i = (k : ℕ) × IsOf components i k

abbrev pub IsFree : List (Option ℕ) → ℕ → Type 0
IsFree components i = slice_get components i ≡ Some None

-- the linked list from a first run to a last
pub record IsLinked (links : List ℕ) (list : List ℕ) (start last : ℕ) : Type 0 where
  pub first : slice_get list 0 ≡ Some start
  pub once : AllPairs (λ i j. i ≢ j) list
  pub next : (m i j : ℕ) → slice_get list m ≡ Some i → slice_get list (m + 1) ≡ Some j → slice_get links i ≡ Some j
  pub last_at : (m : ℕ) → m + 1 ≡ length list → slice_get list m ≡ Some last
  pub ends : slice_get links last ≡ Some last

-- the runs in a list got the number, and all others are as they were
pub record IsFilling (touch : ℕ → ℕ → Type 0) (start number : ℕ) (before after : List (Option ℕ))
    (links_before links : List ℕ) (list : List ℕ) (last : ℕ) : Type 0 where
  pub linked : IsLinked links list start last
  pub numbered : (i : ℕ) → Contains list i → IsOf after i number
  pub free : (i : ℕ) → Contains list i → IsFree before i
  pub reached : (i : ℕ) → Contains list i → (walk : List ℕ) × IsWalk touch start walk i
  pub kept : (i : ℕ) → Contains list i
      ⊎ ((slice_get after i ≡ slice_get before i) × (slice_get links i ≡ slice_get links_before i))

-- as many components and links as runs
pub record AreSized (count : ℕ) (lists : RunLists) : Type 0 where
  pub components : length lists.components.items ≡ count
  pub links : length lists.links.items ≡ count
  pub firsts : length lists.firsts.items ≡ count

-- a list under way has grown by runs that touch one of its members
pub record Joins (touch : ℕ → ℕ → Type 0) (at number : ℕ) (old new : RunLists) (last new_last : ℕ) : Type 0 where
  pub components : length new.components.items ≡ length old.components.items
  pub links : length new.links.items ≡ length old.links.items
  pub firsts : new.firsts ≡ old.firsts
  pub count : new.count ≡ old.count
  pub within : last < length old.links.items → new_last < length old.links.items
  pub kept : (i k : ℕ) → IsOf old.components.items i k → IsOf new.components.items i k
  pub grows : (start : ℕ) (base : RunLists) (list : List ℕ)
      → ((i : ℕ) → IsFree base.components.items i → slice_get base.links.items i ≡ Some i)
      → IsFilling touch start number base.components.items old.components.items base.links.items old.links.items list last
      → Contains list at
      → (more : List ℕ) × IsFilling touch start number base.components.items new.components.items
      base.links.items new.links.items (list ++ more) new_last

-- the contacts of the runs
abbrev pub contacts : Bool → RowRuns → ℕ → ℕ → Type 0
contacts connectivity rows = IsContact connectivity rows.runs.items (noted_units rows.notes.items)

-- the run at the second index lies in a row beside that of the first, and begins early enough to touch it
abbrev pub BeginsBeside : Bool → RowRuns → ℕ → ℕ → Type 0
BeginsBeside connectivity rows i j = (a b : Run) → slice_get rows.runs.items i ≡ Some a → slice_get rows.runs.items j ≡ Some b
    → AreNext a.row b.row × (b.from < a.to + step_reach connectivity)

-- a run that is in no component is linked to itself
abbrev pub IsLinkedToItself : RunLists → Type 0
IsLinkedToItself lists = (i : ℕ) → IsFree lists.components.items i → slice_get lists.links.items i ≡ Some i

-- the component of a run is filled
pub record Fills (touch : ℕ → ℕ → Type 0) (start number : ℕ) (old new : RunLists) : Type 0 where
  pub list : List ℕ
  pub last : ℕ
  pub filling : IsFilling touch start number old.components.items new.components.items old.links.items new.links.items
      list last
  pub closed : (i j : ℕ) → Contains list i → touch i j → IsNumbered new.components.items j
  pub components : length new.components.items ≡ length old.components.items
  pub links : length new.links.items ≡ length old.links.items
  pub firsts : new.firsts ≡ old.firsts
  pub count : new.count ≡ old.count

-- a component that is filled: its runs are those of a list
pub record IsListed (touch : ℕ → ℕ → Type 0) (components : List (Option ℕ)) (links firsts : List ℕ) (k : ℕ)
    (list : List ℕ) : Type 0 where
  pub start : ℕ
  pub last : ℕ
  pub start_at : slice_get firsts k ≡ Some start
  pub linked : IsLinked links list start last
  pub numbered : (i : ℕ) → Contains list i → IsOf components i k
  pub all : (i : ℕ) → IsOf components i k → Contains list i
  pub reached : (i : ℕ) → Contains list i → (walk : List ℕ) × IsWalk touch start walk i
  pub least : (i : ℕ) → Contains list i → start ≤ i

-- the runs before one are in components, and these are filled
pub record AreFilled (touch : ℕ → ℕ → Type 0) (runs : ℕ) (lists : RunLists) (at : ℕ) : Type 0 where
  pub sized : AreSized runs lists
  pub few : lists.count ≤ at
  pub listed : (k : ℕ) → k < lists.count
      → (list : List ℕ) × IsListed touch lists.components.items lists.links.items lists.firsts.items k list
  pub order : (k m i j : ℕ) → k < m → m < lists.count → slice_get lists.firsts.items k ≡ Some i
      → slice_get lists.firsts.items m ≡ Some j → i < j
  pub before : (k i : ℕ) → k < lists.count → slice_get lists.firsts.items k ≡ Some i → i < at
  pub done : (i : ℕ) → i < at → IsNumbered lists.components.items i
  pub known : (i k : ℕ) → IsOf lists.components.items i k → k < lists.count
  pub closed : (i j k : ℕ) → IsOf lists.components.items i k → touch i j → IsOf lists.components.items j k
  pub free : IsLinkedToItself lists

-- no run is in a component, and each is linked to itself
pub record HasNone (lists : RunLists) : Type 0 where
  pub components : lists.components.items ≡ replicate (length lists.components.items) None
  pub links : (i : ℕ) → i < length lists.links.items → slice_get lists.links.items i ≡ Some i

-- the lists are so now
pub record IsCleared (old new : RunLists) : Type 0 where
  pub components : new.components.items ≡ replicate (length old.components.items) None
  pub sized : length new.links.items ≡ length old.links.items
  pub links : (i : ℕ) → i < length new.links.items → slice_get new.links.items i ≡ Some i
  pub firsts : new.firsts ≡ old.firsts
  pub count : new.count ≡ 0
