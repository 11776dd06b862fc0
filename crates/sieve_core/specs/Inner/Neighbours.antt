-- How far the largest neighbours have been found.
use Rattle.std.specs.Prelude.{◌≡◌, ◌≢◌, ℕ, ◌+◌, ◌<◌, ◌≤◌, ◌⊎◌, Bool, List, Option, Some, None, length, slice_get}
use Rattle.region_label.specs.Labelling.{RegionTable}
use Rattle.region_label.specs.Run.{Run}
use Rattle.region_label.specs.RunTable.{TableOfRuns}
use Rattle.cell_base.specs.Steps.{step_reach}
use Rattle.sieve_core.specs.Sieve.{IsNextTo, IsLargest, size_of}

-- one component is no better a neighbour than another: smaller, or as large with no lower number
abbrev pub IsNoBetter : RegionTable → ℕ → ℕ → Type 0
IsNoBetter regions j m = (size_of regions j < size_of regions m) ⊎ ((size_of regions j ≡ size_of regions m) × (m ≤ j))

-- the best neighbour of a component so far is no worse than this one
abbrev pub IsCovered : RegionTable → List (Option ℕ) → ℕ → ℕ → Type 0
IsCovered regions best k j = (m : ℕ) × (slice_get best k ≡ Some (Some m)) × IsNoBetter regions j m

-- a place for each component, and components in them
pub record AreBest (regions : RegionTable) (best : List (Option ℕ)) : Type 0 where
  pub long : length best ≡ length regions.firsts
  pub below : (k m : ℕ) → slice_get best k ≡ Some (Some m) → m < length regions.firsts

-- the best so far are neighbours
abbrev pub AreNeighbours : Bool → RegionTable → List (Option ℕ) → Type 0
AreNeighbours connectivity regions best = (k m : ℕ) → slice_get best k ≡ Some (Some m) → IsNextTo connectivity regions k m

-- the best so far have become no worse
pub record Improves (connectivity : Bool) (regions : RegionTable) (old new : List (Option ℕ)) : Type 0 where
  pub long : length new ≡ length old
  pub sound : AreNeighbours connectivity regions old → AreNeighbours connectivity regions new
  pub kept : (k j : ℕ) → IsCovered regions old k j → IsCovered regions new k j

-- two runs of different components are of neighbours
abbrev pub AreNear : Bool → RegionTable → TableOfRuns → ℕ → ℕ → Type 0
AreNear connectivity regions table i j = (k m : ℕ) → slice_get table.components i ≡ Some (Some k)
    → slice_get table.components j ≡ Some (Some m) → k ≢ m
    → IsNextTo connectivity regions k m × IsNextTo connectivity regions m k

-- the components of two runs, if they are small, know each other as neighbours
abbrev pub HaveMet : RegionTable → TableOfRuns → ℕ → List (Option ℕ) → ℕ → ℕ → Type 0
HaveMet regions table st best i j = (k m : ℕ) → slice_get table.components i ≡ Some (Some k)
    → slice_get table.components j ≡ Some (Some m) → k ≢ m
    → (size_of regions k < st → IsCovered regions best k m) × (size_of regions m < st → IsCovered regions best m k)

-- the second run begins where the first ends, or is in the next row and touches it
abbrev pub ComesNext : Bool → Run → Run → Type 0
ComesNext connectivity a b = ((b.row ≡ a.row) × (b.from ≡ a.to))
    ⊎ ((b.row ≡ a.row + 1) × (a.from < b.to + step_reach connectivity) × (b.from < a.to + step_reach connectivity))

-- a run has met the runs of this kind that come just before it
abbrev pub HasMetAll : Bool → RegionTable → TableOfRuns → ℕ → List (Option ℕ) → ℕ → (ℕ → Run → Run → Type 0) → Type 0
HasMetAll connectivity regions table st best i kind = (j : ℕ) (a b : Run) → slice_get table.runs j ≡ Some a
    → slice_get table.runs i ≡ Some b → kind j a b → ComesNext connectivity a b → HaveMet regions table st best j i

-- all runs of these rows have
abbrev pub RowsHaveMet : Bool → RegionTable → TableOfRuns → ℕ → List (Option ℕ) → (ℕ → Type 0) → Type 0
RowsHaveMet connectivity regions table st best rows = (i : ℕ) → HasMetAll connectivity regions table st best i (λ j a b. rows b.row)

-- the runs from one index up to another are in the row above a run, and end far enough to the right to touch it
abbrev pub AreAbove : Bool → TableOfRuns → ℕ → ℕ → ℕ → Type 0
AreAbove connectivity table i from to = (j : ℕ) (a b : Run) → from ≤ j → j < to → slice_get table.runs j ≡ Some a
    → slice_get table.runs i ≡ Some b → (b.row ≡ a.row + 1) × (b.from < a.to + step_reach connectivity)

-- the largest neighbours of the small components
pub record AreLargest (connectivity : Bool) (regions : RegionTable) (st : ℕ) (largest : List (Option ℕ)) : Type 0 where
  pub long : length largest ≡ length regions.firsts
  pub is : (k m : ℕ) → slice_get largest k ≡ Some (Some m) → size_of regions k < st → IsLargest connectivity regions k m
  pub none : (k : ℕ) → slice_get largest k ≡ Some None → size_of regions k < st
      → (j : ℕ) → ¬ IsNextTo connectivity regions k j

-- of the runs from one index up to another, the first that doesn't end too far left of a run to touch it
pub record IsFirstTouching (connectivity : Bool) (table : TableOfRuns) (i first end at : ℕ) : Type 0 where
  pub from : first ≤ at
  pub to : at ≤ end
  pub early : (j : ℕ) (a b : Run) → first ≤ j → j < at → slice_get table.runs j ≡ Some a
      → slice_get table.runs i ≡ Some b → a.to + step_reach connectivity ≤ b.from
  pub late : (a b : Run) → at < end → slice_get table.runs at ≡ Some a
      → slice_get table.runs i ≡ Some b → b.from < a.to + step_reach connectivity
