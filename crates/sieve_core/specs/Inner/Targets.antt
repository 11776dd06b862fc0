-- How far the chains have been followed.
use Rattle.std.specs.Prelude.{◌≡◌, ◌≢◌, ℕ, ◌<◌, ◌≤◌, ◌⊎◌, ◌↔◌, Bool, List, Option, Some, None, AllPairs, Contains, length, slice_get}
use Rattle.cell_base.specs.Raster.{Place}
use Rattle.cell_base.specs.Walk.{IsWalk}
use Rattle.region_label.specs.Labelling.{RegionTable, IsInRegion}
use Rattle.sieve_core.specs.Sieve.{IsChained, TakesFrom, size_of}
use Rattle.sieve_core.specs.declared.targets.Target.{Target}
use Rattle.sieve_core.specs.declared.targets.Target.TheVariants.{Unknown, UnderWay, Takes, Stays}

-- the numbers in a grid are those of components
abbrev pub AreKnown : RegionTable → Type 0
AreKnown regions = (k : ℕ) (p : Place) → IsInRegion regions k p → k < length regions.firsts

-- the chain of a component leads to one with at least st cells
abbrev pub LeadsTo : Bool → RegionTable → ℕ → ℕ → ℕ → Type 0
LeadsTo connectivity regions st k m = (chain : List ℕ) × IsWalk (IsChained connectivity regions st) k chain m
    × (st ≤ size_of regions m)

-- what is known of some chains is right, and those that stay lead to others that stay
pub record AreRight (connectivity : Bool) (regions : RegionTable) (st : ℕ) (targets : List Target) : Type 0 where
  pub long : length targets ≡ length regions.firsts
  pub takes : (k m : ℕ) → slice_get targets k ≡ Some (Takes m) → LeadsTo connectivity regions st k m
  pub small : (k : ℕ) → slice_get targets k ≡ Some Stays → size_of regions k < st
  pub stays : (k m : ℕ) → slice_get targets k ≡ Some Stays → IsChained connectivity regions st k m
      → slice_get targets m ≡ Some Stays

-- a chain under way: its members so far, and the next
pub record IsUnderWay (connectivity : Bool) (regions : RegionTable) (st : ℕ) (old new : List Target) (path : List ℕ)
    (start at : ℕ) : Type 0 where
  pub right : AreRight connectivity regions st new
  pub on : (k : ℕ) → (slice_get new k ≡ Some UnderWay) ↔ Contains path k
  pub off : (k : ℕ) → Contains path k ⊎ (slice_get new k ≡ slice_get old k)
  pub once : AllPairs (λ i j. i ≢ j) path
  pub small : (k : ℕ) → Contains path k → size_of regions k < st
  pub reach : (k : ℕ) → Contains path k → (chain : List ℕ) × IsWalk (IsChained connectivity regions st) k chain at
  pub next : (k m : ℕ) → Contains path k → IsChained connectivity regions st k m → Contains path m ⊎ (m ≡ at)
  pub started : (start ≡ at) ⊎ Contains path start
  pub below : at < length regions.firsts

-- where a chain that was followed ends
abbrev pub IsEnd : Bool → RegionTable → ℕ → List Target → List ℕ → ℕ → Option ℕ → Type 0
IsEnd connectivity regions st targets path start (Some m) = (k : ℕ) → Contains path k ⊎ (k ≡ start)
    → LeadsTo connectivity regions st k m
IsEnd connectivity regions st targets path start None = Contains path start × ((k : ℕ) → Contains path k
    → (size_of regions k < st) × ((m : ℕ) → IsChained connectivity regions st k m
    → Contains path m ⊎ (slice_get targets m ≡ Some Stays)))

-- a chain that was followed to its end
pub record IsFollowed (connectivity : Bool) (regions : RegionTable) (st : ℕ) (old new : List Target) (path : List ℕ)
    (start : ℕ) (end : Option ℕ) : Type 0 where
  pub right : AreRight connectivity regions st new
  pub on : (k : ℕ) → (slice_get new k ≡ Some UnderWay) ↔ Contains path k
  pub off : (k : ℕ) → Contains path k ⊎ (slice_get new k ≡ slice_get old k)
  pub below : (k : ℕ) → Contains path k → k < length regions.firsts
  pub ends : IsEnd connectivity regions st new path start end

-- no chain is under way
abbrev pub IsIdle : List Target → Type 0
IsIdle targets = (k : ℕ) → slice_get targets k ≢ Some UnderWay

-- the targets of the components before one are known
abbrev pub AreKnownBelow : List Target → ℕ → Type 0
AreKnownBelow targets n = (k : ℕ) → k < n → slice_get targets k ≢ Some Unknown

-- the target of an end
abbrev pub target_at : Option ℕ → Target
target_at (Some m) = Takes m
target_at None = Stays

-- the members of a chain have this target, and all others the one that they had
pub record Settles (old new : List Target) (path : List ℕ) (start : ℕ) (target : Target) : Type 0 where
  pub long : length new ≡ length old
  pub set : (k : ℕ) → Contains path k ⊎ (k ≡ start) → slice_get new k ≡ Some target
  pub others : (k : ℕ) → (Contains path k ⊎ (k ≡ start)) ⊎ (slice_get new k ≡ slice_get old k)

-- the target of each component
pub record AreTargets (connectivity : Bool) (regions : RegionTable) (st : ℕ) (targets : List Target) : Type 0 where
  pub long : length targets ≡ length regions.firsts
  pub taken : (k m : ℕ) → slice_get targets k ≡ Some (Takes m) → TakesFrom connectivity regions st k m
  pub below : (k m : ℕ) → slice_get targets k ≡ Some (Takes m) → m < length regions.firsts
  pub none : (k m : ℕ) → slice_get targets k ≡ Some Stays → ¬ TakesFrom connectivity regions st k m
  pub idle : IsIdle targets
  pub known : (k : ℕ) → slice_get targets k ≢ Some Unknown
