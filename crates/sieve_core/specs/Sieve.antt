-- The sieved grid: small components take the value of a larger neighbour (manual of gdal_sieve). Ties and chains are
-- this project's own.
use Rattle.std.specs.Prelude.{◌≡◌, ◌≢◌, ℕ, ◌<◌, ◌≤◌, Bool, List, Option, Some, length, slice_get, slice_index}
use Rattle.cell_base.specs.Raster.{Place, Raster, AreAligned, value_at}
use Rattle.cell_base.specs.Steps.{IsStep}
use Rattle.cell_base.specs.Walk.{IsWalk}
use Rattle.region_label.specs.Labelling.{RegionTable, IsInRegion, IsLabelling}

-- neighbours: other components, with a cell that is one step from a cell of this one
abbrev pub IsNextTo : Bool → RegionTable → ℕ → ℕ → Type 0
IsNextTo connectivity regions k m = (k ≢ m) × (p : Place) × (q : Place)
    × IsInRegion regions k p × IsInRegion regions m q × IsStep connectivity p q

-- the size of a component in the input
abbrev pub size_of : RegionTable → ℕ → ℕ
size_of regions k = slice_index regions.sizes k

-- the largest neighbour: no neighbour is larger, and of those of its size it has the lowest number
pub record IsLargest (connectivity : Bool) (regions : RegionTable) (k m : ℕ) : Type 0 where
  pub next_to : IsNextTo connectivity regions k m
  pub largest : (j : ℕ) → IsNextTo connectivity regions k j → size_of regions j ≤ size_of regions m
  pub lowest : (j : ℕ) → IsNextTo connectivity regions k j → size_of regions j ≡ size_of regions m → m ≤ j

-- at most one thing is of this kind
abbrev pub HasAtMostOne : {A : Type 0} → (A → Type 0) → Type 0
HasAtMostOne {A} P = (x y : A) → P x → P y → x ≡ y

-- one step of a chain: from a component of fewer than st cells to its largest neighbour
abbrev pub IsChained : Bool → RegionTable → ℕ → ℕ → ℕ → Type 0
IsChained connectivity regions st k m = (size_of regions k < st) × IsLargest connectivity regions k m

-- the component takes the value of another: the first of its chain that has at least st cells, among as many members
-- as there are components
abbrev pub TakesFrom : Bool → RegionTable → ℕ → ℕ → ℕ → Type 0
TakesFrom connectivity regions st k m = (chain : List ℕ) × IsWalk (IsChained connectivity regions st) k chain m
    × (length chain < length regions.firsts) × (st ≤ size_of regions m)

-- the value of a component
abbrev pub HasRegionValue : {T : Type 0} → Raster T → RegionTable → ℕ → Option T → Type 0
HasRegionValue cells regions k value = (first : Place) × (slice_get regions.firsts k ≡ Some first)
    × (value_at cells first ≡ value)

-- the grid with the values that the components take
pub record TakesValues {T : Type 0} (connectivity : Bool) (regions : RegionTable) (st : ℕ) (old new : Raster T) : Type 0 where
  pub aligned : AreAligned old new
  pub taken : (p : Place) (k m : ℕ) → IsInRegion regions k p → TakesFrom connectivity regions st k m
      → HasRegionValue old regions m (value_at new p)
  pub stays : (p : Place) (k : ℕ) → IsInRegion regions k p → ((m : ℕ) → ¬ TakesFrom connectivity regions st k m)
      → value_at new p ≡ value_at old p
  pub not_valid : (p : Place) → ((k : ℕ) → ¬ IsInRegion regions k p) → value_at new p ≡ value_at old p

-- the sieved grid: by the components and the sizes of the input throughout
abbrev pub IsSieved : {T : Type 0} → Bool → Raster T → Raster Bool → ℕ → Raster T → Type 0
IsSieved connectivity cells valid st sieved = (regions : RegionTable)
    × IsLabelling connectivity cells valid regions × TakesValues connectivity regions st cells sieved
