-- How far the values have been written.
use Rattle.std.specs.Prelude.{◌≡◌, ℕ, ◌<◌, ◌⊎◌, List, Some, slice_get}
use Rattle.cell_base.specs.Raster.{Place, Raster, IsRaster, value_at}
use Rattle.region_label.specs.Labelling.{RegionTable, IsInRegion}
use Rattle.region_label.specs.Run.{Run, IsCellOf}
use Rattle.region_label.specs.RunTable.{TableOfRuns}
use Rattle.sieve_core.specs.Sieve.{HasRegionValue}
use Rattle.sieve_core.specs.declared.targets.Target.{Target}
use Rattle.sieve_core.specs.declared.targets.Target.TheVariants.{Takes, Stays}

-- the cells of a run have a value, and all others the value that they had
pub record WritesRun {T : Type 0} (run : Run) (value : T) (old new : Raster T) : Type 0 where
  pub ncols : new.ncols ≡ old.ncols
  pub nrows : new.nrows ≡ old.nrows
  pub shape : IsRaster new
  pub cells : (p : Place) → IsCellOf run p → value_at new p ≡ Some value
  pub others : (p : Place) → IsCellOf run p ⊎ (value_at new p ≡ value_at old p)

-- the cells of a region have one value
abbrev pub AreAlike : {T : Type 0} → RegionTable → Raster T → Type 0
AreAlike regions cells = (k : ℕ) (p q : Place) → IsInRegion regions k p → IsInRegion regions k q
    → value_at cells q ≡ value_at cells p

-- the first cells are in their regions
abbrev pub AreFirstsIn : RegionTable → Type 0
AreFirstsIn regions = (k : ℕ) (a : Place) → slice_get regions.firsts k ≡ Some a → IsInRegion regions k a

-- a cell of a component has the value that its target gives it
pub record HasNewValue {T : Type 0} (regions : RegionTable) (targets : List Target) (old new : Raster T) (k : ℕ)
    (p : Place) : Type 0 where
  pub taken : (m : ℕ) → slice_get targets k ≡ Some (Takes m) → HasRegionValue old regions m (value_at new p)
  pub stays : slice_get targets k ≡ Some Stays → value_at new p ≡ value_at old p

-- the cells of the runs before one have their new values, and all others the old ones
pub record AreWritten {T : Type 0} (regions : RegionTable) (table : TableOfRuns) (targets : List Target)
    (old new : Raster T) (n : ℕ) : Type 0 where
  pub alike : AreAlike regions old
  pub ncols : new.ncols ≡ old.ncols
  pub nrows : new.nrows ≡ old.nrows
  pub shape : IsRaster new
  pub done : (j k : ℕ) (run : Run) (p : Place) → j < n → slice_get table.runs j ≡ Some run
      → slice_get table.components j ≡ Some (Some k) → IsCellOf run p → HasNewValue regions targets old new k p
  pub left : (p : Place) → ((j : ℕ) (run : Run) → j < n → slice_get table.runs j ≡ Some run → ¬ IsCellOf run p)
      → value_at new p ≡ value_at old p
