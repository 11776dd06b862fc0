-- The components of a grid as a table.
use Rattle.std.specs.Prelude.{◌≡◌, ℕ, ◌<◌, ◌↔◌, Bool, List, Option, Some, Contains, length, slice_get}
use Rattle.cell_base.specs.Raster.{Place, Raster, AreAligned, value_at}
use Rattle.cell_base.specs.Valid.{IsMarked}
use Rattle.region_label.specs.Component.{InComponent, IsFirst, HasNumber, HasSize}

-- a number for each cell that is in a component, and by numbers the first cell and the size of each component
pub record RegionTable : Type 0 where
  pub numbers : Raster (Option ℕ)
  pub firsts : List Place
  pub sizes : List ℕ

-- the cell is in the component of this number
abbrev pub IsInRegion : RegionTable → ℕ → Place → Type 0
IsInRegion regions k place = value_at regions.numbers place ≡ Some (Some k)

-- the table is that of the components of these cells
pub record IsLabelling {T : Type 0} (connectivity : Bool) (cells : Raster T) (valid : Raster Bool)
    (regions : RegionTable) : Type 0 where
  -- the cells, the mask and the numbers are of one size
  pub mask : AreAligned cells valid
  pub numbers : AreAligned cells regions.numbers
  -- the first cells stand by number, and none is missing
  pub first : (k : ℕ) (a : Place) → slice_get regions.firsts k ≡ Some a → IsFirst connectivity cells valid a
  pub number : (k : ℕ) (a : Place) → slice_get regions.firsts k ≡ Some a
      → HasNumber connectivity cells valid a k
  pub every : (a : Place) → IsFirst connectivity cells valid a → Contains regions.firsts a
  -- a cell has a number exactly where it is valid, and it is that of its component
  pub valid_cells : (p : Place) → IsMarked valid p ↔ ((k : ℕ) × IsInRegion regions k p)
  pub region : (k : ℕ) (a p : Place) → slice_get regions.firsts k ≡ Some a
      → IsInRegion regions k p ↔ InComponent connectivity cells valid a p
  pub known : (k : ℕ) (p : Place) → IsInRegion regions k p → k < length regions.firsts
  -- the sizes
  pub sized : length regions.sizes ≡ length regions.firsts
  pub size : (k : ℕ) (a : Place) (n : ℕ) → slice_get regions.firsts k ≡ Some a
      → slice_get regions.sizes k ≡ Some n → HasSize connectivity cells valid a n
