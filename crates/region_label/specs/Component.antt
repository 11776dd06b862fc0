-- Connected components of equal valid cells: the regions of the manuals of gdal_polygonize and gdal_sieve. The numbers
-- are this project's own.
use Rattle.std.specs.Prelude.{◌≡◌, ℕ, Bool, Option}
use Rattle.cell_base.specs.Raster.{Place, Raster, value_at}
use Rattle.cell_base.specs.Valid.{IsMarked}
use Rattle.cell_base.specs.Walk.{IsJoined}
use Rattle.cell_base.specs.Order.{IsBefore}
use Rattle.region_label.specs.Count.{HasCount}

-- the valid cells of one value
abbrev pub HasValue : {T : Type 0} → Raster T → Raster Bool → Option T → Place → Type 0
HasValue cells valid value place = IsMarked valid place × (value_at cells place ≡ value)

-- the component of a cell: the cells that are joined to it through valid cells of its value
abbrev pub InComponent : {T : Type 0} → Bool → Raster T → Raster Bool → Place → Place → Type 0
InComponent connectivity cells valid a b = IsJoined connectivity (HasValue cells valid (value_at cells a)) a b

-- the first cell of its component: no other of its cells is in an earlier row, or earlier in the same row
pub record IsFirst {T : Type 0} (connectivity : Bool) (cells : Raster T) (valid : Raster Bool) (a : Place) : Type 0 where
  pub marked : IsMarked valid a
  pub least : (b : Place) → InComponent connectivity cells valid a b → ¬ IsBefore b a

-- the number of the component with this first cell: how many first cells are before it
abbrev pub HasNumber : {T : Type 0} → Bool → Raster T → Raster Bool → Place → ℕ → Type 0
HasNumber connectivity cells valid first k = HasCount (λ a. IsFirst connectivity cells valid a × IsBefore a first) k

-- the size of the component of a cell: how many cells it has
abbrev pub HasSize : {T : Type 0} → Bool → Raster T → Raster Bool → Place → ℕ → Type 0
HasSize connectivity cells valid a n = HasCount (InComponent connectivity cells valid a) n
