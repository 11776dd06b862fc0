-- Grids in which some cells change. This project's own.
use Rattle.std.specs.Prelude.{◌≡◌, Bool, true, false, Some, unwrap_or}
use Rattle.cell_base.specs.Raster.{Place, Raster, IsRaster, value_at}

-- each cell of a set changes in this way, and all others stay
pub record Changes {T : Type 0} (change : T → T → Type 0) (set : Place → Bool) (old new : Raster T) : Type 0 where
  pub ncols : new.ncols ≡ old.ncols
  pub nrows : new.nrows ≡ old.nrows
  pub shape : IsRaster new
  pub on : (p : Place) (before after : T) → set p ≡ true → value_at old p ≡ Some before → value_at new p ≡ Some after
      → change before after
  pub off : (p : Place) → set p ≡ false → value_at new p ≡ value_at old p

-- the mask is true there
abbrev pub is_marked : Raster Bool → Place → Bool
is_marked mask p = unwrap_or (value_at mask p) false

-- each cell of a set is true in the new mask, and all others stay
abbrev pub Marks : (Place → Bool) → Raster Bool → Raster Bool → Type 0
Marks = Changes (λ before after. after ≡ true)
