-- What burning a value makes of a grid's cells (manual of gdal_rasterize). The holding of sums at the ends of a type, the
-- order of features and what is burned outside are this project's own.
use Rattle.std.specs.Prelude.{◌≡◌, ℤ, ◌+ℤ◌, Bool, if◌then◌else◌, List, [], ◌∷◌, Option, Some, None}
use Rattle.std.specs.List.{list_any}
use Rattle.cell_base.specs.Clamped.{clamped}
use Rattle.cell_base.specs.Raster.{Place, Raster, IsRaster, value_at}
use Rattle.geo_transform.specs.declared.frame.Frame.{Frame}
use Rattle.wkt_text.specs.declared.geometry.Geometry.{Geometry}
use Rattle.burn_scanline.specs.Change.{Changes}
use Rattle.burn_scanline.specs.declared.burning.How.{How}
use Rattle.burn_scanline.specs.declared.burning.How.TheVariants.{Set, Add}

-- what a cell holds once a value is burned on it: the value, or the sum of both, held at the ends of the type. Values
-- are seen by their units
abbrev pub burned : ℤ → ℤ → How → ℤ → ℤ → ℤ
burned least greatest Set old value = value
burned least greatest Add old value = clamped least greatest (old +ℤ value)

-- one step: the value is burned on each cell of a set, and all others stay
abbrev pub Burns : {T : Type 0} → (T → ℤ) → ℤ → ℤ → How → T → (Place → Bool) → Raster T → Raster T → Type 0
Burns units_of least greatest how value =
    Changes (λ before after. units_of after ≡ burned least greatest how (units_of before) (units_of value))

-- which cells of a frame a geometry covers: by the centre rule, or by another
abbrev pub Cover : Type 0
Cover = Frame → Geometry → Place → Bool

-- a feature that is burned: its geometry and its value
pub record BurnedFeature : Type 0 where
  pub geometry : Geometry
  pub value : ℤ

-- a cell after features were burned in their order, each where it covers the cell
abbrev pub inside_value : ℤ → ℤ → How → Cover → Frame → ℤ → List BurnedFeature → Place → ℤ
inside_value least greatest how covers frame value [] cell = value
inside_value least greatest how covers frame value (f ∷ fs) cell =
    let after = if covers frame f.geometry cell then burned least greatest how value f.value else value in
    inside_value least greatest how covers frame after fs cell

-- a cell after one value was burned where no feature covers it, and nothing where there is no such value
abbrev pub outside_value : ℤ → ℤ → How → Cover → Frame → ℤ → Option ℤ → List BurnedFeature → Place → ℤ
outside_value least greatest how covers frame value None fs cell = value
outside_value least greatest how covers frame value (Some burn) fs cell =
    if list_any (λ f. covers frame f.geometry cell) fs then value else burned least greatest how value burn

-- a grid of the frame's size whose cells hold these values
pub record HoldsValues {T : Type 0} (units_of : T → ℤ) (frame : Frame) (value_of : Place → ℤ)
    (cells : Raster T) : Type 0 where
  pub ncols : cells.ncols ≡ frame.ncols
  pub nrows : cells.nrows ≡ frame.nrows
  pub shape : IsRaster cells
  pub values : (p : Place) (v : T) → value_at cells p ≡ Some v → units_of v ≡ value_of p

-- the cells hold what features leave that were burned in their order
abbrev pub HoldsInside : {T : Type 0} → (T → ℤ) → ℤ → ℤ → How → Cover → Frame → ℤ → List BurnedFeature → Raster T → Type 0
HoldsInside units_of least greatest how covers frame initial features =
    HoldsValues units_of frame (inside_value least greatest how covers frame initial features)

-- the cells hold what a value leaves that was burned where no feature covers them
abbrev pub HoldsOutside : {T : Type 0} → (T → ℤ) → ℤ → ℤ → How → Cover → Frame → ℤ → ℤ → List BurnedFeature → Raster T
    → Type 0
HoldsOutside units_of least greatest how covers frame initial value features =
    HoldsValues units_of frame (outside_value least greatest how covers frame initial (Some value) features)
