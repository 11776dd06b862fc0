-- Which cells count.
use Rattle.std.specs.Prelude.{◌≡◌, ◌≢◌, Bool, true, Option, Some}
use Rattle.cell_base.specs.Raster.{Place, Raster, value_at}

-- a valid cell: one whose value isn't the nodata value (manuals of gdal_polygonize and gdal_sieve)
abbrev pub IsValid : {T : Type 0} → Raster T → Option T → Place → Type 0
IsValid {T} cells nodata place = (value : T) × (value_at cells place ≡ Some value) × (nodata ≢ Some value)

-- the mask is true there
abbrev pub IsMarked : Raster Bool → Place → Type 0
IsMarked mask place = value_at mask place ≡ Some true
