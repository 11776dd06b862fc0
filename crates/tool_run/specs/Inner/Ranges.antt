-- The levels that a job asks for, and the range of a grid's values.
use Rattle.std.specs.Prelude.{◌≡◌, ◌≢◌, ℤ, ◌⊎◌, int_le, if◌then◌else◌, Option, Some, None}
use Rattle.cell_base.specs.Order.{IsBefore}
use Rattle.cell_base.specs.Raster.{Place, Raster, value_at}
use Rattle.asc_grid.specs.declared.grid.Asc.{Asc}
use Rattle.contour_segments.specs.Levels.{HasPositiveInterval}
use Rattle.tool_words.specs.declared.job.ContourJob.{ContourJob}
use Rattle.tool_words.specs.declared.job.Job.{Job}
use Rattle.tool_words.specs.declared.job.Job.TheVariants.{Contour}
use Rattle.tool_outcome.specs.Contour.{HasTooMany, spec_of}
use Rattle.tool_outcome.specs.declared.fault.Fault.{Fault}
use Rattle.tool_outcome.specs.declared.fault.Fault.TheVariants.{NoMemory, TooManyLevels}

-- an interval that a job has is positive
abbrev pub HasInterval : Job → Type 0
HasInterval (Contour job) = HasPositiveInterval (spec_of job)
HasInterval other = Unit {0}

-- the range of some values and one more
abbrev pub widened : Option (ℤ × ℤ) → ℤ → Option (ℤ × ℤ)
widened None value = Some (value, value)
widened (Some ends) value = Some (if int_le ends.0 value then ends.0 else value, if int_le value ends.1 then ends.1 else value)

-- a valid cell's value widens the range, and any other leaves it
abbrev pub Passes : Option ℤ → ℤ → Option (ℤ × ℤ) → Option (ℤ × ℤ) → Type 0
Passes nodata value before after =
    ((nodata ≢ Some value) × (after ≡ widened before value)) ⊎ ((nodata ≡ Some value) × (after ≡ before))

-- the value of a valid cell before a place
abbrev pub IsValueBefore : Raster ℤ → Option ℤ → Place → ℤ → Type 0
IsValueBefore cells nodata end value =
    (p : Place) × IsBefore p end × (value_at cells p ≡ Some value) × (nodata ≢ Some value)

-- a fault that the levels of a grid can have
abbrev pub IsLevelFault : ContourJob → Asc ℤ → Fault → Type 0
IsLevelFault job asc (TooManyLevels count) = HasTooMany job asc count
IsLevelFault job asc NoMemory = Unit {0}
IsLevelFault job asc fault = ⊥
