-- The order of places.
use Rattle.std.specs.Prelude.{◌≡◌, ◌<◌, ◌⊎◌}
use Rattle.cell_base.specs.Raster.{Place}

-- an earlier row, or the same row and an earlier column
abbrev pub IsBefore : Place → Place → Type 0
IsBefore a b = (a.0 < b.0) ⊎ ((a.0 ≡ b.0) × (a.1 < b.1))
