-- Worked examples of what check makes.
use Rattle.std.proofs.Common.{◌≡◌, ℕ, ℤ, [], ◌∷◌, pos, refl, Err}
use Rattle.std.specs.Prelude.{codes}
use Rattle.std.specs.Fmt.{digits}
use Rattle.cell_base.specs.declared.kind.CellKind.TheVariants.{Int64}
use Rattle.geo_transform.specs.declared.fault.FrameFault.TheVariants.{TooLarge}
use Rattle.tool_words.specs.declared.job.CheckJob.{CheckJob}
use Rattle.tool_outcome.specs.Check.{check_lines, checked_grid, grid_to_check, number_in_turn}
use Rattle.tool_outcome.specs.declared.fault.Fault.TheVariants.{Frame as FrameOf}

-- 3 columns and 2 rows of two values
abbrev small : CheckJob
small = record { seed = 1; width = 3; height = 2; values = 2; kind = Int64 }

numbers : (number_in_turn 1 1 ≡ 1103527590) × (number_in_turn 1 2 ≡ 377401575) × (number_in_turn 1 3 ≡ 662824084)
    × (number_in_turn 1 4 ≡ 1147902781) × (number_in_turn 1 5 ≡ 2035015474) × (number_in_turn 1 6 ≡ 368800899)
numbers = (refl, refl, refl, refl, refl, refl)

cells : (checked_grid small).cells.rows ≡ (pos 0 ∷ pos 0 ∷ pos 1 ∷ []) ∷ (pos 1 ∷ pos 1 ∷ pos 1 ∷ []) ∷ []
cells = refl

too_large : grid_to_check (record { seed = 1; width = 5000; height = 5000; values = 2; kind = Int64 }) ≡ Err (FrameOf (TooLarge 25000000))
too_large = refl

lines : check_lines 6 2 87 ≡ codes "cells 6\npolygons 2\nlayer 87\nsame\n"
unfolding digits
lines = refl
