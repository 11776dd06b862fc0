use Rattle.std.proofs.Common.{◌-◌, length}
use Rattle.burn_scanline.specs.Inner.Scan.{FillsTo}
use Rattle.burn_scanline.proofs.centre.push_row.Given as goal

-- the runs of the columns before this one are added
abbrev pub invariant-loop-at : goal.invariant-loop-at
invariant-loop-at l = FillsTo l.row l.ncols l.columns l.at l.fn.runs l.runs

abbrev pub decreases-loop-at : goal.decreases-loop-at
decreases-loop-at l = length l.columns - l.at
