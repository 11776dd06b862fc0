use Rattle.std.proofs.Common.{take}
use Rattle.burn_scanline.specs.Burned.{Burns}
use Rattle.burn_scanline.specs.Runs.{is_in_runs}
use Rattle.burn_scanline.proofs.burning.burn_runs.Given as goal

-- the runs before this one are burned
abbrev pub invariant-runs : goal.invariant-runs
invariant-runs g l = Burns g.T.Cell.units_of g.T.Cell.least g.T.Cell.greatest l.how l.value (is_in_runs (take l.run-index l.runs)) l.fn.cells l.cells
