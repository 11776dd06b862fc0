use Rattle.std.proofs.Common.{take}
use Rattle.burn_scanline.specs.Change.{Marks}
use Rattle.burn_scanline.specs.Runs.{is_in_runs}
use Rattle.burn_scanline.proofs.run_list.mark_runs.Given as goal

-- the cells of the runs before this one are true
abbrev pub invariant-runs : goal.invariant-runs
invariant-runs l = Marks (is_in_runs (take l.run-index l.runs)) l.fn.cover l.cover
