use Rattle.std.proofs.Common.{◌≡◌, take}
use Rattle.tool_run.proofs.contours.spec_of.Given as goal

-- the fixed levels so far
abbrev pub invariant-levels : goal.invariant-levels
invariant-levels l = record { fixed : l.fixed ≡ take l.i l.job.fixed }
