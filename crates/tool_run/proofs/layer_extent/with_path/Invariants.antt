use Rattle.std.proofs.Common.{take}
use Rattle.tool_run.specs.Inner.Extent.{HoldsPoints}
use Rattle.tool_run.proofs.layer_extent.with_path.Given as goal

-- the points so far
abbrev pub invariant-points : goal.invariant-points
invariant-points l = record { so_far : HoldsPoints (take l.point-index l.path) l.fn.extent l.round }
