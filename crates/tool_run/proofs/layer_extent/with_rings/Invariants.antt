use Rattle.std.proofs.Common.{take}
use Rattle.tool_outcome.specs.LayerExtent.{points_in}
use Rattle.tool_run.specs.Inner.Extent.{HoldsPoints}
use Rattle.tool_run.proofs.layer_extent.with_rings.Given as goal

-- the points so far
abbrev pub invariant-rings : goal.invariant-rings
invariant-rings l = record { so_far : HoldsPoints (points_in (take l.path-index l.rings)) l.fn.extent l.round }
