use Rattle.std.proofs.Common.{None, take}
use Rattle.tool_outcome.specs.LayerExtent.{layer_points}
use Rattle.tool_run.specs.Inner.Extent.{HoldsPoints}
use Rattle.tool_run.proofs.layer_extent.extent_of.Given as goal

-- the points so far
abbrev pub invariant-features : goal.invariant-features
invariant-features l = record { so_far : HoldsPoints (layer_points (take l.feature-index l.features)) None l.round }
