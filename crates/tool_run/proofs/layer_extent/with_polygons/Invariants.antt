use Rattle.std.proofs.Common.{take}
use Rattle.std.specs.List.{flat_map}
use Rattle.tool_outcome.specs.LayerExtent.{points_in}
use Rattle.tool_run.specs.Inner.Extent.{HoldsPoints}
use Rattle.tool_run.proofs.layer_extent.with_polygons.Given as goal

-- the points so far
abbrev pub invariant-polygons : goal.invariant-polygons
invariant-polygons l = record { so_far : HoldsPoints (flat_map points_in (take l.rings-index l.polygons)) l.fn.extent l.round }
