use Rattle.std.proofs.Common.{take}
use Rattle.std.specs.List.{flat_map}
use Rattle.burn_scanline.specs.Ring.{edges_of}
use Rattle.burn_scanline.specs.Inner.Linking.{Gathers}
use Rattle.burn_scanline.proofs.edge_rows.RowTable.push_polygons.Given as goal

-- the edges of the polygons before this one are gathered
abbrev pub invariant-loop-rings : goal.invariant-loop-rings
invariant-loop-rings l = Gathers l.rule l.frame (flat_map edges_of (flat_map (λ rings. rings) (take l.rings-index l.polygons))) l.fn.self.edges.items l.self.edges.items
