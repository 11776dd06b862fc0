use Rattle.std.proofs.Common.{take}
use Rattle.std.specs.List.{flat_map}
use Rattle.burn_scanline.specs.Ring.{edges_of}
use Rattle.burn_scanline.specs.Inner.Linking.{Gathers}
use Rattle.burn_scanline.proofs.edge_rows.RowTable.push_rings.Given as goal

-- the edges of the rings before this one are gathered
abbrev pub invariant-loop-ring : goal.invariant-loop-ring
invariant-loop-ring l = Gathers l.rule l.frame (flat_map edges_of (take l.ring-index l.rings)) l.fn.self.edges.items l.self.edges.items
