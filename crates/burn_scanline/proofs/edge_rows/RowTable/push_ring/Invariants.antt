use Rattle.std.proofs.Common.{◌≡◌, take}
use Rattle.burn_scanline.specs.Ring.{edges_through}
use Rattle.burn_scanline.specs.Inner.Crossing.{AreRowsAt}
use Rattle.burn_scanline.specs.Inner.Linking.{Gathers}
use Rattle.wkt_text.specs.Geometry.{last_from}
use Rattle.burn_scanline.proofs.edge_rows.RowTable.push_ring.Given as goal

-- the edges to the points before this one are gathered
abbrev pub invariant-loop-at : goal.invariant-loop-at
invariant-loop-at l = record {
  gathered : Gathers l.rule l.frame (edges_through l.initial.before.point (take l.at l.ring)) l.fn.self.edges.items l.self.edges.items;
  before : l.before.point ≡ last_from l.initial.before.point (take l.at l.ring);
  rows : AreRowsAt l.rule l.frame l.before.point.y l.before.first l.before.end;
}
