use Rattle.std.proofs.Common.{◌≡◌, ◌-◌, length}
use Rattle.edge_trace.specs.Walk.{StandsIn}
use Rattle.ring_faces.specs.Inner.Blocks.{IsBlock, gathered_corners}
use Rattle.ring_faces.proofs.CornerLemmas.{AreTurnsSoFar}
use Rattle.ring_faces.proofs.NumberLemmas.{IsUnderWay}
use Rattle.ring_faces.proofs.cycles.walk.Given as goal

abbrev pub invariant-walk : goal.invariant-walk
invariant-walk l = record {
  table : l.walks.table ≡ l.fn.walks.table;
  stands : StandsIn l.fn.walks.table l.edge;
  way : IsUnderWay l.fn.walks.table.next l.fn.walks.passed l.walks.passed l.first l.count l.edge.number;
  turns : AreTurnsSoFar l.fn.walks.table (gathered_corners l.lattice.width l.fn.corners.items l.fn.block) (gathered_corners l.lattice.width l.corners.items l.block) l.level l.first l.count;
  block : IsBlock l.block;
}

abbrev pub decreases-walk : goal.decreases-walk
decreases-walk l = length l.fn.walks.table.next - l.count
