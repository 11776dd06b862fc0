use Rattle.std.proofs.Common.{◌≡◌}
use Rattle.ring_faces.specs.Inner.Blocks.{IsBlock, gathered}
use Rattle.ring_faces.specs.Inner.Chains.{AreRings}
use Rattle.ring_faces.specs.Inner.Cycles.{AreFound}
use Rattle.ring_faces.proofs.cycles.Cycles.of.Given as goal

abbrev pub invariant-loop-e : goal.invariant-loop-e
invariant-loop-e l = record {
  table : l.walks.table ≡ l.fn.walks.table;
  found : AreFound l.fn.walks.table.next l.found.cycles.items l.walks.passed l.e;
  rings : AreRings l.fn.lattice.width l.fn.walks.table l.found.cycles.items (gathered l.found.rings.corners.items l.block) l.found.rings.starts.items;
  block : IsBlock l.block;
  lattice : l.found.rings.lattice ≡ l.fn.lattice;
}
