use Rattle.std.proofs.Common.{length, ap, arith}
use Rattle.burn_scanline.proofs.LinkLemmas.{flat_step, read_of}
use Rattle.burn_scanline.specs.Ring.{edges_of}
use Rattle.burn_scanline.proofs.edge_rows.RowTable.push_rings.Goals as goal

pub loop-ring-preserved : goal.loop-ring-preserved
loop-ring-preserved c =
    let items = c.as_slice-ring-items in
    flat_step c.args.rule c.args.frame.now edges_of c.args.rings.now c.loop-ring.ring-index c.ring-item.result c.args.self.now.edges.items c.loop-ring.self.edges.items c.push_ring.new.self.edges.items (omega (arith, c.loop-ring-test.true, ap length items.ensures)) (read_of items.result.now c.args.rings.now c.loop-ring.ring-index c.ring-item.result items.ensures c.loop-ring-test.true c.ring-item.is) c.loop-ring.invariant c.in_ok-push_ring.ensures
