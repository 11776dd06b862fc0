use Rattle.std.proofs.Common.{length, ap, arith}
use Rattle.burn_scanline.proofs.LinkLemmas.{flat_flat_step, read_of}
use Rattle.burn_scanline.specs.Ring.{edges_of}
use Rattle.burn_scanline.proofs.edge_rows.RowTable.push_polygons.Goals as goal

pub loop-rings-preserved : goal.loop-rings-preserved
loop-rings-preserved c =
    let items = c.as_slice-rings-items in
    flat_flat_step c.args.rule c.args.frame.now edges_of (λ rings. rings) c.args.polygons.now c.loop-rings.rings-index c.rings-item.result c.args.self.now.edges.items c.loop-rings.self.edges.items c.push_rings.new.self.edges.items (omega (arith, c.loop-rings-test.true, ap length items.ensures)) (read_of items.result.now c.args.polygons.now c.loop-rings.rings-index c.rings-item.result items.ensures c.loop-rings-test.true c.rings-item.is) c.loop-rings.invariant c.in_ok-push_rings.ensures
