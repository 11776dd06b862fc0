use Rattle.std.proofs.Common.{◌≡◌, ◌<◌, Some, length, ap, sym, ◌∙◌, subst, arith}
use Rattle.std.specs.Prelude.{slice_get}
use Rattle.std.proofs.lemmas.Bool.Decides.{nat_tests}
use Rattle.wkt_text.specs.declared.geometry.Pt.{Pt}
use Rattle.burn_scanline.specs.Inner.Crossing.{AreRowsAt}
use Rattle.burn_scanline.proofs.LinkLemmas.{read_of, ring_done, ring_last, ring_step}
use Rattle.burn_scanline.proofs.edge_rows.RowTable.push_ring.Goals as goal

pub loop-at-preserved : goal.loop-at-preserved
loop-at-preserved c =
    let frame = c.args.frame.now in
    let ring = c.args.ring.now in
    let at = c.loop-at.at in
    let p = c.ring_point-before.result.point in
    let here = c.ring_point-here.result in
    let within : at < length ring = omega (arith, c.loop-at-test.true, ap length c.as_slice-points.ensures) in
    let found : slice_get ring at ≡ Some here.point = read_of c.as_slice-points.result.now ring at c.index-points-at.result c.as_slice-points.ensures c.loop-at-test.true c.index-points-at.is ∙ ap (λ (q : Pt). Some q) (sym c.ring_point-here.ensures.point) in
    let rows : AreRowsAt c.args.rule frame here.point.y here.first here.end = subst (λ (q : Pt). AreRowsAt c.args.rule frame q.y here.first here.end) (sym c.ring_point-here.ensures.point) c.ring_point-here.ensures.rows in
    record {
      gathered = ring_step c.args.rule frame ring at p c.loop-at.before.point here.point c.args.self.now.edges.items c.loop-at.self.edges.items c.push_edge.new.self.edges.items within found c.loop-at.invariant.before c.loop-at.invariant.gathered (c.in_ok-push_edge.ensures c.args.rule frame c.loop-at.invariant.rows rows);
      before = ring_last ring at p here.point within found;
      rows = rows;
    }

pub returns : goal.returns
returns c = ring_done c.args.rule c.args.frame.now c.as_slice-points.result.now c.args.ring.now c.loop-at.at c.ring_point-before.result.point c.index-points-points.result c.index-points-points.result c.args.self.now.edges.items c.loop-at.self.edges.items c.as_slice-points.ensures (grind (arith, nat_tests, c.is_empty.ensures, c.if-is_empty.false)) c.loop-at-test.false c.ring_point-before.ensures.point c.index-points-points.is c.loop-at.invariant.gathered
