use Rattle.std.proofs.Common.{arith}
use Rattle.all_touched.proofs.PieceLemmas.{rows_more}
use Rattle.all_touched.proofs.touched.push_edge.Goals as goal

pub rows-preserved : goal.rows-preserved
rows-preserved c = record {
  low = omega (arith, c.rows.invariant.low);
  adds = rows_more c.args.frame.now c.args.edge.now c.rows.row c.in_row-met.result.from c.in_row-met.result.to c.args.pieces.now.items c.rows.pieces.items c.push.new.self.items
      c.requires.spanned c.rows.invariant.low (omega (arith, c.rows-test.true, c.rows.auto.row-end)) c.in_row-met.ensures c.in_ok-push.ensures.items c.rows.invariant.adds;
}
