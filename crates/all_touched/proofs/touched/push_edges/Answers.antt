use Rattle.all_touched.proofs.PieceLemmas.{table_more}
use Rattle.all_touched.proofs.touched.push_edges.Goals as goal

pub edges-preserved : goal.edges-preserved
edges-preserved c = table_more c.args.frame.now c.args.table.now c.edges.e c.edge.result c.args.pieces.now.items c.edges.pieces.items c.push_edge.new.pieces.items
    c.edge.ensures c.edges.invariant c.in_ok-push_edge.ensures
