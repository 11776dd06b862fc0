use Rattle.edge_trace.proofs.StretchLemmas.{around_past}
use Rattle.edge_trace.proofs.sides.around_past.Goals as goal

pub returns-clause-around : goal.returns-clause-around
returns-clause-around c = around_past c.args.table.now c.args.row c.args.from c.args.col c.args.around c.past.result c.past-2.result c.requires.around c.requires.further c.past.ensures c.past-2.ensures
