use Rattle.edge_trace.proofs.StretchLemmas.{around_past}
use Rattle.edge_trace.proofs.sides.around_step.Goals as goal

pub returns-clause-around : goal.returns-clause-around
returns-clause-around c = around_past c.args.table.now c.args.row c.args.from c.args.col c.args.around c.step.result c.step-2.result c.requires.around c.requires.further c.step.ensures c.step-2.ensures
