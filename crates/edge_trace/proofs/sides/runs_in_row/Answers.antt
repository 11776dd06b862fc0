use Rattle.std.proofs.Common.{refl}
use Rattle.edge_trace.proofs.StretchLemmas.{ahead_in_row}
use Rattle.edge_trace.proofs.sides.runs_in_row.Goals as goal

pub returns-clause-ahead : goal.returns-clause-ahead
returns-clause-ahead c = ahead_in_row c.args.table.now c.args.row c.row_start.result c.row_start-2.result _ c.row_start.ensures.begins c.row_start-2.ensures.begins c.row_start.ensures.within c.row_start-2.ensures.within refl refl refl
