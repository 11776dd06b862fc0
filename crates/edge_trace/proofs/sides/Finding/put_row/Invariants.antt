use Rattle.edge_trace.specs.Inner.Finding.{KeepsRoom}
use Rattle.edge_trace.proofs.RowLemmas.{IsInRow}
use Rattle.edge_trace.proofs.sides.Finding.put_row.Given as goal

-- the runs before this one have theirs
abbrev pub invariant-loop-i : goal.invariant-loop-i
invariant-loop-i l = record {
  row : IsInRow l.regions l.table l.stride l.row l.i l.around l.self;
  keeps : KeepsRoom l.fn.self l.self;
}
