use Rattle.edge_trace.specs.Inner.Sides.{side_number}
use Rattle.edge_trace.specs.Inner.Finding.{HasRowRoom, HasSides}
use Rattle.edge_trace.proofs.sides.Sides.find.Given as goal

-- the cells of the rows before this one have theirs
abbrev pub invariant-loop-row : goal.invariant-loop-row
invariant-loop-row l = record {
  has : HasSides l.regions l.stride l.finding (side_number l.stride (l.row, 0) 0);
  room : HasRowRoom l.regions.numbers.ncols l.finding;
}
