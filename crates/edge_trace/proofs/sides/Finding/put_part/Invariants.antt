use Rattle.edge_trace.specs.Inner.Sides.{side_number}
use Rattle.edge_trace.specs.Inner.Finding.{HasRoomFrom, HasSides, KeepsRoom}
use Rattle.edge_trace.proofs.sides.Finding.put_part.Given as goal

-- the cells before this one have theirs
abbrev pub invariant-loop-col : goal.invariant-loop-col
invariant-loop-col l = record {
  room : HasRoomFrom l.regions.numbers.ncols l.col l.self;
  keeps : KeepsRoom l.fn.self l.self;
  has : HasSides l.regions l.stride l.self (side_number l.stride (l.run.row, l.col) 0);
}
