use Rattle.std.proofs.Common.{◌-◌, ◌≤◌}
use Rattle.edge_trace.specs.Inner.Sides.{side_number}
use Rattle.edge_trace.specs.Inner.Finding.{AreAround, HasRoomFrom, HasRunIn, HasSides, KeepsRoom}
use Rattle.edge_trace.proofs.sides.Finding.put_run.Given as goal

-- the cells before this one have theirs
abbrev pub invariant-loop-col : goal.invariant-loop-col
invariant-loop-col l = record {
  from : l.run.from ≤ l.col;
  to : l.col ≤ l.run.to;
  around : AreAround l.table l.run.row l.col l.around;
  above : HasRunIn l.table.runs l.col l.around.above;
  below : HasRunIn l.table.runs l.col l.around.below;
  room : HasRoomFrom l.regions.numbers.ncols l.col l.self;
  keeps : KeepsRoom l.fn.self l.self;
  has : HasSides l.regions l.stride l.self (side_number l.stride (l.run.row, l.col) 0);
}

abbrev pub decreases-loop-col : goal.decreases-loop-col
decreases-loop-col l = l.run.to - l.col
