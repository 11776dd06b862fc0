use Rattle.std.proofs.Common.{◌+◌, refl, arith}
use Rattle.edge_trace.proofs.CellLemmas.{keeps_then, room_left, run_within}
use Rattle.edge_trace.proofs.StretchLemmas.{left_tells, right_tells}
use Rattle.edge_trace.proofs.sides.Finding.put_part.Goals as goal

pub put_cell-requires-clause-bounds : goal.put_cell-requires-clause-bounds
put_cell-requires-clause-bounds c =
    let col = c.loop-col.col in
    record {
      inside = c.requires.run.cells (c.args.run.row, col) (refl, omega (arith, c.loop-col.auto.col, c.requires.from), omega (arith, c.loop-col-test.true, c.requires.part.within));
      left = left_tells c.args.regions.now c.args.k c.args.run col c.requires.run (omega (arith, c.loop-col.auto.col, c.requires.from)) (omega (arith, c.loop-col-test.true, c.requires.part.within));
      below = c.requires.part.below col c.loop-col.auto.col c.loop-col-test.true;
      right = right_tells c.args.regions.now c.args.k c.args.run col (col + 1) c.requires.run (omega (arith, c.loop-col.auto.col, c.requires.from)) (omega (arith, c.loop-col-test.true, c.requires.part.within)) refl;
      above = c.requires.part.above col c.loop-col.auto.col c.loop-col-test.true;
    }

pub returns-then-not-part-2-clause-room : goal.returns-then-not-part-2-clause-room
returns-then-not-part-2-clause-room c =
    let within = run_within c.args.regions.now c.args.k c.args.run c.requires.shape c.requires.run in
    room_left c.args.regions.now.numbers.ncols c.args.from c.args.part.to 2 c.args.self.now c.put_ends.new.self c.requires.room c.put_ends.ensures.room (omega (arith, within, c.requires.part.within)) (omega (arith, c.requires.part.more)) (omega (arith, c.requires.part.more))

pub loop-col-preserved : goal.loop-col-preserved
loop-col-preserved c =
    let within = run_within c.args.regions.now c.args.k c.args.run c.requires.shape c.requires.run in
    let col = c.loop-col.col in
    record {
      room = room_left c.args.regions.now.numbers.ncols col (col + 1) 4 c.loop-col.self c.put_cell.new.self c.loop-col.invariant.room c.put_cell.ensures.room (omega (arith, within, c.requires.part.within, c.loop-col-test.true)) (omega arith) (omega arith);
      keeps = keeps_then c.args.self.now c.loop-col.self c.put_cell.new.self c.loop-col.invariant.keeps c.put_cell.ensures.room.keeps;
      has = c.put_cell.ensures.after;
    }
