use Rattle.std.proofs.Common.{arith}
use Rattle.sieve_core.proofs.NeighbourLemmas.{all_largest, all_rows_met, rows_met_on}
use Rattle.sieve_core.proofs.neighbours.largest_neighbours.Goals as goal

pub loop-row-preserved : goal.loop-row-preserved
loop-row-preserved g c = record {
  best = c.meet_row.ensures.best;
  sound = c.meet_row.ensures.improves.sound c.loop-row.invariant.sound;
  met = rows_met_on _ c.args.regions.now c.args.table.now c.args.st c.loop-row.largest.items c.meet_row.new.largest.items c.loop-row.row c.meet_row.ensures.improves c.loop-row.invariant.met c.meet_row.ensures.met;
}

pub returns : goal.returns
returns g c = all_largest _ c.args.regions.now c.args.table.now c.args.st c.loop-row.largest.items c.requires.lent c.loop-row.invariant.best c.loop-row.invariant.sound (all_rows_met _ c.args.regions.now c.args.table.now c.args.st c.loop-row.largest.items c.loop-row.row c.requires.lent c.nrows-row-end.ensures.shape (omega (arith, c.nrows-row-end.ensures.value)) c.loop-row.invariant.met)
