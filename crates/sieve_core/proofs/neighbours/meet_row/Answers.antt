use Rattle.std.proofs.Common.{◌-◌, ℕ, subst, arith}
use Rattle.region_label.specs.RunTable.{BeginsRow}
use Rattle.sieve_core.proofs.NeighbourLemmas.{above_of, later_rows, meeting_first, meeting_on, row_met, row_of}
use Rattle.sieve_core.proofs.neighbours.meet_row.Goals as goal

pub loop-i-init : goal.loop-i-init
loop-i-init g c =
    let above : BeginsRow c.args.table.now (c.args.row - 1) c.row_start-above.result = subst (λ (r : ℕ). BeginsRow c.args.table.now r c.row_start-above.result) c.saturating_sub.ensures c.row_start-above.ensures.begins in
    meeting_first _ c.args.regions.now c.args.table.now c.args.st c.args.largest.now.items c.args.row c.row_start-above.result c.row_start-start.result c.requires.best above c.row_start-start.ensures.begins c.row_start-above.ensures.within

pub meet_above-requires-clause-above : goal.meet_above-requires-clause-above
meet_above-requires-clause-above g c =
    let table = c.args.table.now in
    let run = row_of table c.args.row c.row_start-start.result c.row_start-i-end.result c.loop-i.i c.row_start-start.ensures.begins c.row_start-i-end.ensures.begins c.row_start-i-end.ensures.within (omega arith) (omega arith) in
    above_of _ c.args.regions.now table c.loop-i.i c.loop-i.above c.row_start-start.result c.first_touching-above.result run.0 c.requires.lent run.1 (λ j a from to at. omega (arith, run.2, c.loop-i.invariant.above_start j a (omega (arith, c.first_touching-above.ensures.from, from)) to at)) c.first_touching-above.ensures

pub loop-i-preserved : goal.loop-i-preserved
loop-i-preserved g c =
    let table = c.args.table.now in
    let run = row_of table c.args.row c.row_start-start.result c.row_start-i-end.result c.loop-i.i c.row_start-start.ensures.begins c.row_start-i-end.ensures.begins c.row_start-i-end.ensures.within (omega arith) (omega arith) in
    meeting_on _ c.args.regions.now table c.args.st c.args.largest.now.items c.loop-i.largest.items c.meet_left.new.largest.items c.meet_above.new.largest.items c.args.row c.row_start-start.result c.loop-i.above c.first_touching-above.result c.loop-i.i run.0 c.requires.lent c.loop-i.invariant run.1 run.2 (later_rows table c.args.row c.row_start-start.result c.row_start-start.ensures.begins) c.meet_left.ensures.improves c.meet_left.ensures.met c.first_touching-above.ensures c.meet_above.ensures.best c.meet_above.ensures.improves c.meet_above.ensures.met

pub returns-clause-met : goal.returns-clause-met
returns-clause-met g c = row_met _ c.args.regions.now c.args.table.now c.args.st c.args.largest.now.items c.loop-i.largest.items c.args.row c.row_start-start.result c.loop-i.above c.row_start-i-end.result c.loop-i.i c.row_start-i-end.ensures.begins c.loop-i.invariant (omega arith)
