use Rattle.std.proofs.Common.{◌≡◌, arith}
use Rattle.region_label.specs.Inner.Rows.{noted_units}
use Rattle.region_label.proofs.RowsLemmas.{found_row}
use Rattle.region_label.proofs.rows.RowRuns.push_row.Goals as goal

pub returns-clause-found : goal.returns-clause-found
returns-clause-found g c =
    let end : c.loop-col.col ≡ c.args.cells.now.ncols = omega arith in
    found_row g.T.Cell.units_of c.args.cells.now c.args.valid.now c.loop-col.self.runs.items (noted_units c.loop-col.self.notes.items) c.args.row (rw end at c.loop-col.invariant.found)
