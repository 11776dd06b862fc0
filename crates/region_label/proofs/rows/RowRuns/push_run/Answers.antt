use Rattle.std.proofs.Common.{◌≡◌, Some, arith}
use Rattle.std.specs.Prelude.{slice_get}
use Rattle.std.proofs.lemmas.Grind.{common_steps}
use Rattle.std.proofs.lemmas.Int.{ints}
use Rattle.std.proofs.lemmas.Option.{gets}
use Rattle.region_label.specs.Inner.Rows.{noted_units}
use Rattle.region_label.proofs.NoteLemmas.{noted_push}
use Rattle.region_label.proofs.RowsLemmas.{found_invalid, found_run, starts_run, value_in_row}
use Rattle.region_label.proofs.rows.RowRuns.push_run.Goals as goal

pub returns-then-not-marks-col-clause-found : goal.returns-then-not-marks-col-clause-found
returns-then-not-marks-col-clause-found g c =
    let at = value_in_row c.args.valid.now c.args.row c.row-marks.result.now c.row-marks.ensures.cells c.args.col in
    found_invalid g.T.Cell.units_of c.args.cells.now c.args.valid.now c.args.self.now.runs.items (noted_units c.args.self.now.notes.items) c.args.row c.args.col c.requires.found (λ marked. grind (arith, common_steps, gets, at, marked))

pub run_end-to-requires-clause-valid : goal.run_end-to-requires-clause-valid
run_end-to-requires-clause-valid g c = grind (arith, common_steps, gets)

pub returns-clause-found : goal.returns-clause-found
returns-clause-found g c =
    let at : slice_get c.row-values.result.now c.args.col ≡ Some c.index-values-col.result = grind (arith, common_steps, gets, c.index-values-col.is) in
    rw (c.in_ok-push.ensures.items, c.in_ok-push-2.ensures.items, noted_push) (found_run g.T.Cell.units_of c.args.cells.now c.args.valid.now c.args.self.now.runs.items (noted_units c.args.self.now.notes.items) c.args.row c.args.col c.run_end-to.result c.index-values-col.result _ c.row-values.result.now c.row-marks.result.now (omega (arith, ints, c.units.ensures.value)) c.requires.found c.row-values.ensures.cells c.row-marks.ensures.cells at c.run_end-to.ensures)

pub returns-clause-starts : goal.returns-clause-starts
returns-clause-starts g c = rw c.in_ok-push.ensures.items (starts_run c.args.self.now.runs.items _ c.args.self.now.starts.items c.args.row c.requires.starts (omega arith))
