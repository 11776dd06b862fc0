use Rattle.std.proofs.Common.{◌<◌, length, Some, refl, sym, ◌∙◌, arith}
use Rattle.std.proofs.lemmas.Option.{same_Some}
use Rattle.edge_trace.proofs.GrowLemmas.{narrow_of}
use Rattle.edge_trace.proofs.RowLemmas.{ends_row, row_done, row_next, row_of, row_to_run}
use Rattle.edge_trace.proofs.StretchLemmas.{read_number, read_run, run_in, run_numbered}
use Rattle.edge_trace.proofs.sides.Finding.put_row.Goals as goal

pub returns-in_default-clause-after : goal.returns-in_default-clause-after
returns-in_default-clause-after c =
    let table = c.args.table.now in
    let within : c.loop-i.i < length table.runs = omega (arith, c.row_start-i-end.ensures.within, c.loop-i-test.true) in
    let at = read_run c.runs.result.now table.runs c.loop-i.i c.runs.ensures.value within in
    let numbered = run_numbered c.args.regions.now table c.loop-i.i _ c.requires.lent at in
    let number = read_number c.components.result.now table.components c.loop-i.i _ c.components.ensures (omega (arith, within, c.requires.lent.numbered)) refl in
    absurd (c.in_default.not-Some numbered.0 (same_Some _ _ (sym number ∙ numbered.1)))

pub put_run-around-requires-clause-run : goal.put_run-around-requires-clause-run
put_run-around-requires-clause-run c =
    let table = c.args.table.now in
    let within : c.loop-i.i < length table.runs = omega (arith, c.row_start-i-end.ensures.within, c.loop-i-test.true) in
    let at = read_run c.runs.result.now table.runs c.loop-i.i c.runs.ensures.value within in
    let number = read_number c.components.result.now table.components c.loop-i.i (Some c.in-Some.k) c.components.ensures (omega (arith, within, c.requires.lent.numbered)) c.in-Some.is in
    run_in c.args.regions.now table c.loop-i.i c.in-Some.k _ c.requires.lent at number

pub put_run-around-requires-clause-around : goal.put_run-around-requires-clause-around
put_run-around-requires-clause-around c =
    let table = c.args.table.now in
    let run = row_of table c.args.row c.row_start-i.result c.row_start-i-end.result c.loop-i.i c.row_start-i.ensures.begins c.row_start-i-end.ensures.begins c.row_start-i-end.ensures.within c.loop-i.auto.i c.loop-i-test.true in
    let at = read_run c.runs.result.now table.runs c.loop-i.i c.runs.ensures.value (omega (arith, c.row_start-i-end.ensures.within, c.loop-i-test.true)) in
    (row_to_run c.args.regions.now table c.args.stride c.args.row c.loop-i.i c.loop-i.around c.loop-i.self _ (narrow_of c.args.regions.now c.args.stride c.requires.shape c.requires.stride) c.requires.lent c.loop-i.invariant.row at (run _ at)).0

pub put_run-around-requires-clause-before : goal.put_run-around-requires-clause-before
put_run-around-requires-clause-before c =
    let table = c.args.table.now in
    let run = row_of table c.args.row c.row_start-i.result c.row_start-i-end.result c.loop-i.i c.row_start-i.ensures.begins c.row_start-i-end.ensures.begins c.row_start-i-end.ensures.within c.loop-i.auto.i c.loop-i-test.true in
    let at = read_run c.runs.result.now table.runs c.loop-i.i c.runs.ensures.value (omega (arith, c.row_start-i-end.ensures.within, c.loop-i-test.true)) in
    (row_to_run c.args.regions.now table c.args.stride c.args.row c.loop-i.i c.loop-i.around c.loop-i.self _ (narrow_of c.args.regions.now c.args.stride c.requires.shape c.requires.stride) c.requires.lent c.loop-i.invariant.row at (run _ at)).1

pub put_run-around-requires-clause-room : goal.put_run-around-requires-clause-room
put_run-around-requires-clause-room c =
    let table = c.args.table.now in
    let run = row_of table c.args.row c.row_start-i.result c.row_start-i-end.result c.loop-i.i c.row_start-i.ensures.begins c.row_start-i-end.ensures.begins c.row_start-i-end.ensures.within c.loop-i.auto.i c.loop-i-test.true in
    let at = read_run c.runs.result.now table.runs c.loop-i.i c.runs.ensures.value (omega (arith, c.row_start-i-end.ensures.within, c.loop-i-test.true)) in
    (row_to_run c.args.regions.now table c.args.stride c.args.row c.loop-i.i c.loop-i.around c.loop-i.self _ (narrow_of c.args.regions.now c.args.stride c.requires.shape c.requires.stride) c.requires.lent c.loop-i.invariant.row at (run _ at)).2

pub loop-i-preserved : goal.loop-i-preserved
loop-i-preserved c =
    let table = c.args.table.now in
    let run = row_of table c.args.row c.row_start-i.result c.row_start-i-end.result c.loop-i.i c.row_start-i.ensures.begins c.row_start-i-end.ensures.begins c.row_start-i-end.ensures.within c.loop-i.auto.i c.loop-i-test.true in
    let at = read_run c.runs.result.now table.runs c.loop-i.i c.runs.ensures.value (omega (arith, c.row_start-i-end.ensures.within, c.loop-i-test.true)) in
    record {
      row = row_next c.args.regions.now table c.args.stride c.args.row c.loop-i.i c.loop-i.around _ c.loop-i.self _ _ (narrow_of c.args.regions.now c.args.stride c.requires.shape c.requires.stride) c.requires.lent c.loop-i.invariant.row at (run _ at) c.put_run-around.ensures.around c.put_run-around.ensures.after c.put_run-around.ensures.room;
      keeps = record { numbers = c.put_run-around.ensures.keeps.numbers ∙ c.loop-i.invariant.keeps.numbers; owners = c.put_run-around.ensures.keeps.owners ∙ c.loop-i.invariant.keeps.owners };
    }

pub returns-clause-after : goal.returns-clause-after
returns-clause-after c =
    let table = c.args.table.now in
    let start = c.row_start-i.result in
    let end = c.row_start-i-end.result in
    row_done c.args.regions.now table c.args.stride c.args.row c.loop-i.i c.loop-i.around c.loop-i.self (narrow_of c.args.regions.now c.args.stride c.requires.shape c.requires.stride) (omega (arith, c.requires.stride.wide)) c.requires.lent (ends_row table c.args.row start end c.loop-i.i c.row_start-i.ensures.begins c.row_start-i-end.ensures.begins c.row_start-i.ensures.within (omega (arith, c.loop-i-test.false)) c.loop-i.auto.i-end) c.loop-i.invariant.row
