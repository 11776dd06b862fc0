use Rattle.std.proofs.Common.{◌≡◌, ◌++◌, ◌∷◌, suc, drop, length, add-one, arith}
use Rattle.std.specs.Prelude.{◌==◌, if◌then◌else◌}
use Rattle.asc_grid.specs.Appended.{AppendsPart}
use Rattle.asc_grid.specs.Canonical.{spelled}
use Rattle.asc_grid.specs.Inner.Rest.{row_rest}
use Rattle.asc_grid.proofs.WriteLemmas.{appends_cell, appends_cell_alone, appends_part_then, appends_then, row_rest-cell}
use Rattle.asc_grid.proofs.write.append_cells.Goals as goal

pub loop-col-preserved : goal.loop-col-preserved
loop-col-preserved g c =
    let spell = spelled g.T.Cell.units_of g.T.Cell.PLACES in
    let row = c.args.row.now in
    let col = c.loop-col.col in
    let cell = c.index-row-col.result in
    let behind : c.separator.result ≡ (if (suc col) == length row then 10 else 32) = rw (← add-one) c.separator.ensures in
    let next = row_rest-cell spell row col cell c.loop-col-test.true c.index-row-col.is in
    let text : row_rest spell (drop col row) ≡ spell cell ++ c.separator.result ∷ row_rest spell (drop (suc col) row) = rw behind next in
    let step = appends_cell c.loop-col.out.items c.write.new.out.items c.push.new.self.items _ (spell cell) (row_rest spell (drop (suc col) row)) c.separator.result c.in_ok-write.ensures.ok c.in_ok-push.ensures.items text in
    record {
      within = omega arith;
      begun = omega arith;
      first = λ h. absurd (omega (arith, h));
      text = rw add-one (appends_then _ _ _ _ _ _ c.loop-col.invariant.text step);
    }

pub returns-in_err-push-clause-err : goal.returns-in_err-push-clause-err
returns-in_err-push-clause-err g c =
    let spell = spelled g.T.Cell.units_of g.T.Cell.PLACES in
    let row = c.args.row.now in
    let col = c.loop-col.col in
    let cell = c.index-row-col.result in
    let next = row_rest-cell spell row col cell c.loop-col-test.true c.index-row-col.is in
    let left = c.in_err-push.ensures.items in
    let part = appends_part_then _ _ _ _ _ c.loop-col.invariant.text (appends_cell_alone _ _ _ _ _ c.in_ok-write.ensures.ok next) in
    let given : AppendsPart c.args.out.now.items c.push.new.self.items (row_rest spell (drop c.args.from row)) = rw left part in
    grind (arith, given)
