use Rattle.std.proofs.Common.{◌≡◌, ◌+◌, ◌≤◌, length, add-one, arith}
use Rattle.asc_grid.specs.Appended.{Appends, AppendsPart}
use Rattle.asc_grid.specs.Canonical.{spelled}
use Rattle.asc_grid.specs.Inner.Rest.{rows_rest}
use Rattle.asc_grid.proofs.WriteLemmas.{appends_before, appends_nothing, appends_part_before, appends_part_then, appends_then, rows_rest-next, rows_rest-row, rows_rest-end}
use Rattle.asc_grid.proofs.write.append_rows.Goals as goal

pub loop-row-init : goal.loop-row-init
loop-row-init g c = record {
  col = c.requires.col;
  text = appends_nothing _ _;
}

pub returns-in_err-col-clause-err : goal.returns-in_err-col-clause-err
returns-in_err-col-clause-err g c =
    let spell = spelled g.T.Cell.units_of g.T.Cell.PLACES in
    let rows = c.args.cells.now.rows in
    let cells = c.row.result.now in
    let row = rows_rest-row spell rows c.loop-row.row c.loop-row.col cells c.row.ensures.cells in
    let part : AppendsPart c.loop-row.out.items c.append_cells.new.out.items (rows_rest spell rows c.loop-row.row c.loop-row.col) = rw row (appends_part_before _ _ _ _ c.in_err-col.ensures.err) in
    let given = appends_part_then _ _ _ _ _ c.loop-row.invariant.text part in
    grind (arith, given)

pub returns-then-col-ncols-clause-ok : goal.returns-then-col-ncols-clause-ok
returns-then-col-ncols-clause-ok g c =
    let spell = spelled g.T.Cell.units_of g.T.Cell.PLACES in
    let rows = c.args.cells.now.rows in
    let cells = c.row.result.now in
    let from = rows_rest-row spell rows c.loop-row.row c.loop-row.col cells c.row.ensures.cells in
    let to = rows_rest-row spell rows c.loop-row.row c.in_ok-col.col cells c.row.ensures.cells in
    let step : Appends c.loop-row.out.items c.append_cells.new.out.items (rows_rest spell rows c.loop-row.row c.loop-row.col) (rows_rest spell rows c.loop-row.row c.in_ok-col.col) = rw (from, to) (appends_before _ _ _ _ _ c.in_ok-col.ensures.ok) in
    appends_then _ _ _ _ _ _ c.loop-row.invariant.text step

pub loop-row-preserved : goal.loop-row-preserved
loop-row-preserved g c =
    let shape = c.ncols.ensures.shape in
    let spell = spelled g.T.Cell.units_of g.T.Cell.PLACES in
    let rows = c.args.cells.now.rows in
    let cells = c.row.result.now in
    let from = rows_rest-row spell rows c.loop-row.row c.loop-row.col cells c.row.ensures.cells in
    let to = rows_rest-row spell rows c.loop-row.row c.in_ok-col.col cells c.row.ensures.cells in
    let step : Appends c.loop-row.out.items c.append_cells.new.out.items (rows_rest spell rows c.loop-row.row c.loop-row.col) (rows_rest spell rows c.loop-row.row c.in_ok-col.col) = rw (from, to) (appends_before _ _ _ _ _ c.in_ok-col.ensures.ok) in
    let all : c.in_ok-col.col ≡ length cells = omega (arith, c.in_ok-col.ensures.within, c.row.ensures.width, c.if-col-ncols.false, c.ncols.ensures.value) in
    let next : rows_rest spell rows c.loop-row.row c.in_ok-col.col ≡ rows_rest spell rows (c.loop-row.row + 1) 0 = rw (all, add-one) (rows_rest-next spell _ rows c.loop-row.row cells shape.some_cols shape.width c.row.ensures.cells) in
    record {
      col = shape.some_cols;
      text = rw (← next) (appends_then _ _ _ _ _ _ c.loop-row.invariant.text step);
    }

pub returns-clause-ok : goal.returns-clause-ok
returns-clause-ok g c =
    let spell = spelled g.T.Cell.units_of g.T.Cell.PLACES in
    let rows = c.args.cells.now.rows in
    let shape = c.nrows.ensures.shape in
    let past : length rows ≤ c.loop-row.row = omega (arith, shape.height, c.loop-row-test.false, c.nrows-row-end.ensures.value) in
    let after : length rows ≤ c.nrows.result = omega (arith, shape.height, c.nrows.ensures.value) in
    let here = rows_rest-end spell rows c.loop-row.row c.loop-row.col past in
    let there = rows_rest-end spell rows c.nrows.result 0 after in
    rw there (rw here at c.loop-row.invariant.text)

pub returns-clause-all : goal.returns-clause-all
returns-clause-all g c = λ _.
    let shape = c.nrows.ensures.shape in
    rows_rest-end _ c.args.cells.now.rows c.nrows.result 0 (omega (arith, shape.height, c.nrows.ensures.value))
