use Rattle.std.proofs.Common.{◌≡◌, arith}
use Rattle.tool_run.proofs.RangeLemmas.{all_rows, cell_passed, none_before, row_more}
use Rattle.tool_run.proofs.contours.range_of.Goals as goal

pub rows-init : goal.rows-init
rows-init c = none_before c.args.cells.now c.args.nodata.now

pub cols-preserved : goal.cols-preserved
cols-preserved c = cell_passed c.args.cells.now c.args.nodata.now c.rows.row c.cols.col _ c.cols.range _ c.get.ensures c.with_cell-range.ensures c.cols.invariant

pub rows-preserved : goal.rows-preserved
rows-preserved c =
    let end : c.cols.col ≡ c.args.cells.now.ncols = omega (arith, c.ncols-col-end.ensures.value) in
    row_more c.args.cells.now c.args.nodata.now c.rows.row c.cols.col c.cols.range c.ncols-col-end.ensures.shape end c.cols.invariant

pub returns : goal.returns
returns c =
    let end : c.rows.row ≡ c.args.cells.now.nrows = omega (arith, c.nrows-row-end.ensures.value) in
    all_rows c.args.cells.now c.args.nodata.now c.rows.row c.rows.range c.nrows-row-end.ensures.shape end c.rows.invariant
