use Rattle.std.proofs.Common.{◌≡◌, arith}
use Rattle.cell_base.proofs.MaskLemmas.{mask_start, mask_on, mask_row, mask_end}
use Rattle.cell_base.proofs.mask.Mask.valid_of.Goals as goal

pub rows-init : goal.rows-init
rows-init g c = rw (c.in_ok-mask.ensures, c.ncols.ensures.value, c.nrows.ensures.value) (mask_start _ _)

pub cols-preserved : goal.cols-preserved
cols-preserved g c = mask_on _ _ _ _ _ _ _ _ c.cols.invariant (omega arith) (omega arith) c.get.ensures c.differs.ensures c.set.ensures

pub rows-preserved : goal.rows-preserved
rows-preserved g c =
    let end : c.cols.col ≡ c.args.cells.now.ncols = omega (arith, c.ncols-col-end.ensures.value) in
    mask_row _ _ _ _ (rw end at c.cols.invariant)

pub returns-clause-valid : goal.returns-clause-valid
returns-clause-valid g c =
    let end : c.rows.row ≡ c.args.cells.now.nrows = omega arith in
    mask_end _ _ _ c.ncols.ensures.shape (rw end at c.rows.invariant)
