use Rattle.cell_base.proofs.MaskLemmas.{IsMasking}
use Rattle.cell_base.proofs.mask.Mask.valid_of.Given as goal

abbrev pub invariant-rows : goal.invariant-rows
invariant-rows g l = IsMasking l.cells l.nodata l.mask (l.row, 0)

abbrev pub invariant-cols : goal.invariant-cols
invariant-cols g l = IsMasking l.cells l.nodata l.mask (l.row, l.col)
