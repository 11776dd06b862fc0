use Rattle.burn_scanline.specs.Burned.{Burns}
use Rattle.burn_scanline.proofs.BurnLemmas.{row_piece}
use Rattle.burn_scanline.proofs.burning.burn_row.Given as goal

-- the marked cells of the row before this column are burned
abbrev pub invariant-cols : goal.invariant-cols
invariant-cols g l = Burns g.T.Cell.units_of g.T.Cell.least g.T.Cell.greatest l.how l.value (row_piece l.cover l.row l.col) l.fn.cells l.cells
