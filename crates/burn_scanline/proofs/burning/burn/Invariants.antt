use Rattle.burn_scanline.specs.Burned.{Burns}
use Rattle.burn_scanline.proofs.BurnLemmas.{rows_piece}
use Rattle.burn_scanline.proofs.burning.burn.Given as goal

-- the marked cells of the rows before this one are burned
abbrev pub invariant-rows : goal.invariant-rows
invariant-rows g l = Burns g.T.Cell.units_of g.T.Cell.least g.T.Cell.greatest l.how l.value (rows_piece l.cover l.row) l.fn.cells l.cells
