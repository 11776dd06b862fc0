use Rattle.burn_scanline.specs.Burned.{Burns}
use Rattle.burn_scanline.specs.Runs.{has_cell}
use Rattle.burn_scanline.proofs.burning.burn_run.Given as goal

-- the cells of the run before this column are burned
abbrev pub invariant-cells : goal.invariant-cells
invariant-cells g l = Burns g.T.Cell.units_of g.T.Cell.least g.T.Cell.greatest l.how l.value (λ p. has_cell p (record { row = l.run.row; from = l.run.from; to = l.col })) l.fn.cells l.cells
