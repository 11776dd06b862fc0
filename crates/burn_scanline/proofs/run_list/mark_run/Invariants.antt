use Rattle.burn_scanline.specs.Change.{Marks}
use Rattle.burn_scanline.specs.Runs.{has_cell}
use Rattle.burn_scanline.proofs.run_list.mark_run.Given as goal

-- the cells of the run before this column are true
abbrev pub invariant-cells : goal.invariant-cells
invariant-cells l = Marks (λ p. has_cell p (record { row = l.run.row; from = l.run.from; to = l.col })) l.fn.cover l.cover
