use Rattle.sieve_core.specs.Inner.Values.{WritesRun}
use Rattle.sieve_core.proofs.sieving.write_cells.Given as goal

-- the cells before this column have the value
abbrev pub invariant-loop-col : goal.invariant-loop-col
invariant-loop-col g l = WritesRun (record { row = l.run.row; from = l.run.from; to = l.col }) l.value l.fn.cells l.cells
