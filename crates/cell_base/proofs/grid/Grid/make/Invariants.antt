use Rattle.std.proofs.Common.{◌≡◌, ◌≤◌, replicate}
use Rattle.cell_base.proofs.grid.Grid.make.Given as goal

abbrev pub invariant-loop : goal.invariant-loop
invariant-loop g l = record { made : l.cells.items ≡ replicate l.counter l.v; within : l.counter ≤ l.count }
