use Rattle.std.proofs.Common.{◌≡◌, length}
use Rattle.worked_shapes.proofs.contours.grid_of.Given as goal

abbrev pub invariant-loop-whole : goal.invariant-loop-whole
invariant-loop-whole l = length l.cells.items ≡ l.whole-index
