use Rattle.std.proofs.Common.{◌≡◌, length}
use Rattle.worked_shapes.proofs.contours.slope_is_cut_once.Given as goal

abbrev pub invariant-loop-at : goal.invariant-loop-at
invariant-loop-at l = length l.values.items ≡ l.at
