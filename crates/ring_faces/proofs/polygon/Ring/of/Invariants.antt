use Rattle.std.proofs.Common.{◌≡◌, ◌++◌}
use Rattle.ring_faces.proofs.polygon.Ring.of.Given as goal

-- the corners so far and those that are left are all corners
abbrev pub invariant-corners : goal.invariant-corners
invariant-corners l = record {
  all : l.ring ++ l.corner-iterator ≡ l.fn.corners;
  can : (goal.iterator-corners).can_next l.corner-iterator;
  finite : (goal.iterator-corners).is_finite l.corner-iterator;
}
