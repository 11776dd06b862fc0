use Rattle.std.proofs.Common.{◌≡◌, ◌++◌}
use Rattle.ring_faces.proofs.polygon.RingList.of.Given as goal

-- the rings so far and those that are left are all rings
abbrev pub invariant-loop-corners : goal.invariant-loop-corners
invariant-loop-corners l = record {
  all : l.list ++ l.corners-iterator ≡ l.fn.rings;
  can : (goal.iterator-loop-corners).can_next l.corners-iterator;
  finite : (goal.iterator-loop-corners).is_finite l.corners-iterator;
}
