use Rattle.std.proofs.Common.{◌≡◌, length}
use Rattle.contour_chain.specs.Inner.Links.{AreFollowers, ArePassed}
use Rattle.contour_chain.proofs.links.followers.Given as goal

-- the followers of the segments before this one are there
abbrev pub invariant-loop-i : goal.invariant-loop-i
invariant-loop-i l = record {
  long : length l.next.items ≡ l.i;
  follow : AreFollowers l.segments l.next.items;
  passed : ArePassed l.segments l.i l.passed;
}
