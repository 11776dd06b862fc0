use Rattle.std.proofs.Common.{◌≡◌, ◌-◌, ◌<◌, length}
use Rattle.contour_chain.specs.Inner.Walks.{IsWalking, Takes}
use Rattle.contour_chain.proofs.walk.line_from.Given as goal

-- the line so far, and the segment that comes next
abbrev pub invariant-walk : goal.invariant-walk
invariant-walk l = record {
  within : l.at < length l.segments;
  sized : length l.taken ≡ length l.segments;
  walking : IsWalking l.segments l.first l.line l.at;
  takes : Takes l.segments l.line l.fn.taken l.taken;
}

abbrev pub decreases-walk : goal.decreases-walk
decreases-walk l = length l.segments - length l.line
