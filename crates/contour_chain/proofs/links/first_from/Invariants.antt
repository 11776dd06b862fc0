use Rattle.std.proofs.Common.{◌-◌, ◌≤◌, length}
use Rattle.contour_chain.specs.Inner.Links.{AllBefore}
use Rattle.contour_chain.proofs.links.first_from.Given as goal

-- the segments before this one have been passed
abbrev pub invariant-passing : goal.invariant-passing
invariant-passing l = record {
  within : l.at ≤ length l.segments;
  before : AllBefore l.segments l.at l.place;
}

abbrev pub decreases-passing : goal.decreases-passing
decreases-passing l = length l.segments - l.at
