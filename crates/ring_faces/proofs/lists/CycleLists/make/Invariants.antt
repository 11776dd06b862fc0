use Rattle.std.proofs.Common.{◌≤◌, length}
use Rattle.ring_faces.specs.Inner.Chains.{AreListed}
use Rattle.ring_faces.proofs.lists.CycleLists.make.Given as goal

-- the cycles from this one on are linked
abbrev pub invariant-loop-at : goal.invariant-loop-at
invariant-loop-at l = record {
  listed : AreListed l.regions l.walks.table l.cycles l.lists l.at;
  within : l.at ≤ length l.cycles;
}

abbrev pub decreases-loop-at : goal.decreases-loop-at
decreases-loop-at l = l.at
