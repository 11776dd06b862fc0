use Rattle.region_parts.specs.Inner.Lists.{AreLinked}
use Rattle.region_parts.proofs.parts.Lists.make.Given as goal

-- the parts from this one on are linked
abbrev pub invariant-parts : goal.invariant-parts
invariant-parts l = record { linked : AreLinked l.regions l.others l.lists l.at }

abbrev pub decreases-parts : goal.decreases-parts
decreases-parts l = l.at
