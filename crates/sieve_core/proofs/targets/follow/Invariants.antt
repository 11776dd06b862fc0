use Rattle.std.proofs.Common.{◌-◌, length, not}
use Rattle.std.specs.Prelude.{nat_eq}
use denote.Param.{value_of, number}
use Rattle.sieve_core.specs.Inner.Targets.{IsUnderWay}
use Rattle.sieve_core.proofs.targets.follow.Given as goal

abbrev pub invariant-loop-targets : goal.invariant-loop-targets
invariant-loop-targets g l = IsUnderWay (not (nat_eq (value_of (number g.row.EIGHT)) 0)) l.regions l.st l.fn.targets l.targets l.path.items l.start l.at

abbrev pub decreases-loop-targets : goal.decreases-loop-targets
decreases-loop-targets g l = length l.regions.firsts - length l.path.items
