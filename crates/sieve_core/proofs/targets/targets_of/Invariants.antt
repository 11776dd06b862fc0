use Rattle.std.proofs.Common.{◌≡◌, [], not}
use Rattle.std.specs.Prelude.{nat_eq}
use denote.Param.{value_of, number}
use Rattle.sieve_core.specs.Inner.Targets.{AreKnownBelow, AreRight, IsIdle}
use Rattle.sieve_core.proofs.targets.targets_of.Given as goal

-- the chains of the components before this one are known
abbrev pub invariant-loop-k : goal.invariant-loop-k
invariant-loop-k g l = record {
  right : AreRight (not (nat_eq (value_of (number g.row.EIGHT)) 0)) l.regions l.st l.targets.items;
  idle : IsIdle l.targets.items;
  below : AreKnownBelow l.targets.items l.k;
  empty : l.path.items ≡ [];
}
