use Rattle.std.proofs.Common.{◌≡◌, ◌⊎◌, ℕ, Some, length, take}
use Rattle.std.specs.Prelude.{Contains, slice_get}
use Rattle.sieve_core.proofs.targets.settle.Given as goal

-- the members so far have the target
abbrev pub invariant-loop-member : goal.invariant-loop-member
invariant-loop-member l = record {
  long : length l.targets ≡ length l.fn.targets;
  set : (k : ℕ) → Contains (take l.member-index l.path) k → slice_get l.targets k ≡ Some l.target;
  others : (k : ℕ) → Contains l.path k ⊎ (slice_get l.targets k ≡ slice_get l.fn.targets k);
}
