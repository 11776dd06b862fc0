use Rattle.std.proofs.Common.{◌≡◌, ◌⊎◌, ◌<◌, ◌≤◌, ℕ, true, Some, length}
use Rattle.std.specs.Prelude.{slice_get}
use Rattle.contour_chain.proofs.walk.starts_met.Given as goal

-- the followers of the segments before this one are marked
abbrev pub invariant-loop-follower : goal.invariant-loop-follower
invariant-loop-follower l = record {
  sized : length l.met.items ≡ length l.next;
  held : (i k : ℕ) → k < l.follower-index → slice_get l.next k ≡ Some i → (slice_get l.met.items i ≡ Some true) ⊎ (length l.next ≤ i);
  marked : (i : ℕ) → slice_get l.met.items i ≡ Some true → (k : ℕ) × (slice_get l.next k ≡ Some i);
}
