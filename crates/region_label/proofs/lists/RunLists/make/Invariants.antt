use Rattle.std.proofs.Common.{◌≡◌, ◌<◌, ℕ, Some, length}
use Rattle.std.specs.Prelude.{slice_get}
use Rattle.region_label.proofs.lists.RunLists.make.Given as goal

-- the runs before this one are linked to themselves
abbrev pub invariant-links : goal.invariant-links
invariant-links l = record {
  sized : length l.links.items ≡ l.run;
  each : (i : ℕ) → i < length l.links.items → slice_get l.links.items i ≡ Some i;
}
