use Rattle.std.proofs.Common.{◌≡◌, ◌<◌, ℕ, Some, None, length, replicate, take}
use Rattle.std.specs.Prelude.{slice_get}
use Rattle.region_label.proofs.lists.RunLists.clear.Given as goal

abbrev pub invariant-components : goal.invariant-components
invariant-components l = take l.component-index l.component-items ≡ replicate l.component-index None

abbrev pub invariant-links : goal.invariant-links
invariant-links l = record {
  components : l.self.components.items ≡ replicate (length l.fn.self.components.items) None;
  sized : length l.self.links.items ≡ length l.fn.self.links.items;
  links : (i : ℕ) → i < l.run → slice_get l.self.links.items i ≡ Some i;
  firsts : l.self.firsts ≡ l.fn.self.firsts;
}
