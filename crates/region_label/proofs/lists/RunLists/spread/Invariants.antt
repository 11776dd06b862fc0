use Rattle.std.proofs.Common.{◌≡◌, ◌<◌, ◌≤◌, ℕ, Some, length}
use Rattle.std.specs.Prelude.{slice_get}
use Rattle.region_label.specs.Inner.Blocks.{numbers_of}
use Rattle.region_label.proofs.SpreadLemmas.{AreSpread}
use Rattle.region_label.proofs.lists.RunLists.spread.Given as goal

-- the components before this one have no first run yet
abbrev pub invariant-firsts : goal.invariant-firsts
invariant-firsts g l = record {
  components : l.self.components ≡ l.fn.self.components;
  links : l.self.links ≡ l.fn.self.links;
  sized : length l.self.firsts.items ≡ length l.fn.self.firsts.items;
  count : l.self.count ≡ l.fn.self.count;
  none : (m : ℕ) → m < l.k → slice_get l.self.firsts.items m ≡ Some l.end;
}

-- the runs from this one on are spread
abbrev pub invariant-runs : goal.invariant-runs
invariant-runs g l = record {
  spread : AreSpread (numbers_of l.rows) l.fn.self l.self (length l.rows.runs.items) l.at;
  within : l.at ≤ length l.rows.runs.items;
}

abbrev pub decreases-runs : goal.decreases-runs
decreases-runs g l = l.at
