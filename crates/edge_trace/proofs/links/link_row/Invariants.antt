use Rattle.std.proofs.Common.{◌≡◌, ◌-◌, ◌<◌, ◌≤◌, ℕ, Some, length}
use Rattle.std.specs.Prelude.{slice_get}
use Rattle.edge_trace.specs.Inner.Links.{AreFollowed}
use Rattle.edge_trace.proofs.links.link_row.Given as goal

-- the sides before this one are linked
abbrev pub invariant-linking : goal.invariant-linking
invariant-linking l = record {
  from : length l.fn.ways.items ≤ length l.ways.items;
  followed : AreFollowed l.stride l.sides.numbers.items l.sides.owners.items l.ways.items;
  early : (j x : ℕ) → j < length l.ways.items → slice_get l.sides.numbers.items j ≡ Some x → x < l.end;
}

abbrev pub decreases-linking : goal.decreases-linking
decreases-linking l = length l.sides.numbers.items - length l.ways.items
