use Rattle.std.proofs.Common.{◌≡◌, ◌<◌, ℕ, Some, length, not}
use Rattle.std.specs.Prelude.{nat_eq, slice_get}
use denote.Param.{value_of, number}
use Rattle.region_label.specs.Run.{Run}
use Rattle.region_label.specs.Inner.Lists.{IsNumbered, Joins, contacts}
use Rattle.region_label.specs.Inner.Blocks.{AreBeside, block_at}
use Rattle.region_label.proofs.lists.RunLists.join_row.Given as goal

-- the contacts before this index have joined
abbrev pub invariant-loop-i : goal.invariant-loop-i
invariant-loop-i g l = record {
  joins : Joins (AreBeside (not (nat_eq (value_of (number g.row.EIGHT)) 0)) l.rows) (block_at l.rows l.at) l.number l.fn.self l.self l.fn.last l.last;
  within : l.last < length l.rows.runs.items;
  joined : (j : ℕ) (b : Run) → slice_get l.rows.runs.items j ≡ Some b → b.row ≡ l.row → j < l.i → contacts (not (nat_eq (value_of (number g.row.EIGHT)) 0)) l.rows l.at j → IsNumbered l.self.components.items (block_at l.rows j);
}
