use Rattle.std.proofs.Common.{◌≡◌, ℕ, ◌<◌, ◌≤◌, Some}
use Rattle.std.specs.Prelude.{slice_get}
use Rattle.burn_scanline.specs.declared.edge_rows.LinkedEdge.{LinkedEdge}
use Rattle.burn_scanline.proofs.edge_rows.RowTable.own_rows.Given as goal

-- the edges before this one have rows between the two
abbrev pub invariant-loop-e : goal.invariant-loop-e
invariant-loop-e l = record {
  within : l.end ≤ l.nrows;
  rows : (i : ℕ) (item : LinkedEdge) → i < l.e → slice_get l.self.edges.items i ≡ Some item → (l.first ≤ item.edge.first) × (item.edge.last < l.end);
}
