use Rattle.std.proofs.Common.{◌≡◌, ◌≤◌}
use Rattle.burn_scanline.specs.Inner.Linking.{IsLinkedTo, edges_in}
use Rattle.burn_scanline.proofs.edge_rows.RowTable.link.Given as goal

-- the edges before this one are linked
abbrev pub invariant-loop-e : goal.invariant-loop-e
invariant-loop-e l = record {
  edges : edges_in l.self.edges.items ≡ edges_in l.fn.self.edges.items;
  linked : IsLinkedTo l.e l.self;
  within : l.self.end_row ≤ l.nrows;
}
