use Rattle.std.proofs.Common.{◌≤◌, ◌+◌}
use Rattle.burn_scanline.specs.EdgeTable.{edge_of}
use Rattle.all_touched.specs.Inner.Pieces.{Adds}
use Rattle.all_touched.proofs.PieceLemmas.{met_above}
use Rattle.all_touched.proofs.touched.push_edge.Given as goal

-- the cells that the edge meets in the rows before this one are added
abbrev pub invariant-rows : goal.invariant-rows
invariant-rows l = record {
  low : l.edge.first ≤ l.row;
  adds : Adds l.frame (met_above l.frame (edge_of l.edge) l.row) l.fn.pieces.items l.pieces.items;
}
