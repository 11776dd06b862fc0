use Rattle.std.proofs.Common.{take}
use Rattle.all_touched.specs.Inner.Pieces.{AddsTable}
use Rattle.all_touched.proofs.touched.push_edges.Given as goal

-- the cells that the edges before this one meet are added
abbrev pub invariant-edges : goal.invariant-edges
invariant-edges l = AddsTable l.frame (take l.e l.table) l.fn.pieces.items l.pieces.items
