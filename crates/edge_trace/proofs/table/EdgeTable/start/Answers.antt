use Rattle.std.proofs.Common.{◌≡◌, Some, ap, ◌∙◌, subst}
use Rattle.edge_trace.specs.Edge.{Corner, Edge}
use Rattle.edge_trace.specs.EdgeTable.{EdgeTable, IsEdgeAt}
use Rattle.edge_trace.specs.Inner.Sides.{edge_at}
use Rattle.edge_trace.proofs.table.EdgeTable.start.Goals as goal

pub returns : goal.returns
returns c =
    let side = c.side_of.result in
    let edge : Edge = edge_at (side.row, side.col) side.side in
    let told : Edge = ((c.start.result.row, c.start.result.col), edge.1) in
    let same : edge ≡ told = ap (λ (corner : Corner). (corner, edge.1)) c.start.ensures in
    let at = c.side_of.ensures.edge ∙ ap (λ (e : Edge). Some e) same in
    (edge.1, subst (λ (t : EdgeTable). IsEdgeAt t c.args.e told) c.self.view_is at)
