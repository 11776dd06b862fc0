use Rattle.std.proofs.Common.{◌≡◌, Some, ap, ◌∙◌, subst}
use Rattle.edge_trace.specs.Edge.{Corner, Edge}
use Rattle.edge_trace.specs.EdgeTable.{EdgeTable, IsEdgeAt}
use Rattle.edge_trace.specs.Inner.Sides.{edge_at}
use Rattle.edge_trace.proofs.table.EdgeTable.end.Goals as goal

pub returns : goal.returns
returns c =
    let side = c.side_of.result in
    let edge : Edge = edge_at (side.row, side.col) side.side in
    let told : Edge = (edge.0, (c.end.result.row, c.end.result.col)) in
    let same : edge ≡ told = ap (λ (corner : Corner). (edge.0, corner)) c.end.ensures in
    let at = c.side_of.ensures.edge ∙ ap (λ (e : Edge). Some e) same in
    (edge.0, subst (λ (t : EdgeTable). IsEdgeAt t c.args.e told) c.self.view_is at)
