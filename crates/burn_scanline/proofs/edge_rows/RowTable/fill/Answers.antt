use Rattle.std.proofs.Common.{List, sym, subst}
use Rattle.std.specs.Prelude.{All}
use Rattle.std.proofs.lemmas.List.Elements.{All-nil}
use Rattle.burn_scanline.specs.EdgeTable.{IsSpanned}
use Rattle.burn_scanline.specs.Inner.Linking.{edges_in}
use Rattle.burn_scanline.specs.declared.edge_rows.LinkedEdge.{LinkedEdge}
use Rattle.burn_scanline.proofs.LinkLemmas.{rows_below}
use Rattle.burn_scanline.proofs.edge_rows.RowTable.fill.Goals as goal

pub link-requires : goal.link-requires
link-requires c = rows_below c.args.rule c.args.frame.now c.push_geometry.new.self.edges.items (c.in_ok-push_geometry.ensures.spans (subst (λ (xs : List LinkedEdge). All (IsSpanned c.args.rule c.args.frame.now) (edges_in xs)) (sym c.clear.ensures.items) (All-nil (IsSpanned c.args.rule c.args.frame.now))))
