use Rattle.std.proofs.Common.{refl, sym, ◌∙◌, arith}
use Rattle.burn_scanline.proofs.LinkLemmas.{gathers_edge, gathers_point, gathers_rowless}
use Rattle.burn_scanline.proofs.edge_rows.RowTable.push_edge.Goals as goal

pub returns-then-eq : goal.returns-then-eq
returns-then-eq c = λ rule frame at_start at_end. gathers_point rule frame c.args.start.now.point c.args.end.now.point c.args.self.now.edges.items (sym c.eq.ensures ∙ c.if-eq.true)

pub returns-then-first_row-end_row : goal.returns-then-first_row-end_row
returns-then-first_row-end_row c = λ rule frame at_start at_end.
    gathers_rowless rule frame c.args.start.now.point c.args.end.now.point c.args.start.now.first c.args.start.now.end c.args.end.now.first c.args.end.now.end
    c.min-first_row.result c.max-end_row.result c.args.self.now.edges.items at_start at_end (sym c.eq.ensures ∙ c.if-eq.false)
    (grind (arith, c.min-first_row.ensures)) (grind (arith, c.max-end_row.ensures)) c.if-first_row-end_row.true

pub returns : goal.returns
returns c = λ rule frame at_start at_end. rw c.in_ok-push.ensures.items (
    gathers_edge rule frame c.args.start.now.point c.args.end.now.point c.args.start.now.first c.args.start.now.end c.args.end.now.first c.args.end.now.end
    c.min-first_row.result c.max-end_row.result c.args.self.now.edges.items _ at_start at_end (sym c.eq.ensures ∙ c.if-eq.false)
    (grind (arith, c.min-first_row.ensures)) (grind (arith, c.max-end_row.ensures)) (omega (arith, c.if-first_row-end_row.false)) refl refl refl refl)
