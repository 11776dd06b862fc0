use Rattle.std.proofs.Common.{sym, ◌∙◌}
use Rattle.all_touched.proofs.StretchLemmas.{apart, equal, is_across_back, stretch_back, stretch_level, stretch_upright}
use Rattle.all_touched.proofs.columns.Columns.in_row.Goals as goal

pub returns-then-eq : goal.returns-then-eq
returns-then-eq c = stretch_upright c.args.frame.now c.args.edge.now.start c.args.edge.now.end c.args.row c.args.self.from c.args.self.to c.requires.frame c.requires.row
    (equal _ _ (sym c.eq.ensures ∙ c.if-eq.true)) c.requires.across

pub returns-then-eq-2 : goal.returns-then-eq-2
returns-then-eq-2 c = stretch_level c.args.frame.now c.args.edge.now.start c.args.edge.now.end c.args.row c.args.self.from c.args.self.to
    (apart _ _ (sym c.eq.ensures ∙ c.if-eq.false)) (equal _ _ (sym c.eq-2.ensures ∙ c.if-eq-2.true)) c.requires.across

pub returns : goal.returns
returns c = stretch_back c.args.frame.now c.args.edge.now.end c.args.edge.now.start c.args.row c.in_row-2.result.from c.in_row-2.result.to c.in_row-2.ensures

pub in_row-requires-2-clause-across : goal.in_row-requires-2-clause-across
in_row-requires-2-clause-across c = is_across_back c.args.frame.now c.args.edge.now.start c.args.edge.now.end c.args.self.from c.args.self.to c.requires.across
