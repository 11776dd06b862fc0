use Rattle.std.proofs.Common.{add-one, sym, ◌∙◌}
use Rattle.asc_grid.proofs.TokenLemmas.{tokens_from-drop_blank}
use Rattle.asc_grid.proofs.tokens.blanks.Goals as goal

pub loop-at-preserved : goal.loop-at-preserved
loop-at-preserved c = λ line.
    rw add-one (tokens_from-drop_blank line c.args.text.now c.loop-at.at c.loop-at-test.true (sym c.is_blank.ensures ∙ c.if-not-is_blank.false) ∙ c.loop-at.invariant line)
