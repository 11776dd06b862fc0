use Rattle.asc_grid.proofs.CursorLemmas.{end_of-further}
use Rattle.asc_grid.proofs.tokens.Tokens.pass_blanks.Goals as goal

pub returns-clause-same_end : goal.returns-clause-same_end
returns-clause-same_end c = rw c.advance.ensures (end_of-further c.args.self.now c.blanks.result)
