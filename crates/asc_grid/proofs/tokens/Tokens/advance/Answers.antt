use Rattle.asc_grid.proofs.CursorLemmas.{further-at_byte}
use Rattle.asc_grid.proofs.tokens.Tokens.advance.Goals as goal

pub returns : goal.returns
returns c = rw (← c.self.view_is) (further-at_byte c.self.inside.text.now c.self.inside.at c.args.count)
