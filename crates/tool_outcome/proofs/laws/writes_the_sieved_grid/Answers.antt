use Rattle.tool_outcome.proofs.SieveLemmas.{agrees}
use Rattle.tool_outcome.proofs.laws.writes_the_sieved_grid.Goals as goal

pub returns : goal.returns
returns c = agrees
