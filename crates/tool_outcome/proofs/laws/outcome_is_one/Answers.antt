use Rattle.tool_outcome.proofs.OneOutcomeLemmas.{one_outcome}
use Rattle.tool_outcome.proofs.laws.outcome_is_one.Goals as goal

pub returns : goal.returns
returns c = one_outcome
