use Rattle.fixed_coord.proofs.RoundLemmas.{round_half_up-IsNearest, IsNearest-only}
use Rattle.fixed_coord.proofs.laws.rounds_to_nearest.Goals as goal

pub returns-clause-nearest : goal.returns-clause-nearest
returns-clause-nearest c = round_half_up-IsNearest

pub returns-clause-only : goal.returns-clause-only
returns-clause-only c = IsNearest-only
