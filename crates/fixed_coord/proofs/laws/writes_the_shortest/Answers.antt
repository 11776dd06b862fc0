use Rattle.fixed_coord.proofs.FewestLemmas.{shortest_size-NoneIsShorter}
use Rattle.fixed_coord.proofs.laws.writes_the_shortest.Goals as goal

pub returns : goal.returns
returns c = shortest_size-NoneIsShorter
