use Rattle.round_trip.proofs.GridLemmas.{normalised_same}
use Rattle.round_trip.proofs.laws.normalised_grid_is_the_grid.Goals as goal

pub returns : goal.returns
returns c = normalised_same
