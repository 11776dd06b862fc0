use Rattle.round_trip.proofs.BurnedLemmas.{grid_back}
use Rattle.round_trip.proofs.laws.polygons_give_the_grid_back.Goals as goal

pub returns : goal.returns
returns c = grid_back
