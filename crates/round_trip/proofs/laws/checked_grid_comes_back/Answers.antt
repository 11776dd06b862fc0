use Rattle.round_trip.proofs.CheckLemmas.{checked_again}
use Rattle.round_trip.proofs.laws.checked_grid_comes_back.Goals as goal

pub returns : goal.returns
returns c = checked_again
