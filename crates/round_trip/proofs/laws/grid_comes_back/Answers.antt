use Rattle.round_trip.proofs.LawLemmas.{makes_round_trip}
use Rattle.round_trip.proofs.laws.grid_comes_back.Goals as goal

pub returns : goal.returns
returns c = makes_round_trip
