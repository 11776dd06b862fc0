use Rattle.round_trip.proofs.CheckLemmas.{checked_back}
use Rattle.round_trip.proofs.laws.checked_grid_reads_back.Goals as goal

pub returns : goal.returns
returns c = checked_back
