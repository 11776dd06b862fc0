use Rattle.round_trip.proofs.ExtentLemmas.{frame_back}
use Rattle.round_trip.proofs.laws.extent_gives_the_frame_back.Goals as goal

pub returns : goal.returns
returns c = frame_back
