use Rattle.geo_transform.proofs.FaultLemmas.{frame_accepted}
use Rattle.geo_transform.proofs.laws.makes_each_frame.Goals as goal

pub returns : goal.returns
returns c = frame_accepted
