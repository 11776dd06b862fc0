use Rattle.ring_faces.proofs.ExistsLemmas.{one_canonical}
use Rattle.ring_faces.proofs.laws.each_has_one_polygon.Goals as goal

pub returns : goal.returns
returns g c = one_canonical
