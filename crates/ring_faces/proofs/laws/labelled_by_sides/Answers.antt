use Rattle.ring_faces.proofs.RegionLemmas.{labelling_by_sides}
use Rattle.ring_faces.proofs.laws.labelled_by_sides.Goals as goal

pub returns : goal.returns
returns g c = labelling_by_sides
