use Rattle.ring_faces.proofs.RegionLemmas.{labelling_by_sides}
use Rattle.worked_examples.proofs.polygons.faces_of.Goals as goal

pub assemble-requires-clause-sides : goal.assemble-requires-clause-sides
assemble-requires-clause-sides c = labelling_by_sides _ _ _ c.requires.labelled
