use Rattle.ring_faces.proofs.RegionLemmas.{labelling_by_sides}
use Rattle.tool_run.proofs.LayerLemmas.{rows_over}
use Rattle.tool_run.proofs.polygons.layer_of.Goals as goal

pub faces_of-requires : goal.faces_of-requires
faces_of-requires c = labelling_by_sides _ _ _ c.in_ok-sides.ensures.labelling

pub returns-clause-rows : goal.returns-clause-rows
returns-clause-rows c = rows_over c.args.eight c.args.asc c.in_ok-valid.valid c.in_ok-sides.sides _ _ _ c.requires c.in_ok-sides.ensures.labelling c.in_ok-faces.ensures c.in_ok-components.ensures
