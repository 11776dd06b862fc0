use Rattle.region_label.proofs.ExistsLemmas.{labelling_exists}
use Rattle.region_label.proofs.laws.each_grid_has_a_labelling.Goals as goal

pub returns : goal.returns
returns g c = labelling_exists
