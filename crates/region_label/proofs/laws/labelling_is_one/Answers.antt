use Rattle.region_label.proofs.OneLemmas.{one_labelling}
use Rattle.region_label.proofs.laws.labelling_is_one.Goals as goal

pub returns : goal.returns
returns g c = one_labelling
