use Rattle.region_parts.proofs.OwnLemmas.{own_parts}
use Rattle.region_parts.proofs.laws.each_is_its_own_part.Goals as goal

pub returns : goal.returns
returns c = λ connectivity cells valid regions labelled. own_parts connectivity cells valid regions labelled
