use Rattle.contour_segments.proofs.LevelLemmas.{one_list_of_levels}
use Rattle.contour_segments.proofs.laws.levels_make_one_list.Goals as goal

pub returns : goal.returns
returns c = one_list_of_levels
