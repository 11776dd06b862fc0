use Rattle.contour_chain.proofs.ChainLemmas.{one_list_of_contours}
use Rattle.contour_chain.proofs.laws.level_has_one_list_of_lines.Goals as goal

pub returns : goal.returns
returns c = one_list_of_contours
