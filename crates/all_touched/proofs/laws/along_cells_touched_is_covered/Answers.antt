use Rattle.all_touched.proofs.AlongLemmas.{touched_along_cells}
use Rattle.all_touched.proofs.laws.along_cells_touched_is_covered.Goals as goal

pub returns : goal.returns
returns g = touched_along_cells
