use Rattle.burn_scanline.proofs.OrderLemmas.{outside_holds}
use Rattle.burn_scanline.proofs.laws.burns_outside.Goals as goal

pub returns : goal.returns
returns g c = outside_holds g.T.Cell.units_of g.T.Cell.least g.T.Cell.greatest
