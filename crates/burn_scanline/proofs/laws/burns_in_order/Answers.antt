use Rattle.burn_scanline.proofs.OrderLemmas.{in_order}
use Rattle.burn_scanline.proofs.laws.burns_in_order.Goals as goal

pub returns : goal.returns
returns g c = in_order g.T.Cell.units_of g.T.Cell.least g.T.Cell.greatest
