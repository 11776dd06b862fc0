use Rattle.std.proofs.Common.{rules}
use Rattle.cell_base.proofs.RasterLemmas.{sets_place}
use Rattle.cell_base.proofs.grid.Grid.set.Goals as goal

pub returns : goal.returns
returns g c = rw (← c.self.view_is) (sets_place _ _ _ c.args.row c.args.col c.args.v c.self.invariant (search rules) (search rules))
