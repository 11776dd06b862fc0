use Rattle.cell_base.proofs.RasterLemmas.{raster_from_cells}
use Rattle.cell_base.proofs.grid.Grid.ncols.Goals as goal

pub returns-clause-shape : goal.returns-clause-shape
returns-clause-shape g c = rw (← c.self.view_is) (raster_from_cells _ _ _ c.self.invariant)
