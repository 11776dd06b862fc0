use Rattle.std.proofs.Common.{◌≡◌, ◌*◌, ◌+◌, Some, rules, arith, ◌∙◌}
use Rattle.std.specs.Prelude.{slice_get}
use Rattle.std.proofs.lemmas.Grind.{common_steps}
use Rattle.std.proofs.lemmas.Nat.{rows}
use Rattle.std.proofs.lemmas.Option.{gets}
use Rattle.cell_base.proofs.RasterLemmas.{value_at-raster_of}
use Rattle.cell_base.proofs.grid.Grid.get.Goals as goal

pub returns : goal.returns
returns g c =
    let read : slice_get c.self.inside.cells.items (c.args.row * c.self.inside.ncols + c.args.col) ≡ Some c.index.result.now = grind (arith, common_steps, rows, gets) in
    rw (← c.self.view_is) (value_at-raster_of _ _ _ c.args.row c.args.col (search rules) (search rules) ∙ read)
