use Rattle.std.proofs.Common.{rules, arith, ap, Some, ◌∙◌}
use Rattle.std.proofs.lemmas.Grind.{common_steps}
use Rattle.std.proofs.lemmas.Nat.{rows}
use Rattle.cell_base.proofs.RasterLemmas.{slice_get-rows_of}
use Rattle.cell_base.proofs.grid.Grid.row.Goals as goal

pub returns-clause-cells : goal.returns-clause-cells
returns-clause-cells g c =
    rw (← c.self.view_is) (slice_get-rows_of _ _ _ c.args.row (search rules) ∙ ap Some (grind (arith, common_steps, rows)))
