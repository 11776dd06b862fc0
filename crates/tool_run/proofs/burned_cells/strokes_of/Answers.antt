use Rattle.std.proofs.Common.{◌≡◌, to_z, of_z, w64, arith}
use Rattle.std.proofs.lemmas.Grind.{common_steps}
use Rattle.tool_run.proofs.StrokeLemmas.{back_strokes, own_strokes}
use Rattle.tool_run.proofs.burned_cells.strokes_of.Goals as goal

pub returns-then-not-job : goal.returns-then-not-job
returns-then-not-job g c =
    let cell = g.T.Cell in
    let init : to_z w64 (of_z w64 c.args.job.now.init) ≡ c.args.job.now.init = grind (arith, common_steps) in
    let is = rw init at c.cell_of-initial.ensures in
    rw c.how_of-how.ensures (own_strokes cell.units_of cell.least cell.greatest _ c.args.job.now c.args.features.now c.cell_of-initial.result c.requires c.if-not-job.true is)

pub returns : goal.returns
returns g c =
    let cell = g.T.Cell in
    let init : to_z w64 (of_z w64 c.args.job.now.init) ≡ c.args.job.now.init = grind (arith, common_steps) in
    let is = rw init at c.cell_of-initial.ensures in
    let start = rw c.how_of-how.ensures at c.outside_cell.ensures in
    back_strokes cell.units_of cell.least cell.greatest _ c.args.job.now c.args.features.now c.outside_cell.result c.cell_of-initial.result c.requires c.if-not-job.false is start
