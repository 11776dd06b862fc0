use Rattle.std.proofs.Common.{◌∙◌}
use Rattle.tool_outcome.specs.Features.{burned_features}
use Rattle.tool_outcome.specs.Rasterize.{burned_value, held}
use Rattle.tool_run.proofs.CellTextLemmas.{held_by, text_is}
use Rattle.tool_run.proofs.burning.burn_to.Goals as goal

pub returns-clause-ok : goal.returns-clause-ok
returns-clause-ok g c =
    let cell = g.T.Cell in
    let job = c.args.job.now in
    let nodata = c.nodata_of.ensures ∙ held_by cell.least cell.greatest cell.PLACES job.kind job.nodata c.requires.cells in
    let text = text_is cell.units_of cell.PLACES c.args.frame _ _ (burned_value job c.args.frame (burned_features (held job.kind) job.value c.args.features.now)) c.in_ok-cells.cells c.requires.cells.whole nodata c.in_ok-cells.ensures in
    rw (c.as_str.ensures, c.of.ensures, text) at c.write_text.ensures.ok

pub returns-clause-part : goal.returns-clause-part
returns-clause-part g c =
    let cell = g.T.Cell in
    let job = c.args.job.now in
    let nodata = c.nodata_of.ensures ∙ held_by cell.least cell.greatest cell.PLACES job.kind job.nodata c.requires.cells in
    let text = text_is cell.units_of cell.PLACES c.args.frame _ _ (burned_value job c.args.frame (burned_features (held job.kind) job.value c.args.features.now)) c.in_ok-cells.cells c.requires.cells.whole nodata c.in_ok-cells.ensures in
    rw (c.as_str.ensures, c.of.ensures, text) at c.write_text.ensures.part
