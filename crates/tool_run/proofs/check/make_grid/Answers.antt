use Rattle.std.proofs.Common.{◌≡◌, ◌∙◌, ◌*◌, ℤ, None, length, ap}
use Rattle.std.proofs.lemmas.List.FromFn.{length-map-range_with_len}
use Rattle.cell_base.specs.Raster.{Raster}
use Rattle.geo_transform.specs.declared.frame.Frame.{Frame}
use Rattle.asc_grid.specs.declared.grid.Asc.{Asc}
use Rattle.tool_outcome.specs.Check.{checked_frame, checked_grid, drawn_value}
use Rattle.tool_run.proofs.CheckLemmas.{grid_made}
use Rattle.tool_run.proofs.check.make_grid.Goals as goal

pub from_cells-requires-clause-count : goal.from_cells-requires-clause-count
from_cells-requires-clause-count c =
    let job = c.args.job.now in
    ap length c.in_ok-cells.ensures ∙ length-map-range_with_len (drawn_value job) 0 (job.width * job.height)

pub returns : goal.returns
returns c =
    let job = c.args.job.now in
    let make : Frame → Raster ℤ → Asc ℤ = λ frame cells. record { frame = frame; nodata = None; cells = cells } in
    let cells : c.from_cells.result ≡ (checked_grid job).cells = c.from_cells.ensures ∙ grid_made job c.in_ok-cells.cells.items c.requires.fits c.requires.few c.in_ok-cells.ensures in
    ap (λ (frame : Frame). make frame c.from_cells.result) c.requires.frame ∙ ap (make (checked_frame job)) cells
