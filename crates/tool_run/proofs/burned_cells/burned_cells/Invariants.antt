use Rattle.std.proofs.Common.{take}
use Rattle.cell_base.specs.Clamped.{clamped}
use Rattle.burn_scanline.specs.Burned.{HoldsInside}
use Rattle.tool_outcome.specs.Rasterize.{covers_by}
use Rattle.tool_run.specs.Inner.Strokes.{strokes_over}
use Rattle.tool_run.proofs.burned_cells.burned_cells.Given as goal

-- the features so far are burned
abbrev pub invariant-features : goal.invariant-features
invariant-features g l =
    let cell = g.T.Cell in
    record {
      burned : HoldsInside cell.units_of cell.least cell.greatest l.strokes.how (covers_by l.strokes.touched) l.frame (cell.units_of l.strokes.initial)
          (strokes_over cell.units_of (clamped cell.least cell.greatest) l.job.value l.strokes (take l.feature-index l.features)) l.cells;
    }
