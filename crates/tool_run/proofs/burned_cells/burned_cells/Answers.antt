use Rattle.std.proofs.Common.{◌∙◌, ℤ, Some, take, sym, ap, subst, arith}
use Rattle.std.proofs.lemmas.List.{take_all}
use Rattle.cell_base.specs.Clamped.{clamped}
use Rattle.cell_base.specs.Raster.{Place}
use Rattle.burn_scanline.specs.Burned.{HoldsInside, inside_value}
use Rattle.tool_outcome.specs.Features.{burned_features}
use Rattle.tool_outcome.specs.Rasterize.{burned_value, covers_by, held}
use Rattle.tool_run.specs.Inner.Strokes.{strokes_over}
use Rattle.tool_run.proofs.LayerLemmas.{some_at}
use Rattle.tool_run.proofs.StrokeLemmas.{filled_holds, holds_same, strokes_more}
use Rattle.tool_run.proofs.burned_cells.burned_cells.Goals as goal

pub features-init : goal.features-init
features-init g c =
    let cell = g.T.Cell in
    let strokes = c.strokes_of-strokes.result in
    record { burned = filled_holds cell.units_of cell.least cell.greatest strokes.how (covers_by strokes.touched) c.args.frame.now strokes.initial c.in_ok-cells.cells c.requires.frame c.in_ok-cells.ensures }

pub features-preserved : goal.features-preserved
features-preserved g c =
    let cell = g.T.Cell in
    let hold = clamped cell.least cell.greatest in
    let strokes = c.strokes_of-strokes.result in
    let item = c.feature-item.result in
    let i = c.features.feature-index in
    let at = some_at c.args.features.now i item c.features-test.true ∙ ap Some (sym c.feature-item.is) in
    let more = strokes_more cell.units_of hold c.args.job.now.value strokes c.args.features.now i item at in
    record {
      burned = subst (λ fs. HoldsInside cell.units_of cell.least cell.greatest strokes.how (covers_by strokes.touched) c.args.frame.now (cell.units_of strokes.initial) fs c.burn_feature.new.cells) (sym more)
          (c.in_ok-burn_feature.ensures (cell.units_of strokes.initial) (strokes_over cell.units_of hold c.args.job.now.value strokes (take i c.args.features.now)) c.features.invariant.burned);
    }

pub returns : goal.returns
returns g c =
    let cell = g.T.Cell in
    let hold = clamped cell.least cell.greatest in
    let strokes = c.strokes_of-strokes.result in
    let all = take_all c.features.feature-index c.args.features.now (omega (arith, c.features-test.false)) in
    let burned = subst (λ features. HoldsInside cell.units_of cell.least cell.greatest strokes.how (covers_by strokes.touched) c.args.frame.now (cell.units_of strokes.initial) (strokes_over cell.units_of hold c.args.job.now.value strokes features) c.features.cells) all c.features.invariant.burned in
    let job = c.args.job.now in
    let frame = c.args.frame.now in
    let left : Place → ℤ = inside_value cell.least cell.greatest strokes.how (covers_by strokes.touched) frame (cell.units_of strokes.initial) (strokes_over cell.units_of hold job.value strokes c.args.features.now) in
    let asked : Place → ℤ = burned_value job frame (burned_features (held job.kind) job.value c.args.features.now) in
    holds_same cell.units_of frame left asked c.features.cells (c.strokes_of-strokes.ensures frame) burned
