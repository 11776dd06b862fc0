use Rattle.wkt_text.specs.declared.geometry.Geometry.{Geometry}
use Rattle.std.proofs.Common.{ℤ, to_z, of_z, w64, ◌≡◌, ◌∙◌, Some, sym, ap, arith}
use Rattle.std.proofs.lemmas.List.{take_all}
use Rattle.std.proofs.lemmas.Grind.{common_steps}
use Rattle.cell_base.specs.Clamped.{clamped}
use Rattle.tool_outcome.specs.Features.{burned_features}
use Rattle.tool_outcome.specs.Rasterize.{first_value}
use Rattle.tool_run.specs.Inner.Strokes.{shape_as}
use Rattle.tool_run.proofs.LayerLemmas.{some_at}
use Rattle.tool_run.proofs.StrokeLemmas.{first_kept, skipped_more}
use Rattle.tool_run.proofs.burned_cells.first_cell.Goals as goal

pub returns-in-Some : goal.returns-in-Some
returns-in-Some g c =
    let hold = clamped g.T.Cell.least g.T.Cell.greatest in
    let item = c.feature-item.result in
    let at = some_at c.args.features.now c.features.feature-index item c.features-test.true ∙ ap Some (sym c.feature-item.is) in
    let shape : Geometry × ℤ = (c.in-Some.field-0-0.now, c.in-Some.value) in
    let value : to_z w64 (of_z w64 c.in-Some.value) ≡ c.in-Some.value = grind (arith, common_steps) in
    ap (λ (v : ℤ). Some v) (rw value at c.cell_of.ensures) ∙ sym (first_kept hold c.args.value.now c.args.features.now c.features.feature-index item (shape_as hold shape) at c.features.invariant.skipped (c.in-Some.ensures hold))

pub features-preserved : goal.features-preserved
features-preserved g c =
    let hold = clamped g.T.Cell.least g.T.Cell.greatest in
    let item = c.feature-item.result in
    let at = some_at c.args.features.now c.features.feature-index item c.features-test.true ∙ ap Some (sym c.feature-item.is) in
    record { skipped = skipped_more hold c.args.value.now c.args.features.now c.features.feature-index item at c.features.invariant.skipped (c.in_default.ensures hold) }

pub returns : goal.returns
returns g c =
    let hold = clamped g.T.Cell.least g.T.Cell.greatest in
    let all = take_all c.features.feature-index c.args.features.now (omega (arith, c.features-test.false)) in
    sym (ap first_value (ap (burned_features hold c.args.value.now) (sym all) ∙ c.features.invariant.skipped))
