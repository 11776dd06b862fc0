use Rattle.std.proofs.Common.{◌∙◌, [], None, Some, sym, ap, subst, refl, arith}
use Rattle.std.proofs.lemmas.List.{take_all}
use Rattle.tool_outcome.specs.LayerExtent.{layer_points, points_if}
use Rattle.ogr_csv.specs.declared.feature.Feature.{Feature}
use Rattle.tool_run.specs.Inner.Extent.{HoldsPoints}
use Rattle.tool_run.proofs.LayerLemmas.{some_at}
use Rattle.tool_run.proofs.ExtentLemmas.{holds_next, holds_none}
use Rattle.tool_run.proofs.layer_extent.extent_of.Goals as goal

pub features-init : goal.features-init
features-init c = record { so_far = holds_none None }

pub features-preserved : goal.features-preserved
features-preserved c =
    let item = c.feature-item.result in
    let i = c.features.feature-index in
    let at = some_at c.args.features.now i item c.features-test.true ∙ ap Some (sym c.feature-item.is) in
    record { so_far = holds_next (λ (f : Feature). points_if f.geometry) c.args.features.now i item _ _ _ at c.features.invariant.so_far c.with_feature-round.ensures }

pub returns : goal.returns
returns c =
    let all = take_all c.features.feature-index c.args.features.now (omega (arith, c.features-test.false)) in
    let round = subst (λ fs. HoldsPoints (layer_points fs) None c.features.round) all c.features.invariant.so_far in
    round [] refl
