use Rattle.std.proofs.Common.{◌∙◌, ◌≤◌, Some, length, sym, ap, subst, arith}
use Rattle.std.specs.Prelude.{slice_get}
use Rattle.std.proofs.lemmas.Grind.{common_steps}
use Rattle.std.proofs.lemmas.List.{take_all}
use Rattle.std.specs.List.{flat_map}
use Rattle.tool_outcome.specs.LayerExtent.{points_in}
use Rattle.tool_run.specs.Inner.Extent.{HoldsPoints}
use Rattle.tool_run.proofs.LayerLemmas.{some_at}
use Rattle.tool_run.proofs.ExtentLemmas.{holds_none, holds_next}
use Rattle.tool_run.proofs.layer_extent.with_polygons.Goals as goal

pub polygons-init : goal.polygons-init
polygons-init c = record { so_far = holds_none c.args.extent }

pub polygons-preserved : goal.polygons-preserved
polygons-preserved c =
    let item = c.rings-item.result in
    let i = c.polygons.rings-index in
    let items = c.as_slice-rings-items.result.now in
    let at = ap (λ l. slice_get l i) (sym c.as_slice-rings-items.ensures) ∙ some_at items i item c.polygons-test.true ∙ ap Some (sym c.rings-item.is) in
    record { so_far = holds_next points_in c.args.polygons.now i item _ _ _ at c.polygons.invariant.so_far c.with_rings-round.ensures }

pub returns : goal.returns
returns c =
    let long : length c.args.polygons.now ≤ c.polygons.rings-index = grind (arith, common_steps, c.polygons-test.false, c.as_slice-rings-items.ensures) in
    let all = take_all c.polygons.rings-index c.args.polygons.now long in
    subst (λ ps. HoldsPoints (flat_map points_in ps) c.args.extent c.polygons.round) all c.polygons.invariant.so_far
