use Rattle.std.proofs.Common.{◌∙◌, ◌≤◌, Some, length, sym, ap, subst, arith}
use Rattle.std.specs.Prelude.{slice_get}
use Rattle.std.proofs.lemmas.Grind.{common_steps}
use Rattle.std.proofs.lemmas.List.{take_all}
use Rattle.tool_run.specs.Inner.Extent.{HoldsPoints}
use Rattle.tool_run.proofs.LayerLemmas.{some_at}
use Rattle.tool_run.proofs.ExtentLemmas.{holds_none, holds_point}
use Rattle.tool_run.proofs.layer_extent.with_path.Goals as goal

pub points-init : goal.points-init
points-init c = record { so_far = holds_none c.args.extent }

pub points-preserved : goal.points-preserved
points-preserved c =
    let item = c.point-item.result in
    let i = c.points.point-index in
    let items = c.as_slice-point-items.result.now in
    let at = ap (λ l. slice_get l i) (sym c.as_slice-point-items.ensures) ∙ some_at items i item c.points-test.true ∙ ap Some (sym c.point-item.is) in
    record { so_far = holds_point c.args.path.now i item _ _ _ at c.points.invariant.so_far c.with_point-round.ensures }

pub returns : goal.returns
returns c =
    let long : length c.args.path.now ≤ c.points.point-index = grind (arith, common_steps, c.points-test.false, c.as_slice-point-items.ensures) in
    let all = take_all c.points.point-index c.args.path.now long in
    subst (λ ps. HoldsPoints ps c.args.extent c.points.round) all c.points.invariant.so_far
