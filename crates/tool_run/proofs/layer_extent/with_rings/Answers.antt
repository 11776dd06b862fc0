use Rattle.std.proofs.Common.{◌∙◌, ◌≤◌, Some, List, length, sym, ap, subst, arith}
use Rattle.std.specs.Prelude.{slice_get}
use Rattle.std.proofs.lemmas.Grind.{common_steps}
use Rattle.std.proofs.lemmas.List.{take_all}
use Rattle.std.specs.List.{flat_map}
use Rattle.wkt_text.specs.declared.geometry.Pt.{Pt}
use Rattle.tool_run.specs.Inner.Extent.{HoldsPoints}
use Rattle.tool_run.proofs.LayerLemmas.{some_at}
use Rattle.tool_run.proofs.ExtentLemmas.{holds_none, holds_next}
use Rattle.tool_run.proofs.layer_extent.with_rings.Goals as goal

pub rings-init : goal.rings-init
rings-init c = record { so_far = holds_none c.args.extent }

pub rings-preserved : goal.rings-preserved
rings-preserved c =
    let item = c.path-item.result in
    let i = c.rings.path-index in
    let items = c.as_slice-path-items.result.now in
    let at = ap (λ l. slice_get l i) (sym c.as_slice-path-items.ensures) ∙ some_at items i item c.rings-test.true ∙ ap Some (sym c.path-item.is) in
    record { so_far = holds_next (λ (path : List Pt). path) c.args.rings.now i item _ _ _ at c.rings.invariant.so_far c.with_path-round.ensures }

pub returns : goal.returns
returns c =
    let long : length c.args.rings.now ≤ c.rings.path-index = grind (arith, common_steps, c.rings-test.false, c.as_slice-path-items.ensures) in
    let all = take_all c.rings.path-index c.args.rings.now long in
    subst (λ ps. HoldsPoints (flat_map (λ (path : List Pt). path) ps) c.args.extent c.rings.round) all c.rings.invariant.so_far
