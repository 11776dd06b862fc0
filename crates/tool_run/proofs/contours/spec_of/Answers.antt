use Rattle.std.proofs.Common.{◌∙◌, ◌++◌, ap, arith, sym, take}
use Rattle.std.specs.Prelude.{slice_get}
use Rattle.std.specs.Option.{option_to_list}
use Rattle.tool_run.proofs.LayerLemmas.{some_at, take_more}
use Rattle.cell_base.specs.MicroCells.{least_micro}
use Rattle.tool_run.proofs.contours.spec_of.Goals as goal

pub levels-preserved : goal.levels-preserved
levels-preserved c =
    let fixed = c.args.job.now.fixed in
    let i = c.levels.i in
    let at = some_at fixed i least_micro (omega (arith, c.len-i-end.ensures)) in
    record {
      fixed = c.in_ok-add_level.ensures
          ∙ ap (λ levels. levels ++ option_to_list (slice_get fixed i)) c.levels.invariant.fixed
          ∙ ap (λ o. take i fixed ++ option_to_list o) at
          ∙ sym (take_more fixed i _ at);
    }
