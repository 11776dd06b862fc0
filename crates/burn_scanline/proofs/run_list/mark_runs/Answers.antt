use Rattle.std.proofs.Common.{length, arith, ap}
use Rattle.burn_scanline.proofs.BurnLemmas.{element_of, runs_step}
use Rattle.burn_scanline.proofs.run_list.mark_runs.Goals as goal

pub runs-preserved : goal.runs-preserved
runs-preserved c = runs_step _ c.args.runs.now c.runs.run-index _ c.args.cover.now _ _ c.as_slice-run-items.ensures.apart (omega (arith, ap length c.as_slice-run-items.ensures.value)) c.runs.invariant c.mark_run.ensures (element_of _ _ _ _ c.as_slice-run-items.ensures.value c.runs-test.true)
