use Rattle.std.proofs.Common.{ℕ, subst}
use Rattle.std.specs.Prelude.{slice_index}
use Rattle.burn_scanline.specs.Runs.{AddsCells}
use Rattle.burn_scanline.proofs.RowLemmas.{fills_more, fills_none}
use Rattle.burn_scanline.proofs.centre.push_row.Goals as goal

pub loop-at-init : goal.loop-at-init
loop-at-init c = fills_none c.args.row c.args.ncols c.args.columns.now c.args.runs.now c.requires.ends

pub loop-at-preserved : goal.loop-at-preserved
loop-at-preserved c = fills_more c.args.row c.args.ncols c.loop-at.at c.args.columns.now c.args.runs.now c.loop-at.runs c.push.new.self c.requires.sorted c.requires.within c.loop-at-test.true c.loop-at.invariant (subst (λ (to : ℕ). AddsCells (record { row = c.args.row; from = slice_index c.args.columns.now c.loop-at.at; to = to }) c.loop-at.runs c.push.new.self) c.run_end-to.ensures c.in_ok-push.ensures.ok)
