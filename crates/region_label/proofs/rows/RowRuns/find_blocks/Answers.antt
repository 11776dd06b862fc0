use Rattle.std.proofs.Common.{◌≡◌, length, arith}
use Rattle.std.proofs.lemmas.Grind.{common_steps}
use Rattle.region_label.proofs.BlockLemmas.{has_blocks, has_none}
use Rattle.region_label.proofs.rows.RowRuns.find_blocks.Goals as goal

pub loop-run-init : goal.loop-run-init
loop-run-init c = has_none c.args.self.now _ _ (grind (arith, common_steps)) (grind (arith, common_steps))

pub returns : goal.returns
returns c =
    let rows = c.args.self.now in
    let count : c.len-run-end.result ≡ length rows.runs.items = cc (rows.runs.ok.0, c.len-run-end.ensures) in
    let end : c.loop-run.run ≡ length rows.runs.items = omega (arith, count) in
    has_blocks rows c.loop-run.blocks c.requires.ordered c.requires.apart (λ some. rw (← end) c.loop-run.invariant)
