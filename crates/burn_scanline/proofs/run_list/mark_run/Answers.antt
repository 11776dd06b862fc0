use Rattle.std.proofs.Common.{◌≡◌, arith}
use Rattle.burn_scanline.proofs.run_list.mark_run.Goals as goal

pub returns : goal.returns
returns c =
    let end : c.cells.col ≡ c.args.run.to = omega arith in
    rw end at c.cells.invariant
