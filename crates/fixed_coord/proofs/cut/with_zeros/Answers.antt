use Rattle.std.proofs.Common.{arith}
use Rattle.fixed_coord.specs.Inner.Cut.{cap}
use Rattle.fixed_coord.proofs.CutLemmas.{one_zero_more}
use Rattle.fixed_coord.proofs.cut.with_zeros.Goals as goal

pub loop-step-preserved : goal.loop-step-preserved
loop-step-preserved c = one_zero_more c.args.number c.loop-step._step c.loop-step.size c.min-size.result cap (omega arith) c.loop-step.invariant c.min-size.ensures
