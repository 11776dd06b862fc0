use Rattle.std.proofs.Common.{arith}
use Rattle.sieve_core.proofs.ChainLemmas.{targets_found}
use Rattle.sieve_core.proofs.targets.targets_of.Goals as goal

pub returns : goal.returns
returns g c = targets_found _ c.args.regions.now c.args.st c.loop-k.k c.loop-k.targets.items c.requires.known c.loop-k.invariant.right c.loop-k.invariant.idle c.loop-k.invariant.below (omega (arith, c.count-k-end.ensures))
