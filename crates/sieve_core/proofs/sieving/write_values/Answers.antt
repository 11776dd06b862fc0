use Rattle.std.proofs.Common.{length, ap, arith}
use Rattle.sieve_core.proofs.ValueLemmas.{all_written}
use Rattle.sieve_core.proofs.sieving.write_values.Goals as goal

pub loop-i-preserved : goal.loop-i-preserved
loop-i-preserved g c = c.write_run.ensures.written c.args.cells.now c.loop-i.invariant

pub returns : goal.returns
returns g c = all_written _ c.args.regions.now c.args.table.now c.args.st c.args.targets.now c.args.cells.now c.loop-i.cells c.loop-i.i c.requires.lent c.requires.targets c.requires.known c.loop-i.invariant (omega (arith, ap length c.runs-i-end.ensures.value)) c.requires.shape
