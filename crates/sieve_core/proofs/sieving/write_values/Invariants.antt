use Rattle.sieve_core.specs.Inner.Values.{AreWritten}
use Rattle.sieve_core.proofs.sieving.write_values.Given as goal

-- the runs before this one are written
abbrev pub invariant-loop-i : goal.invariant-loop-i
invariant-loop-i g l = AreWritten l.regions l.table l.targets l.fn.cells l.cells l.i
