use Rattle.sieve_core.proofs.ValueLemmas.{alike_of}
use Rattle.sieve_core.proofs.sieving.sieve.Goals as goal

pub write_values-requires-clause-alike : goal.write_values-requires-clause-alike
write_values-requires-clause-alike g c = alike_of _ c.args.cells.now c.args.valid.now c.in_ok-regions.regions c.in_ok-regions.ensures.labelling
