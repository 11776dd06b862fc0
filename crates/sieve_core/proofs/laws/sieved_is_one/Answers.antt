use Rattle.sieve_core.proofs.OneSieveLemmas.{one_sieved}
use Rattle.sieve_core.proofs.laws.sieved_is_one.Goals as goal

pub returns : goal.returns
returns g c = one_sieved
