use Rattle.sieve_core.proofs.KeepsLemmas.{keeps_all}
use Rattle.sieve_core.proofs.laws.threshold_one_keeps_all.Goals as goal

pub returns : goal.returns
returns g c = keeps_all
