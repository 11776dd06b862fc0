use Rattle.sieve_core.proofs.SieveLemmas.{one_largest, takes_once}
use Rattle.sieve_core.proofs.laws.chain_has_one_end.Goals as goal

pub returns : goal.returns
returns c = record {
  largest = one_largest;
  taken = takes_once;
}
