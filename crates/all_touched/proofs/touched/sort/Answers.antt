use Rattle.std.proofs.Common.{rules}
use Rattle.std.proofs.lemmas.List.Sorted.{IsNonDecreasingBy-from_sort_by_key}
use Rattle.all_touched.specs.Inner.Pieces.{key_of}
use Rattle.all_touched.proofs.PieceLemmas.{has_pieces}
use Rattle.all_touched.proofs.touched.sort.Goals as goal

pub returns-clause-order : goal.returns-clause-order
returns-clause-order c = IsNonDecreasingBy-from_sort_by_key key_of _ c.sort_unstable_by_key.ensures.sorted (λ a r q k. search rules)

pub returns-clause-same : goal.returns-clause-same
returns-clause-same c = has_pieces _ _ c.sort_unstable_by_key.ensures.permutation
