use Rattle.std.proofs.Common.{ap, ◌∙◌}
use Rattle.fixed_coord.specs.Whole.{whole_of}
use Rattle.fixed_coord.proofs.ShortestLemmas.{shortest_whole, decimal_reads}
use Rattle.fixed_coord.proofs.laws.writes_whole_numbers.Goals as goal

pub returns-clause-text : goal.returns-clause-text
returns-clause-text c = shortest_whole

pub returns-clause-reads : goal.returns-clause-reads
returns-clause-reads c = λ v small. ap whole_of (shortest_whole v) ∙ decimal_reads v small
