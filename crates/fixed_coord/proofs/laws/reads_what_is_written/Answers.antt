use Rattle.fixed_coord.proofs.ShortestLemmas.{shortest_reads}
use Rattle.fixed_coord.proofs.laws.reads_what_is_written.Goals as goal

pub returns : goal.returns
returns c = shortest_reads
