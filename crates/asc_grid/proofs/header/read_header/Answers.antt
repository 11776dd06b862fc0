use Rattle.std.proofs.Common.{rules, sym}
use Rattle.asc_grid.proofs.HeaderLemmas.{reads_pair}
use Rattle.asc_grid.proofs.header.read_header.Goals as goal

pub pairs-preserved : goal.pairs-preserved
pairs-preserved g c = record {
  read =
      let step = rw (c.in-Some.ensures {u = tt}).token at c.pairs.invariant.read in
      reads_pair _ _ _ _ _ _ _ (rw (c.in-Some.ensures {u = tt}).token at (sym (c.in-Some.ensures {u = tt}).is)) (c.in_ok-read_pair.ensures {u = tt}).behind step (c.in_ok-read_pair.ensures {u = tt}).ok;
  positive = search rules;
  same_end = search rules;
}
