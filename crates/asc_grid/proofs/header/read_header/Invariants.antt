use Rattle.std.proofs.Common.{◌≡◌, length}
use Rattle.asc_grid.specs.Inner.Cursor.{end_of, tokens_at}
use Rattle.asc_grid.specs.Inner.Values.{IsPositive}
use Rattle.asc_grid.proofs.HeaderLemmas.{HasRead}
use Rattle.asc_grid.proofs.header.read_header.Given as goal

-- some pairs were read, and the others are left
abbrev pub invariant-pairs : goal.invariant-pairs
invariant-pairs g l = record {
  read : HasRead g.T.Cell.read_of (tokens_at l.fn.tokens) l.values (tokens_at l.tokens);
  positive : IsPositive l.values;
  same_end : end_of l.tokens ≡ end_of l.fn.tokens;
}

abbrev pub decreases-pairs : goal.decreases-pairs
decreases-pairs g l = length (tokens_at l.tokens)
