use Rattle.std.proofs.Common.{◌≡◌, ◌++◌, ◌-◌, length}
use Rattle.asc_grid.specs.Cells.{cells_of, offence_of_cells}
use Rattle.asc_grid.specs.Inner.Cursor.{end_of, tokens_at}
use Rattle.asc_grid.proofs.grid.read_cells.Given as goal

-- the cells read so far stand before those that are left, and none of them is an offence
abbrev pub invariant-cells : goal.invariant-cells
invariant-cells g l = record {
  read : cells_of g.T.Cell.read_of (tokens_at l.fn.tokens) ≡ l.cells.items ++ cells_of g.T.Cell.read_of (tokens_at l.tokens);
  many : length l.cells.items ≡ l.counter;
  offence : offence_of_cells g.T.Cell.read_of l.count (end_of l.fn.tokens) (tokens_at l.fn.tokens) ≡ offence_of_cells g.T.Cell.read_of (l.count - l.counter) (end_of l.fn.tokens) (tokens_at l.tokens);
  same_end : end_of l.tokens ≡ end_of l.fn.tokens;
}
