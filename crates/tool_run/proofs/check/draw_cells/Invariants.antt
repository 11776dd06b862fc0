use Rattle.std.proofs.Common.{◌≡◌, map}
use Rattle.std.specs.List.{range_with_len}
use Rattle.tool_outcome.specs.Check.{drawn_value, number_in_turn}
use Rattle.tool_run.proofs.check.draw_cells.Given as goal

-- the values so far, and the number that the last of them was drawn with
abbrev pub invariant-cells : goal.invariant-cells
invariant-cells l = record {
  cells : l.cells.items ≡ map (drawn_value l.job) (range_with_len 0 l.counter);
  number : l.number ≡ number_in_turn l.job.seed l.counter;
}
