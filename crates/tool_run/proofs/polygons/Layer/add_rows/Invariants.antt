use Rattle.std.proofs.Common.{◌≡◌, ◌≤◌, ◌++◌, ◌-◌, length}
use Rattle.tool_run.specs.Inner.Layer.{rows_left}
use Rattle.tool_run.proofs.polygons.Layer.add_rows.Given as goal

-- the rows so far were added
abbrev pub invariant-rows : goal.invariant-rows
invariant-rows l = record {
  frame : l.texts.frame ≡ l.fn.texts.frame;
  from : l.from ≤ l.k;
  within : l.k ≤ length l.self.values.items;
  rows : l.fn.rows ++ rows_left l.self l.from ≡ l.rows ++ rows_left l.self l.k;
}

abbrev pub decreases-rows : goal.decreases-rows
decreases-rows l = length l.self.values.items - l.k
