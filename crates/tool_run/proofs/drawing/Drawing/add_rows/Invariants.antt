use Rattle.std.proofs.Common.{◌≡◌, ◌++◌, ◌-◌, length}
use Rattle.tool_run.specs.Inner.Contours.{IsProgress, rows_left}
use Rattle.tool_run.proofs.drawing.Drawing.add_rows.Given as goal

-- the rows so far were added
abbrev pub invariant-levels : goal.invariant-levels
invariant-levels l = record {
  at : IsProgress l.self l.at;
  rows : l.fn.rows ++ rows_left l.self l.fn.at ≡ l.rows ++ rows_left l.self l.at;
}

abbrev pub decreases-levels : goal.decreases-levels
decreases-levels l = length l.self.levels.now - l.at.begun
