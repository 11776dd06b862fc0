use Rattle.std.proofs.Common.{◌≡◌, ◌++◌, ◌-◌, length}
use Rattle.tool_run.specs.Inner.Contours.{IsProgress, rows_left}
use Rattle.tool_run.proofs.drawing.Drawing.add_lines.Given as goal

-- the rows so far were added
abbrev pub invariant-lines : goal.invariant-lines
invariant-lines l = record {
  at : IsProgress l.self l.at;
  begun : l.at.begun ≡ l.fn.at.begun;
  rows : l.fn.rows ++ rows_left l.self l.fn.at ≡ l.rows ++ rows_left l.self l.at;
}

abbrev pub decreases-lines : goal.decreases-lines
decreases-lines l = length l.at.lines - l.at.next
