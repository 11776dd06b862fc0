use Rattle.std.proofs.Common.{◌≡◌, ◌-◌, ◌<◌, ◌≤◌, ℕ, Some}
use Rattle.std.specs.Prelude.{slice_get}
use Rattle.region_label.specs.Run.{Run}
use Rattle.edge_trace.proofs.sides.past.Given as goal

-- the runs before this one end before the column
abbrev pub invariant-loop-at : goal.invariant-loop-at
invariant-loop-at l = record {
  from : l.ahead.at ≤ l.at;
  to : l.at ≤ l.ahead.end;
  early : (i : ℕ) (run : Run) → l.ahead.at ≤ i → i < l.at → slice_get l.table.runs i ≡ Some run → run.to ≤ l.col;
}

abbrev pub decreases-loop-at : goal.decreases-loop-at
decreases-loop-at l = l.ahead.end - l.at
