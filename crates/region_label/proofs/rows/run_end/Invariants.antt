use Rattle.std.proofs.Common.{◌≡◌, ◌-◌, ◌<◌, ◌≤◌, length, ℕ}
use Rattle.std.specs.Prelude.{slice_get}
use Rattle.region_label.specs.Inner.Rows.{IsValidAt}
use Rattle.region_label.proofs.rows.run_end.Given as goal

-- the cells so far are valid and have the value of the first
abbrev pub invariant-loop-to : goal.invariant-loop-to
invariant-loop-to g l = record {
  some : l.from < l.to;
  inside : l.to ≤ length l.cells;
  same : (col : ℕ) → l.from ≤ col → col < l.to → IsValidAt l.valid col × (slice_get l.cells col ≡ slice_get l.cells l.from);
}

abbrev pub decreases-loop-to : goal.decreases-loop-to
decreases-loop-to g l = length l.cells - l.to
