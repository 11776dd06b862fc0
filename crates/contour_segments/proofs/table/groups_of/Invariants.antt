use Rattle.std.proofs.Common.{◌≡◌, ◌+◌, ◌*◌, ◌<◌, ◌≤◌, ℕ, Some, length}
use Rattle.std.specs.Prelude.{slice_get}
use Rattle.contour_segments.specs.Inner.Blocks.{IsWider}
use Rattle.contour_segments.specs.declared.span.Span.{Span}
use Rattle.contour_segments.proofs.table.groups_of.Given as goal

-- the groups before this one are there
abbrev pub invariant-loop-group : goal.invariant-loop-group
invariant-loop-group l = record {
  long : length l.groups.items ≡ l.group;
  each : (g i : ℕ) (group block : Span) → slice_get l.groups.items g ≡ Some group → slice_get l.blocks i ≡ Some block → g * 64 ≤ i → i < (g + 1) * 64 → IsWider block group;
}
