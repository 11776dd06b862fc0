use Rattle.std.proofs.Common.{◌≡◌, ◌<◌, ℕ, Some}
use Rattle.std.specs.Prelude.{slice_get}
use Rattle.contour_segments.specs.Inner.Blocks.{IsWider}
use Rattle.contour_segments.specs.declared.span.Span.{Span}
use Rattle.contour_segments.proofs.table.over_all.Given as goal

-- the spans before this one lie within
abbrev pub invariant-loop-span : goal.invariant-loop-span
invariant-loop-span l = (i : ℕ) (span : Span) → i < l.span-index → slice_get l.spans i ≡ Some span → IsWider span l.all
