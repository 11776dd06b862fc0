use Rattle.std.proofs.Common.{◌≡◌, ◌+◌, ◌*◌, ℕ, Some, length}
use Rattle.std.specs.Prelude.{slice_get}
use Rattle.contour_segments.specs.Inner.Blocks.{Covers}
use Rattle.contour_segments.specs.declared.span.Span.{Span}
use Rattle.contour_segments.proofs.table.blocks_of.Given as goal

-- the blocks before this one are covered
abbrev pub invariant-loop-block : goal.invariant-loop-block
invariant-loop-block l = record {
  long : length l.spans.items ≡ l.block;
  each : (i : ℕ) (span : Span) → slice_get l.spans.items i ≡ Some span → Covers l.lattice.cells.now l.lattice.valid.now span (i * 64) ((i + 1) * 64);
}
