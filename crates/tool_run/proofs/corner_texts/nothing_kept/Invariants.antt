use Rattle.std.proofs.Common.{◌≡◌, All, length}
use Rattle.tool_run.specs.Inner.CornerTexts.{HasNoText}
use Rattle.tool_run.proofs.corner_texts.nothing_kept.Given as goal

-- so many members so far
abbrev pub invariant-slots : goal.invariant-slots
invariant-slots l = record {
  long : length l.kept.items ≡ l._slot;
  none : All HasNoText l.kept.items;
}
