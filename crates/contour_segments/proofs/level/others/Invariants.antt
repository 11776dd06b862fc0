use Rattle.std.proofs.Common.{take}
use Rattle.contour_segments.proofs.LevelLemmas.{AreKept}
use Rattle.contour_segments.proofs.level.others.Given as goal

-- those of the fixed levels that were passed which aren't at the interval
abbrev pub invariant-loop-level : goal.invariant-loop-level
invariant-loop-level l = AreKept (take l.level-index l.fixed) l.series l.others.items
