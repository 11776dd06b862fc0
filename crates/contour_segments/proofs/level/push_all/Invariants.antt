use Rattle.std.proofs.Common.{◌≡◌, ◌++◌, map}
use Rattle.std.specs.List.{range_with_len}
use Rattle.contour_segments.specs.Inner.Series.{level_at}
use Rattle.contour_segments.proofs.level.push_all.Given as goal

abbrev pub invariant-loop-k : goal.invariant-loop-k
invariant-loop-k l = l.levels.items ≡ l.fn.levels.items ++ map (level_at l.series) (range_with_len 0 l.k)
