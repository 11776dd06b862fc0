use Rattle.std.proofs.Common.{◌≡◌, ◌*◌}
use Rattle.contour_segments.specs.Inner.Blocks.{segments_to}
use Rattle.contour_segments.proofs.table.SegmentTable.segments.Given as goal

-- the segments of the groups before this one are there
abbrev pub invariant-loop-group : goal.invariant-loop-group
invariant-loop-group l = l.out.items ≡ segments_to l.self.cells l.self.valid l.level (l.group * 4096)
