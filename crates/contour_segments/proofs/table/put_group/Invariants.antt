use Rattle.std.proofs.Common.{◌≡◌, ◌*◌}
use Rattle.contour_segments.specs.Inner.Blocks.{segments_to}
use Rattle.contour_segments.proofs.table.put_group.Given as goal

-- the segments of the blocks before this one are there
abbrev pub invariant-loop-block : goal.invariant-loop-block
invariant-loop-block l = l.out.items ≡ segments_to l.lattice.cells.now l.lattice.valid.now l.level (l.block * 64)
