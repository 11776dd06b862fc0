use Rattle.std.proofs.Common.{◌≡◌, ◌++◌, drop}
use Rattle.contour_chain.specs.Points.{points_along}
use Rattle.contour_chain.proofs.PathLemmas.{points_behind}
use Rattle.contour_chain.proofs.point.print_line.Given as goal

-- the points so far, and those of the segments that are left
abbrev pub invariant-loop-segment : goal.invariant-loop-segment
invariant-loop-segment l = l.path ++ points_behind l.frame l.cells l.level l.last (drop l.segment-index l.segments) ≡ points_along l.frame l.cells l.level l.line
