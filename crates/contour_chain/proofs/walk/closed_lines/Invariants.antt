use Rattle.std.proofs.Common.{◌≡◌, ◌++◌, List}
use Rattle.contour_segments.specs.declared.segment.Segment.{Segment}
use Rattle.contour_chain.specs.Inner.Walks.{AreTaken, Closes}
use Rattle.contour_chain.proofs.walk.closed_lines.Given as goal

-- behind the open lines stand the closed ones that begin before this segment
abbrev pub invariant-loop-i : goal.invariant-loop-i
invariant-loop-i l = record {
  rounds : List (List Segment);
  split : l.lines ≡ l.fn.lines ++ rounds;
  closes : Closes l.segments l.i rounds;
  taken : AreTaken l.segments l.lines l.taken;
}
