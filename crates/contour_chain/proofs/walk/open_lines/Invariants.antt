use Rattle.contour_chain.specs.Inner.Walks.{AreTaken, Opens}
use Rattle.contour_chain.proofs.walk.open_lines.Given as goal

-- the open lines that begin before this segment are there
abbrev pub invariant-loop-i : goal.invariant-loop-i
invariant-loop-i l = record {
  opens : Opens l.segments l.i l.lines;
  taken : AreTaken l.segments l.lines l.taken;
}
