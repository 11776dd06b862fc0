use Rattle.std.proofs.Common.{◌<◌}
use Rattle.contour_segments.specs.Inner.Blocks.{Covers, IsPlaceOf}
use Rattle.contour_segments.proofs.lattice.Lattice.span.Given as goal

-- the lattice cells before this one are covered
abbrev pub invariant-cells : goal.invariant-cells
invariant-cells l = record {
  at : l.counter < l.to → IsPlaceOf l.self.cells.now l.counter l.place;
  covers : Covers l.self.cells.now l.self.valid.now l.span l.from l.counter;
}
