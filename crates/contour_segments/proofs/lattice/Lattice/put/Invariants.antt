use Rattle.std.proofs.Common.{◌≡◌, ◌<◌}
use Rattle.contour_segments.specs.Inner.Blocks.{IsPlaceOf, segments_to}
use Rattle.contour_segments.proofs.lattice.Lattice.put.Given as goal

-- the segments of the lattice cells before this one are there
abbrev pub invariant-cells : goal.invariant-cells
invariant-cells l = record {
  at : l.counter < l.to → IsPlaceOf l.self.cells.now l.counter l.place;
  items : l.out.items ≡ segments_to l.self.cells.now l.self.valid.now l.level l.counter;
}
