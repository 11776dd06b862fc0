use Rattle.std.proofs.Common.{◌≡◌, ◌+◌, ◌-◌, ◌*◌, ◌≤◌, length}
use Rattle.edge_trace.specs.Inner.Links.{AreFollowed, IsCut, IsWindow}
use Rattle.edge_trace.proofs.links.links.Given as goal

-- the rows before this one are linked
abbrev pub invariant-loop-at : goal.invariant-loop-at
invariant-loop-at l = record {
  window : IsWindow l.sides.numbers.items l.window;
  sized : length l.window.slots.items ≡ 16 * l.stride;
  low : l.window.low ≤ l.at * (4 * l.stride) - (4 * l.stride + 5);
  high : l.window.high ≤ (l.at + 2) * (4 * l.stride) + 4;
  followed : AreFollowed l.stride l.sides.numbers.items l.sides.owners.items l.ways.items;
  cut : IsCut l.sides.numbers.items ((l.at + 1) * (4 * l.stride)) (length l.ways.items);
}
