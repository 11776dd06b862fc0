use Rattle.std.proofs.Common.{◌≡◌, ◌-◌, ◌<◌, ◌≤◌, ℕ, Some, length}
use Rattle.std.specs.Prelude.{slice_get}
use Rattle.edge_trace.specs.Inner.Links.{AreNoted, AreSlots}
use Rattle.edge_trace.proofs.links.Window.forget.Given as goal

-- the slots of the numbers before this index have been emptied
abbrev pub invariant-loop-at : goal.invariant-loop-at
invariant-loop-at l = record {
  from : l.fn.self.gone ≤ l.at;
  within : l.at ≤ length l.numbers;
  early : (j x : ℕ) → j < l.at → slice_get l.numbers j ≡ Some x → x < l.low;
  sized : length l.self.slots.items ≡ length l.fn.self.slots.items;
  slots : AreSlots l.numbers l.self.slots.items;
  noted : AreNoted l.numbers l.self.slots.items l.low l.fn.self.filled;
  rest_high : l.self.high ≡ l.fn.self.high;
  rest_filled : l.self.filled ≡ l.fn.self.filled;
}

abbrev pub decreases-loop-at : goal.decreases-loop-at
decreases-loop-at l = length l.numbers - l.at
