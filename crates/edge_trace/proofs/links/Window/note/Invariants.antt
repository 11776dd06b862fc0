use Rattle.std.proofs.Common.{◌≡◌, ◌-◌, ◌<◌, ◌≤◌, ℕ, Some, length}
use Rattle.std.specs.Prelude.{slice_get}
use Rattle.edge_trace.specs.Inner.Links.{AreNoted, AreSlots}
use Rattle.edge_trace.proofs.links.Window.note.Given as goal

-- the numbers before this index have been noted
abbrev pub invariant-loop-at : goal.invariant-loop-at
invariant-loop-at l = record {
  from : l.fn.self.filled ≤ l.at;
  within : l.at ≤ length l.numbers;
  early : (j x : ℕ) → j < l.at → slice_get l.numbers j ≡ Some x → x < l.high;
  sized : length l.self.slots.items ≡ length l.fn.self.slots.items;
  slots : AreSlots l.numbers l.self.slots.items;
  noted : AreNoted l.numbers l.self.slots.items l.fn.self.low l.at;
  rest_low : l.self.low ≡ l.fn.self.low;
  rest_gone : l.self.gone ≡ l.fn.self.gone;
}

abbrev pub decreases-loop-at : goal.decreases-loop-at
decreases-loop-at l = length l.numbers - l.at
