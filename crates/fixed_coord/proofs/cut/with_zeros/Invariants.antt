use Rattle.std.proofs.Common.{◌≡◌, ◌^◌, ◌*◌, min}
use Rattle.fixed_coord.specs.Inner.Cut.{cap}
use Rattle.fixed_coord.proofs.cut.with_zeros.Given as goal

abbrev pub invariant-loop-step : goal.invariant-loop-step
invariant-loop-step l = l.size ≡ min (l.fn.number * 10 ^ l._step) cap
