use Rattle.std.proofs.Common.{◌≡◌, min, take}
use Rattle.std.specs.Str.Parse.{digits_value_after}
use Rattle.fixed_coord.specs.Inner.Cut.{cap}
use Rattle.fixed_coord.proofs.cut.spelled.Given as goal

abbrev pub invariant-loop-digit : goal.invariant-loop-digit
invariant-loop-digit l = l.size ≡ min (digits_value_after 10 l.fn.before (take l.digit-index l.digits)) cap
