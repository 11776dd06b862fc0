use Rattle.std.proofs.Common.{◌≡◌, take}
use Rattle.std.specs.Str.Parse.{AllDigits, digits_value}
use Rattle.fixed_coord.proofs.read.short_size.Given as goal

abbrev pub invariant-loop-digit : goal.invariant-loop-digit
invariant-loop-digit l = record { digits : AllDigits 10 (take l.digit-index l.digits); size : l.size ≡ digits_value 10 (take l.digit-index l.digits) }
