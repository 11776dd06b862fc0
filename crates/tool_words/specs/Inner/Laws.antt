-- What an implementation of a tool's options proves; it can import from here alone.
use Rattle.std.proofs.Common.{◌≤◌, arith}

pub two_names : 2 ≤ 4
two_names = omega arith

pub four_names : 4 ≤ 4
four_names = omega arith
