-- A number between two ends.
use Rattle.std.specs.Prelude.{ℤ, int_lt, if◌then◌else◌}

-- v, or the nearer end where it is not between the two
abbrev pub clamped : ℤ → ℤ → ℤ → ℤ
clamped low high v = if int_lt v low then low else (if int_lt high v then high else v)
