-- On which side of a line a point lies. This project's own.
use Rattle.std.specs.Prelude.{ℤ, ◌-ℤ◌, ◌*ℤ◌}

-- twice the area of the triangle a, b, p, positive where its corners turn to the left
abbrev pub turn : ℤ × ℤ → ℤ × ℤ → ℤ × ℤ → ℤ
turn a b p = (b.0 -ℤ a.0) *ℤ (p.1 -ℤ a.1) -ℤ (b.1 -ℤ a.1) *ℤ (p.0 -ℤ a.0)
