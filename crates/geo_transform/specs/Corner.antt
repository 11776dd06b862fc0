-- Where the corners and centres of a frame's cells lie. This project's own.
use Rattle.std.specs.Prelude.{ℕ, ℤ, ◌+◌, ◌-◌, ◌+ℤ◌, ◌*ℤ◌, pos}
use Rattle.geo_transform.specs.declared.frame.Frame.{Frame}

-- a corner of a cell: its upper left one by the row, counted from the top, and the column
abbrev pub corner_of : Frame → ℕ → ℕ → ℤ × ℤ
corner_of f row col = (f.xll +ℤ pos col *ℤ f.cell, f.yll +ℤ pos (f.nrows - row) *ℤ f.cell)

-- twice the centre of a cell: the sum of two opposite corners
abbrev pub centre2_of : Frame → ℕ → ℕ → ℤ × ℤ
centre2_of f row col =
    let a = corner_of f row col in
    let b = corner_of f (row + 1) (col + 1) in
    (a.0 +ℤ b.0, a.1 +ℤ b.1)
