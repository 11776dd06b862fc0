-- Which cells edges enclose: parity of the crossings of a ray to the left (the even-odd rule for points in polygons).
use Rattle.std.specs.Prelude.{◌≡◌, ℕ, ◌+◌, ◌%◌, ◌↔◌, ◌==◌, ◌&&◌, ◌||◌, nat_le, Bool, List, count_by}
use Rattle.cell_base.specs.Raster.{Place}
use Rattle.edge_trace.specs.Edge.{Edge}

-- the edge is on the cell's row, at its left side or further left: it joins a corner (r, j) and the corner
-- (r + 1, j), in either direction, with j at most c
abbrev pub is_crossed : Place → Edge → Bool
is_crossed (r, c) e = ((e.0.1 == e.1.1) && nat_le e.0.1 c)
    && (((e.0.0 == r) && (e.1.0 == (r + 1))) || ((e.1.0 == r) && (e.0.0 == (r + 1))))

-- the crossing count of the cell
abbrev pub crossing_count : List Edge → Place → ℕ
crossing_count edges cell = count_by (is_crossed cell) edges

-- the edges enclose the cell: its crossing count is odd
abbrev pub IsEnclosed : List Edge → Place → Type 0
IsEnclosed edges cell = crossing_count edges cell % 2 ≡ 1

-- the edges enclose exactly the cells of the set
abbrev pub Encloses : List Edge → (Place → Type 0) → Type 0
Encloses edges set = (cell : Place) → set cell ↔ IsEnclosed edges cell
