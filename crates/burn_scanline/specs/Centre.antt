-- Which cells a geometry covers: those whose centre is within it (manual of gdal_rasterize), by the parity of the edges
-- at or left of the centre (the even-odd rule). What holds of a centre on an edge is this project's own.
use Rattle.std.specs.Prelude.{ℕ, ℤ, ◌%◌, ◌==◌, ◌-ℤ◌, ◌*ℤ◌, pos, int_le, int_lt, Bool, ◌&&◌, ◌||◌, count_by}
use Rattle.cell_base.specs.Raster.{Place}
use Rattle.geo_transform.specs.Corner.{centre2_of}
use Rattle.geo_transform.specs.declared.frame.Frame.{Frame}
use Rattle.wkt_text.specs.declared.geometry.Pt.{Pt}
use Rattle.wkt_text.specs.declared.geometry.Geometry.{Geometry}
use Rattle.burn_scanline.specs.Ring.{Edge, all_edges}

-- centres are given doubled, so that they are whole; so are points
abbrev pub doubled : Pt → ℤ × ℤ
doubled p = (pos 2 *ℤ p.x, pos 2 *ℤ p.y)

-- the height of p is from that of a on, and below that of b
abbrev pub is_between : ℤ × ℤ → ℤ × ℤ → ℤ × ℤ → Bool
is_between p a b = int_le a.1 p.1 && int_lt p.1 b.1

-- the line from a up to b is, at the height of p, at p or left of it
abbrev pub is_left : ℤ × ℤ → ℤ × ℤ → ℤ × ℤ → Bool
is_left p a b = int_le ((b.0 -ℤ a.0) *ℤ (p.1 -ℤ a.1)) ((p.0 -ℤ a.0) *ℤ (b.1 -ℤ a.1))

-- an edge from its lower end a up to b counts for p
abbrev pub counts_up : ℤ × ℤ → ℤ × ℤ → ℤ × ℤ → Bool
counts_up p a b = is_between p a b && is_left p a b

-- an edge counts for a centre, taken from whichever end is the lower one; a level edge never counts
abbrev pub counts : ℤ × ℤ → Edge → Bool
counts centre (a, b) = counts_up centre (doubled a) (doubled b) || counts_up centre (doubled b) (doubled a)

-- how many edges of all rings count for a cell's centre
abbrev pub counting_edges : Frame → Geometry → Place → ℕ
counting_edges frame g cell = count_by (counts (centre2_of frame cell.0 cell.1)) (all_edges g)

-- the geometry covers the cell: an odd number of its edges count
abbrev pub is_covered : Frame → Geometry → Place → Bool
is_covered frame g cell = (counting_edges frame g cell % 2) == 1
