-- Which cells a geometry touches. Source: manual of gdal_rasterize (-at); the exact rule is this project's own.
use Rattle.std.specs.Prelude.{◌≡◌, ℕ, ℤ, ◌+◌, ◌<◌, ◌&&◌, ◌||◌, int_lt, pos, Bool, List, [], ◌∷◌}
use Rattle.std.specs.Int.{int_max, int_min}
use Rattle.std.specs.List.{list_any}
use Rattle.fixed_coord.specs.Turn.{turn}
use Rattle.cell_base.specs.Raster.{Place}
use Rattle.geo_transform.specs.Corner.{corner_of}
use Rattle.geo_transform.specs.declared.frame.Frame.{Frame}
use Rattle.wkt_text.specs.declared.geometry.Pt.{Pt}
use Rattle.wkt_text.specs.declared.geometry.Geometry.{Geometry}
use Rattle.burn_scanline.specs.Ring.{Edge, all_edges}
use Rattle.burn_scanline.specs.Centre.{is_covered}
use Rattle.burn_scanline.specs.EdgeTable.{is_row_of}
use Rattle.burn_scanline.specs.Runs.{Run, is_in_runs}
use Rattle.burn_scanline.specs.declared.edge_rows.SpanRule.TheVariants.{Strip}

-- the widths of an edge meet the open strip of a column: its left end is before the right side of the column's cells, and
-- its right end past their left side
abbrev pub meets_column : Frame → Edge → ℕ → Bool
meets_column frame (a, b) col =
    int_lt (int_min a.x b.x) (corner_of frame 0 (col + 1)).0 && int_lt (corner_of frame 0 col).0 (int_max a.x b.x)

-- the four corners of a cell
abbrev pub corners_of : Frame → Place → List (ℤ × ℤ)
corners_of frame (row, col) =
    corner_of frame row col ∷ corner_of frame row (col + 1)
    ∷ corner_of frame (row + 1) col ∷ corner_of frame (row + 1) (col + 1) ∷ []

-- a point lies strictly on the left, or on the right, of the line through an edge
abbrev pub turn_at : Edge → ℤ × ℤ → ℤ
turn_at (a, b) p = turn (a.x, a.y) (b.x, b.y) p

abbrev pub is_left_of : Edge → ℤ × ℤ → Bool
is_left_of edge p = int_lt (pos 0) (turn_at edge p)

abbrev pub is_right_of : Edge → ℤ × ℤ → Bool
is_right_of edge p = int_lt (turn_at edge p) (pos 0)

-- an edge meets a cell's open square: it has length, its heights and its widths meet the square's, and of the corners one
-- is strictly on each side of its line
abbrev pub is_met : Frame → Edge → Place → Bool
is_met frame edge cell =
    is_row_of Strip frame edge cell.0 && (meets_column frame edge cell.1
    && (list_any (is_left_of edge) (corners_of frame cell) && list_any (is_right_of edge) (corners_of frame cell)))

-- a geometry touches a cell: it covers the cell by the centre rule, or an edge meets the cell's open square
abbrev pub is_touched : Frame → Geometry → Place → Bool
is_touched frame g cell = is_covered frame g cell || list_any (λ edge. is_met frame edge cell) (all_edges g)

-- of a frame's cells those in the runs are the ones that a geometry touches
abbrev pub Touches : Frame → Geometry → List Run → Type 0
Touches frame g runs = (p : Place) → p.0 < frame.nrows → p.1 < frame.ncols → is_in_runs runs p ≡ is_touched frame g p
