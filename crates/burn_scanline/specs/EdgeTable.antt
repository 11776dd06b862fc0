-- The edges of a geometry by the rows of a frame that they have. This project's own.
use Rattle.std.specs.Prelude.{◌≡◌, ℕ, zero, suc, ◌+◌, ◌<◌, ◌≤◌, ◌==◌, ◌&&◌, ◌||◌, not, int_lt, nat_le, Bool, List, [], ◌∷◌, ◌++◌, All, map, option_map, slice_get, unwrap_or, if◌then◌else◌}
use Rattle.std.specs.Int.{int_max, int_min}
use Rattle.std.specs.Ordering.{int_eq}
use Rattle.std.specs.List.{filter, list_any, range_with_len}
use Rattle.geo_transform.specs.Corner.{centre2_of, corner_of}
use Rattle.geo_transform.specs.declared.frame.Frame.{Frame}
use Rattle.wkt_text.specs.declared.geometry.Geometry.{Geometry}
use Rattle.burn_scanline.specs.Ring.{Edge, all_edges}
use Rattle.burn_scanline.specs.Centre.{doubled, is_between}
use Rattle.burn_scanline.specs.declared.edge_rows.SpanRule.{SpanRule}
use Rattle.burn_scanline.specs.declared.edge_rows.SpanRule.TheVariants.{Centre, Strip}
pub use Rattle.burn_scanline.specs.declared.edge_rows.SpannedEdge.{SpannedEdge}

-- the two ends of an edge differ
abbrev pub has_length : Edge → Bool
has_length (a, b) = not (int_eq a.x b.x && int_eq a.y b.y)

-- the heights of an edge meet the open strip of a row: its lower end is below the upper side of the row's cells, and its
-- upper end above their lower side
abbrev pub meets_strip : Frame → Edge → ℕ → Bool
meets_strip frame (a, b) row =
    int_lt (int_min a.y b.y) (corner_of frame row 0).1 && int_lt (corner_of frame (row + 1) 0).1 (int_max a.y b.y)

-- a row of an edge: by the rule Centre, the height of its centres is from the edge's lower end on and below its upper end;
-- by the rule Strip, the edge has length and meets the row's strip
abbrev pub is_row_of : SpanRule → Frame → Edge → ℕ → Bool
is_row_of Centre frame (a, b) row =
    let centre = centre2_of frame row 0 in
    is_between centre (doubled a) (doubled b) || is_between centre (doubled b) (doubled a)
is_row_of Strip frame edge row = has_length edge && meets_strip frame edge row

-- the edge has a row in the frame
abbrev pub has_row : SpanRule → Frame → Edge → Bool
has_row rule frame edge = list_any (is_row_of rule frame edge) (range_with_len 0 frame.nrows)

-- the edge's rows are those from its first to its last
pub record IsSpanned (rule : SpanRule) (frame : Frame) (edge : SpannedEdge) : Type 0 where
  pub some : edge.first ≤ edge.last
  pub within : edge.last < frame.nrows
  pub rows : (row : ℕ) → row < frame.nrows
      → is_row_of rule frame (edge.start, edge.end) row ≡ (nat_le edge.first row && nat_le row edge.last)

abbrev pub edge_of : SpannedEdge → Edge
edge_of edge = (edge.start, edge.end)

abbrev pub span_of : SpannedEdge → ℕ × ℕ
span_of edge = (edge.first, edge.last)

-- the table holds each edge of the geometry that has a row in the frame, once
pub record IsEdgeTable (rule : SpanRule) (frame : Frame) (g : Geometry) (table : List SpannedEdge) : Type 0 where
  pub edges : map edge_of table ≡ filter (has_row rule frame) (all_edges g)
  pub spans : All (IsSpanned rule frame) table

-- the first row of the edge of a number
abbrev pub first_row_of : List SpannedEdge → ℕ → ℕ
first_row_of table e = unwrap_or (option_map (λ edge. edge.first) (slice_get table e)) 0

-- the numbers below n of the edges that begin in a row, the last one first
abbrev pub starting_below : List SpannedEdge → ℕ → ℕ → List ℕ
starting_below table row zero = []
starting_below table row (suc n) = (if first_row_of table n == row then n ∷ [] else []) ++ starting_below table row n
