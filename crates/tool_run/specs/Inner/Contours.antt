-- Contour lines that are written level by level.
use Rattle.std.specs.Prelude.{◌≡◌, ◌++◌, ◌+◌, ◌-◌, ◌*◌, ◌≤◌, ℕ, ℤ, ◌<◌, Bool, List, [], length, drop, if◌then◌else◌}
use Rattle.std.specs.List.{flat_map}
use Rattle.cell_base.specs.Raster.{Raster, most_cells}
use Rattle.asc_grid.specs.declared.grid.Asc.{Asc}
use Rattle.contour_segments.specs.Levels.{most_levels}
use Rattle.contour_segments.specs.declared.segment.Segment.{Segment}
use Rattle.contour_chain.proofs.ChainLemmas.{one_list_of_contours}
use Rattle.wkt_text.specs.declared.geometry.Geometry.{Geometry}
use Rattle.ogr_csv.specs.Rows.{line_of, text_of_rows}
use Rattle.tool_words.specs.declared.job.ContourJob.{ContourJob}
use Rattle.tool_outcome.specs.Contour.{drawn_of, header_row, layer_text, rows_from}
use Rattle.tool_run.specs.Inner.Steps.{IsOverFrame}
use Rattle.tool_run.specs.declared.drawing.Drawing.{Drawing}
use Rattle.tool_run.specs.declared.drawing.Progress.{Progress}

-- the lines of a level: the only list that its segments make
unfoldable pub contours_of : Raster ℤ → Raster Bool → ℤ → List (List Segment)
contours_of cells valid level = (one_list_of_contours cells valid level).0

-- what is drawn of a level
abbrev pub drawn_at : Asc ℤ → Raster Bool → ℤ → List (ℤ × Geometry)
drawn_at asc valid level = drawn_of asc.frame asc.cells level (contours_of asc.cells valid level)

-- the text of the layer
abbrev pub contour_text : ContourJob → Asc ℤ → Raster Bool → List ℤ → List ℕ
contour_text job asc valid levels = layer_text job.field (flat_map (drawn_at asc valid) levels)

-- the grid lies over its frame, the table is the grid's, and the levels are not too many
pub record IsDrawing (drawing : Drawing) : Type 0 where
  pub over : IsOverFrame drawing.asc.now
  pub cells : drawing.table.cells ≡ drawing.asc.now.cells
  pub few : length drawing.levels.now ≤ most_levels

-- no level has more lines
abbrev pub most_lines : ℕ
most_lines = 2 * most_cells

-- so many levels have been begun, the lines are those of the last of them, and no more rows were written than there
-- were lines
pub record IsProgress (drawing : Drawing) (at : Progress) : Type 0 where
  pub next : at.next ≤ length at.lines
  pub begun : at.begun ≤ length drawing.levels.now
  pub none : at.begun ≡ 0 → at.lines ≡ []
  pub lines : 0 < at.begun → at.lines ≡ contours_of drawing.asc.now.cells drawing.table.valid at.level
  pub counted : at.written + (length at.lines - at.next) ≤ at.begun * most_lines

-- what is left to draw: of the level that was begun last, and of those behind it
abbrev pub left_to_draw : Drawing → Progress → List (ℤ × Geometry)
left_to_draw drawing at =
    drawn_of drawing.asc.now.frame drawing.asc.now.cells at.level (drop at.next at.lines)
    ++ flat_map (drawn_at drawing.asc.now drawing.table.valid) (drop at.begun drawing.levels.now)

-- its rows
abbrev pub rows_left : Drawing → Progress → List ℕ
rows_left drawing at = text_of_rows (rows_from drawing.job.now.field at.written (left_to_draw drawing at))

-- and the header, where it is still to come
abbrev pub text_left : Drawing → Bool → Progress → List ℕ
text_left drawing has_header at =
    (if has_header then line_of (header_row drawing.job.now.field) else []) ++ rows_left drawing at
