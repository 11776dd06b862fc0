-- What gdal_contour writes. Source: its manual; the order of the rows, and that the lines are counted over all levels, are
-- this project's own.
use Rattle.std.specs.Prelude.{◌≡◌, ◌≢◌, ℕ, suc, ℤ, ◌<◌, ◌≤◌, ◌≤ℤ◌, Bool, List, [], ◌∷◌, Option, Some, None, Ok, Err, map, length, codes, decimal}
use Rattle.std.specs.List.{filter_map, flat_map}
use Rattle.std.specs.Option.{option_to_list}
use Rattle.std.specs.declared.result.Result.{Result}
use Rattle.rv_outside.specs.Files.{Files}
use Rattle.fixed_coord.specs.Shortest.{shortest}
use Rattle.cell_base.specs.MicroCells.{micro_decimals, micro_of}
use Rattle.cell_base.specs.Raster.{Place, Raster, value_at}
use Rattle.geo_transform.specs.declared.frame.Frame.{Frame}
use Rattle.asc_grid.specs.declared.grid.Asc.{Asc}
use Rattle.contour_segments.specs.Levels.{AreLevels, most_levels}
use Rattle.contour_segments.specs.Segments.{segments_of}
use Rattle.contour_segments.specs.declared.level.LevelSpec.{LevelSpec}
use Rattle.contour_segments.specs.declared.segment.Segment.{Segment}
use Rattle.contour_chain.specs.Contours.{AreContours}
use Rattle.contour_chain.specs.Points.{line_through, points_along}
use Rattle.wkt_text.specs.Spelling.{wkt}
use Rattle.wkt_text.specs.declared.geometry.Geometry.{Geometry}
use Rattle.ogr_csv.specs.Rows.{text_of_rows}
use Rattle.tool_words.specs.Words.{Text}
use Rattle.tool_words.specs.declared.job.ContourJob.{ContourJob}
use Rattle.tool_outcome.specs.Answer.{Answer}
use Rattle.tool_outcome.specs.Sieve.{IsMaskOf}
use Rattle.tool_outcome.specs.Source.{source_by}
use Rattle.tool_outcome.specs.declared.fault.Fault.{Fault}
use Rattle.tool_outcome.specs.declared.fault.Fault.TheVariants.{TooManyLevels}

-- which levels a job asks for
abbrev pub spec_of : ContourJob → LevelSpec
spec_of job = record { interval = job.interval; offset = job.offset; fixed = job.fixed }

-- the value of a valid cell
abbrev pub IsValueOf : Raster ℤ → Option ℤ → ℤ → Type 0
IsValueOf cells nodata value = (p : Place) × (value_at cells p ≡ Some value) × (nodata ≢ Some value)

-- the least and the greatest number of a kind, and none where there is no number of the kind
abbrev pub IsRangeOf : (ℤ → Type 0) → Option (ℤ × ℤ) → Type 0
IsRangeOf IsOne None = (v : ℤ) → ¬ IsOne v
IsRangeOf IsOne (Some ends) = IsOne ends.0 × IsOne ends.1 × ((v : ℤ) → IsOne v → (ends.0 ≤ℤ v) × (v ≤ℤ ends.1))

-- the levels of a grid, by the range of its valid cells
pub record AreLevelsOf (job : ContourJob) (asc : Asc ℤ) (levels : List ℤ) : Type 0 where
  pub range : Option (ℤ × ℤ)
  pub ends : IsRangeOf (IsValueOf asc.cells asc.nodata) range
  pub are : AreLevels (spec_of job) range levels

-- what is drawn of a level: those of its lines that have more than one point, each with the level
abbrev pub drawn_of : Frame → Raster ℤ → ℤ → List (List Segment) → List (ℤ × Geometry)
drawn_of frame cells level lines =
    map (λ shape. (level, shape)) (filter_map (λ line. line_through (points_along frame cells level line)) lines)

-- the text of a level, where a field is asked for
abbrev pub level_fields : Option Text → ℤ → List Text
level_fields None level = []
level_fields (Some name) level = shortest level micro_decimals ∷ []

-- the fields of a row: the line, its number, and the level
abbrev pub row_of : Option Text → ℕ → ℤ × Geometry → List Text
row_of field id drawn = wkt drawn.1 ∷ decimal id ∷ level_fields field drawn.0

-- the rows of what is drawn, numbered from `id`
abbrev pub rows_from : Option Text → ℕ → List (ℤ × Geometry) → List (List Text)
rows_from field id [] = []
rows_from field id (drawn ∷ more) = row_of field id drawn ∷ rows_from field (suc id) more

-- the fields of the first row
abbrev pub header_row : Option Text → List Text
header_row field = codes "WKT" ∷ codes "ID" ∷ option_to_list field

-- the text of the layer: a header, and a row for each line, numbered from 0
abbrev pub layer_text : Option Text → List (ℤ × Geometry) → List ℕ
layer_text field drawn = text_of_rows (header_row field ∷ rows_from field 0 drawn)

-- the contour text of a grid: for each level, in ascending order, a row for each of its contour lines, in their order
pub record IsContourText (job : ContourJob) (asc : Asc ℤ) (text : List ℕ) : Type 0 where
  pub valid : Raster Bool
  pub levels : List ℤ
  pub lines : ℤ → List (List Segment)
  pub mask : IsMaskOf asc valid
  pub asked : AreLevelsOf job asc levels
  pub few : length levels ≤ most_levels
  pub chained : (level : ℤ) → AreContours (segments_of asc.cells valid level) (lines level)
  pub is : text ≡ layer_text job.field (flat_map (λ level. drawn_of asc.frame asc.cells level (lines level)) levels)

-- so many levels are asked for, and they are too many
abbrev pub HasTooMany : ContourJob → Asc ℤ → ℕ → Type 0
HasTooMany job asc count = (levels : List ℤ) × AreLevelsOf job asc levels × (length levels ≡ count) × (most_levels < count)

-- the answer for a source: its fault where it has no grid, and else the contour text, or the number of the levels where
-- they are too many
abbrev pub AnswersContour : ContourJob → Result (Asc ℤ) Fault → Answer → Type 0
AnswersContour job (Err fault) answer = answer ≡ Err fault
AnswersContour job (Ok asc) (Err fault) = (count : ℕ) × HasTooMany job asc count × (fault ≡ TooManyLevels count)
AnswersContour job (Ok asc) (Ok text) = IsContourText job asc text

-- the answer of gdal_contour, whose cells have six decimals
abbrev pub IsContourAnswer : ContourJob → Files → Answer → Type 0
IsContourAnswer job files answer = AnswersContour job (source_by micro_of (files job.source)) answer

-- a grid has at most one contour text
abbrev pub HasOneContourText : ContourJob → Asc ℤ → Type 0
HasOneContourText job asc = (a b : List ℕ) → IsContourText job asc a → IsContourText job asc b → a ≡ b
