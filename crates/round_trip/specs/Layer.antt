-- A layer with one feature for each component of a grid, and the grid in one value where cells aren't valid. This project's
-- own.
use Rattle.std.specs.Prelude.{◌≡◌, ℕ, ℤ, ◌<◌, Bool, if◌then◌else◌, List, Some, length, slice_get, unwrap_or}
use Rattle.cell_base.specs.Raster.{Place, Raster, value_at}
use Rattle.cell_base.specs.Steps.{four}
use Rattle.geo_transform.specs.Frame.{IsFrame}
use Rattle.geo_transform.specs.declared.frame.Frame.{Frame}
use Rattle.region_label.specs.Labelling.{IsInRegion, IsLabelling, RegionTable}
use Rattle.ring_faces.specs.EdgePolygon.{IsEdgePolygon}
use Rattle.ring_faces.specs.LatticePolygon.{Polygon}
use Rattle.wkt_text.specs.declared.geometry.Geometry.TheVariants as geometry
use Rattle.burn_scanline.specs.Burned.{BurnedFeature}
use Rattle.burn_scanline.specs.Change.{is_marked}
use Rattle.tool_outcome.specs.Polygonize.{paths_of}
use Rattle.tool_outcome.specs.Rasterize.{raster_by}

-- the cell is one of the frame's
abbrev pub IsInFrame : Frame → Place → Type 0
IsInFrame frame cell = (cell.0 < frame.nrows) × (cell.1 < frame.ncols)

-- a grid that fills a frame, and its components under side steps
pub record IsLabelledOver (frame : Frame) (cells : Raster ℤ) (valid : Raster Bool) (regions : RegionTable) : Type 0 where
  pub is_frame : IsFrame frame
  pub ncols : cells.ncols ≡ frame.ncols
  pub nrows : cells.nrows ≡ frame.nrows
  pub labelled : IsLabelling four cells valid regions

-- one feature for each component, by number: the written rings of an edge polygon of its cells, and its value. The rings of
-- a canonical polygon are such
pub record AreFeaturesOf (frame : Frame) (cells : Raster ℤ) (regions : RegionTable) (features : List BurnedFeature) : Type 0 where
  pub count : length features ≡ length regions.firsts
  pub polygon : (k : ℕ) (f : BurnedFeature) → slice_get features k ≡ Some f
      → (polygon : Polygon) × IsEdgePolygon (IsInRegion regions k) polygon × (f.geometry ≡ geometry.Polygon (paths_of frame polygon))
  pub value : (k : ℕ) (f : BurnedFeature) (first : Place) → slice_get features k ≡ Some f
      → slice_get regions.firsts k ≡ Some first → value_at cells first ≡ Some f.value

-- a valid cell's value, and one other for all that aren't valid
abbrev pub normal_value : Raster ℤ → Raster Bool → ℤ → Place → ℤ
normal_value cells valid other cell = if is_marked valid cell then unwrap_or (value_at cells cell) other else other

-- the normalised grid
abbrev pub normalised : Raster ℤ → Raster Bool → ℤ → Raster ℤ
normalised cells valid other = raster_by cells.ncols cells.nrows (normal_value cells valid other)
