-- The words that burn a polygonized layer back onto the frame of its grid. This project's own.
use Rattle.std.specs.Prelude.{ℕ, ℤ, ◌++◌, List, [], ◌∷◌, codes, decimal, Option, Some, None, pos, unwrap_or, false}
use Rattle.fixed_coord.specs.Coordinate.{coord_places}
use Rattle.fixed_coord.specs.Shortest.{shortest}
use Rattle.cell_base.specs.declared.kind.CellKind.TheVariants.{Int64}
use Rattle.geo_transform.specs.Corner.{corner_of}
use Rattle.geo_transform.specs.declared.extent.Extent.{Extent}
use Rattle.geo_transform.specs.declared.frame.Frame.{Frame}
use Rattle.asc_grid.specs.declared.grid.Asc.{Asc}
use Rattle.tool_words.specs.Words.{Text}
use Rattle.tool_words.specs.declared.job.RasterizeJob.{RasterizeJob}
use Rattle.tool_words.specs.declared.job.SizeFrom.TheVariants.{Cells}
use Rattle.tool_words.specs.declared.job.ValueFrom.TheVariants.{Field}

-- the extent of a frame: from its lower left corner to its upper right one
abbrev pub extent_of : Frame → Extent
extent_of frame =
    let low = corner_of frame frame.nrows 0 in
    let high = corner_of frame 0 frame.ncols in
    record { xmin = low.0; ymin = low.1; xmax = high.0; ymax = high.1 }

-- what the cells that aren't valid hold: the nodata value, or 0 where there is none
abbrev pub outside_of : Option ℤ → ℤ
outside_of nodata = unwrap_or nodata (pos 0)

-- a coordinate and a whole number as words

abbrev pub coordinate_word : ℤ → Text
coordinate_word units = shortest units coord_places

abbrev pub whole_word : ℤ → Text
whole_word n = shortest n 0

-- the nodata value is named where there is one
abbrev pub nodata_words : Option ℤ → List Text
nodata_words None = []
nodata_words (Some n) = codes "-a_nodata" ∷ whole_word n ∷ []

-- the words: the field, the grid's extent and size, and what the cells are at first and where there is no data
abbrev pub back_words : Text → Asc ℤ → Text → Text → List Text
back_words field asc layer dest =
    let extent = extent_of asc.frame in
    codes "gdal_rasterize"
    ∷ codes "-a" ∷ field
    ∷ codes "-te" ∷ coordinate_word extent.xmin ∷ coordinate_word extent.ymin ∷ coordinate_word extent.xmax ∷ coordinate_word extent.ymax
    ∷ codes "-ts" ∷ decimal asc.frame.ncols ∷ decimal asc.frame.nrows
    ∷ codes "-init" ∷ whole_word (outside_of asc.nodata)
    ∷ (nodata_words asc.nodata ++ layer ∷ dest ∷ [])

-- their job
abbrev pub back_job : Text → Asc ℤ → Text → Text → RasterizeJob
back_job field asc layer dest = record {
  source = layer;
  dest = dest;
  value = Field field;
  invert = false;
  touched = false;
  add = false;
  init = outside_of asc.nodata;
  nodata = asc.nodata;
  extent = Some (extent_of asc.frame);
  size = Cells asc.frame.ncols asc.frame.nrows;
  kind = Int64;
}
