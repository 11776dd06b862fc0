-- What gdal_rasterize writes. Source: its manual, by the burned grid; the extent of a layer, the order of refusals and what
-- is burned outside are this project's own.
use Rattle.std.specs.Prelude.{ℕ, ℤ, ◌&&◌, pos, int_lt, Bool, true, false, if◌then◌else◌, List, [], ◌∷◌, map, Option, Some, None, option_map, Result, Ok, Err}
use Rattle.std.specs.List.{range_with_len}
use Rattle.std.specs.Option.{option_or}
use Rattle.rv_outside.specs.Files.{Files}
use Rattle.cell_base.specs.Clamped.{clamped}
use Rattle.cell_base.specs.Raster.{Place, Raster}
use Rattle.cell_base.specs.WholeCells.{least_byte, least_int16, least_int32, least_int64, most_byte, most_int16, most_int32, most_int64}
use Rattle.cell_base.specs.declared.kind.CellKind.{CellKind}
use Rattle.cell_base.specs.declared.kind.CellKind.TheVariants.{Byte, Int16, Int32, Int64}
use Rattle.geo_transform.specs.Layout.{layout_by_cell, layout_by_size}
use Rattle.geo_transform.specs.Frame.{frame_or_fault_in}
use Rattle.geo_transform.specs.declared.extent.Extent.{Extent}
use Rattle.geo_transform.specs.declared.fault.FrameFault.{FrameFault}
use Rattle.geo_transform.specs.declared.fault.FrameFault.TheVariants.{BadCell}
use Rattle.geo_transform.specs.declared.frame.Frame.{Frame}
use Rattle.ogr_csv.specs.declared.feature.Feature.{Feature}
use Rattle.burn_scanline.specs.Burned.{BurnedFeature, Cover, inside_value, outside_value}
use Rattle.burn_scanline.specs.Centre.{is_covered}
use Rattle.all_touched.specs.Touched.{is_touched}
use Rattle.burn_scanline.specs.declared.burning.How.{How}
use Rattle.burn_scanline.specs.declared.burning.How.TheVariants.{Set, Add}
use Rattle.tool_words.specs.declared.job.RasterizeJob.{RasterizeJob}
use Rattle.tool_words.specs.declared.job.SizeFrom.{SizeFrom}
use Rattle.tool_words.specs.declared.job.SizeFrom.TheVariants.{Cells, Res}
use Rattle.tool_words.specs.declared.job.ValueFrom.{ValueFrom}
use Rattle.tool_words.specs.declared.job.ValueFrom.TheVariants.{Burn, Field}
use Rattle.tool_outcome.specs.Answer.{Answer}
use Rattle.tool_outcome.specs.Features.{burned_features, field_of, first_other, layer_in}
use Rattle.tool_outcome.specs.LayerExtent.{layer_extent}
use Rattle.tool_outcome.specs.Source.{text_of}
use Rattle.tool_outcome.specs.declared.fault.Fault.{Fault}
use Rattle.tool_outcome.specs.declared.fault.Fault.TheVariants.{Frame as FrameOf, NoExtent, NotPolygon}

-- the ends of a type of cells

abbrev pub least_of : CellKind → ℤ
least_of Byte = least_byte
least_of Int16 = least_int16
least_of Int32 = least_int32
least_of Int64 = least_int64

abbrev pub most_of : CellKind → ℤ
most_of Byte = most_byte
most_of Int16 = most_int16
most_of Int32 = most_int32
most_of Int64 = most_int64

-- a value held at the ends of a type
abbrev pub held : CellKind → ℤ → ℤ
held kind value = clamped (least_of kind) (most_of kind) value

-- the grid of this size with these values
abbrev pub raster_by : {T : Type 0} → ℕ → ℕ → (Place → T) → Raster T
raster_by ncols nrows at = record {
  ncols = ncols;
  nrows = nrows;
  rows = map (λ row. map (λ col. at (row, col)) (range_with_len 0 ncols)) (range_with_len 0 nrows);
}

-- whether a value is set or added
abbrev pub how_of : Bool → How
how_of add = if add then Add else Set

-- the value of the first feature that is burned, if there is one
abbrev pub first_value : List BurnedFeature → Option ℤ
first_value [] = None
first_value (f ∷ fs) = Some f.value

-- the value that is burned outside: the one value, or the first attribute
abbrev pub outside_of : (ℤ → ℤ) → ValueFrom → List BurnedFeature → Option ℤ
outside_of hold (Burn value) features = Some (hold value)
outside_of hold (Field name) features = first_value features

-- which cells a geometry covers: by the centre rule, or with `-at` those that it touches
abbrev pub covers_by : Bool → Cover
covers_by false frame g cell = is_covered frame g cell
covers_by true frame g cell = is_touched frame g cell

-- a cell after these features were burned on the initial value, or with `-i` after one value was burned outside them
abbrev pub burned_value : RasterizeJob → Frame → List BurnedFeature → Place → ℤ
burned_value job frame features cell =
    let least = least_of job.kind in
    let most = most_of job.kind in
    let how = how_of job.add in
    let initial = held job.kind job.init in
    if job.invert
    then outside_value least most how (covers_by job.touched) frame initial (outside_of (held job.kind) job.value features) features cell
    else inside_value least most how (covers_by job.touched) frame initial features cell

-- the cells that a job burns over a frame
abbrev pub burned_cells : RasterizeJob → Frame → List Feature → Raster ℤ
burned_cells job frame features =
    let burned = burned_features (held job.kind) job.value features in
    raster_by frame.ncols frame.nrows (burned_value job frame burned)

-- the rasterize text: the canonical text of the burned cells, with a nodata value exactly where one is asked for
abbrev pub rasterize_text : RasterizeJob → Frame → List Feature → List ℕ
rasterize_text job frame features = text_of (record {
  frame = frame;
  nodata = option_map (held job.kind) job.nodata;
  cells = burned_cells job frame features;
})

-- the frame of an extent: cut into so many columns and rows, or into cells of a size, which is above zero
abbrev pub frame_in : SizeFrom → Extent → Result Frame FrameFault
frame_in (Cells ncols nrows) extent = frame_or_fault_in extent (layout_by_size extent ncols nrows)
frame_in (Res x y) extent =
    if int_lt (pos 0) x && int_lt (pos 0) y then frame_or_fault_in extent (layout_by_cell extent x y) else Err BadCell

-- the text over the frame, or its fault
abbrev pub over_frame : RasterizeJob → List Feature → Result Frame FrameFault → Answer
over_frame job features (Err fault) = Err (FrameOf fault)
over_frame job features (Ok frame) = Ok (rasterize_text job frame features)

-- the frame is cut from an extent
abbrev pub over_extent : RasterizeJob → List Feature → Option Extent → Answer
over_extent job features None = Err NoExtent
over_extent job features (Some extent) = over_frame job features (frame_in job.size extent)

-- all records are polygons, unless one isn't; then the extent is the one that is asked for, or else the layer's
abbrev pub of_polygons : RasterizeJob → List Feature → Option ℕ → Answer
of_polygons job features (Some number) = Err (NotPolygon number)
of_polygons job features None = over_extent job features (option_or job.extent (layer_extent features))

abbrev pub of_layer : RasterizeJob → Result (List Feature) Fault → Answer
of_layer job (Err fault) = Err fault
of_layer job (Ok features) = of_polygons job features (first_other features)

-- the answer of gdal_rasterize: the source's refusal, then a record that isn't a polygon, then no extent, then the frame's
-- fault, and else the text
abbrev pub rasterize_answer : RasterizeJob → Files → Answer
rasterize_answer job files = of_layer job (layer_in (field_of job.value) (files job.source))
