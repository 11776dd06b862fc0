-- How features are burned one after the other.
use Rattle.std.specs.Prelude.{◌≡◌, ℕ, ℤ, ◌<◌, ◌++◌, Bool, List, [], ◌∷◌, Option, Some, None, option_map, unwrap_or, Ok, Err, codes, decimal}
use Rattle.std.specs.declared.result.Result.{Result}
use Rattle.std.specs.List.{filter_map}
use Rattle.cell_base.specs.Clamped.{clamped}
use Rattle.cell_base.specs.Raster.{Place, Raster}
use Rattle.cell_base.specs.declared.kind.CellKind.{CellKind}
use Rattle.geo_transform.specs.declared.fault.FrameFault.{FrameFault}
use Rattle.geo_transform.specs.declared.fault.FrameFault.TheVariants.{TooLarge}
use Rattle.geo_transform.specs.declared.frame.Frame.{Frame}
use Rattle.ogr_csv.specs.declared.feature.Feature.{Feature}
use Rattle.wkt_text.specs.declared.geometry.Geometry.{Geometry}
use Rattle.burn_scanline.specs.Burned.{BurnedFeature, HoldsInside, burned, inside_value}
use Rattle.burn_scanline.specs.Runs.{Run, is_in_runs}
use Rattle.burn_scanline.specs.declared.burning.How.{How}
use Rattle.tool_words.specs.declared.job.RasterizeJob.{RasterizeJob}
use Rattle.tool_words.specs.declared.job.ValueFrom.{ValueFrom}
use Rattle.tool_outcome.specs.Answer.{Answer}
use Rattle.tool_outcome.specs.Features.{as_burned, burned_features}
use Rattle.tool_outcome.specs.Message.{frame_text}
use Rattle.tool_outcome.specs.Rasterize.{burned_value, covers_by, held, least_of, most_of, of_layer, rasterize_text}
use Rattle.tool_outcome.specs.declared.fault.Fault.{Fault}
use Rattle.tool_outcome.specs.declared.fault.Fault.TheVariants as fault
use Rattle.tool_run.specs.declared.burned_cells.Strokes.{Strokes}

-- the ends of a type of cells without decimals
pub record IsKind (least greatest : ℤ) (places : ℕ) (kind : CellKind) : Type 0 where
  pub low : least ≡ least_of kind
  pub high : greatest ≡ most_of kind
  pub whole : places ≡ 0

-- the geometry and the value of a feature, unless it is skipped
abbrev pub shape_as : (ℤ → ℤ) → Geometry × ℤ → BurnedFeature
shape_as hold shape = record { geometry = shape.0; value = hold shape.1 }

abbrev pub IsShapeOf : ValueFrom → Feature → Option (Geometry × ℤ) → Type 0
IsShapeOf value feature shape = (hold : ℤ → ℤ) → option_map (shape_as hold) shape ≡ as_burned hold value feature

-- what burning outside makes of a value, if there is one to burn
abbrev pub outside_start : ℤ → ℤ → How → ℤ → Option ℤ → ℤ
outside_start least greatest how value None = value
outside_start least greatest how value (Some burn) = burned least greatest how value burn

-- a feature as the strokes burn it: with their one value, or with its own
abbrev pub stroke_of : {T : Type 0} → (T → ℤ) → Strokes T → BurnedFeature → BurnedFeature
stroke_of units_of strokes f = record { geometry = f.geometry; value = unwrap_or (option_map units_of strokes.one) f.value }

-- these features, as the strokes burn them
abbrev pub strokes_over : {T : Type 0} → (T → ℤ) → (ℤ → ℤ) → ValueFrom → Strokes T → List Feature → List BurnedFeature
strokes_over units_of hold value strokes features =
    filter_map (λ f. option_map (stroke_of units_of strokes) (as_burned hold value f)) features

-- of a frame's cells those in the runs are the ones that a geometry covers, or with `-at` those that it touches
abbrev pub IsCover : Bool → Frame → Geometry → List Run → Type 0
IsCover touched frame g runs = (p : Place) → p.0 < frame.nrows → p.1 < frame.ncols → is_in_runs runs p ≡ covers_by touched frame g p

-- a feature more has been burned on cells that hold earlier ones
abbrev pub AddsFeature : {T : Type 0} → (T → ℤ) → ℤ → ℤ → Frame → ValueFrom → Strokes T → Feature → Raster T → Raster T → Type 0
AddsFeature units_of least greatest frame value strokes feature old new =
    (initial : ℤ) (earlier : List BurnedFeature)
    → HoldsInside units_of least greatest strokes.how (covers_by strokes.touched) frame initial earlier old
    → HoldsInside units_of least greatest strokes.how (covers_by strokes.touched) frame initial
    (earlier ++ strokes_over units_of (clamped least greatest) value strokes (feature ∷ [])) new

-- the strokes leave what the job asks for
abbrev pub AreStrokesOf : {T : Type 0} → (T → ℤ) → ℤ → ℤ → RasterizeJob → List Feature → Strokes T → Type 0
AreStrokesOf units_of least greatest job features strokes = (frame : Frame) (cell : Place)
    → inside_value least greatest strokes.how (covers_by strokes.touched) frame (units_of strokes.initial)
    (strokes_over units_of (clamped least greatest) job.value strokes features) cell
    ≡ burned_value job frame (burned_features (held job.kind) job.value features) cell

-- the text over a frame, or why there is none
abbrev pub text_over : RasterizeJob → List Feature → Result Frame Fault → Answer
text_over job features (Err fault) = Err fault
text_over job features (Ok frame) = Ok (rasterize_text job frame features)

-- the frame that features are burned over, or why there is none
abbrev pub IsOver : RasterizeJob → List Feature → Result Frame Fault → Type 0
IsOver job features frame = of_layer job (Ok features) ≡ text_over job features frame

-- a fault that the features' frame can have
abbrev pub IsFrameFault : Fault → Type 0
IsFrameFault (fault.NotPolygon number) = Unit {0}
IsFrameFault fault.NoExtent = Unit {0}
IsFrameFault (fault.Frame offence) = Unit {0}
IsFrameFault other = ⊥

-- what is wrong with a frame, in two parts: words, and the number of cells where there are too many

abbrev pub frame_words : FrameFault → List ℕ
frame_words (TooLarge cells) = codes "too large: "
frame_words fault = frame_text fault

abbrev pub frame_number : FrameFault → List ℕ
frame_number (TooLarge cells) = decimal cells
frame_number fault = []
