-- The frame that features are burned over, and what gdal_rasterize leaves.
use Rattle.std.proofs.Common.{◌≡◌, ◌∙◌, ◌+◌, ◌<◌, ◌≤◌, inl, inr, ℕ, Bool, true, false, List, Option, Some, None, Result, Ok, Err, IfSome, length, get_or, refl, sym, ap, arith}
use Rattle.std.specs.Prelude.{nat_lt, slice_get}
use Rattle.std.specs.List.{position_or_len}
use Rattle.std.specs.Option.{option_or}
use Rattle.std.proofs.lemmas.Bool.{cases_lt}
use Rattle.std.proofs.lemmas.Bool.Decides.{nat_tests}
use Rattle.std.proofs.lemmas.List.Sums.{position_or_len_is}
use Rattle.std.proofs.lemmas.Option.{get_or_from_slice_get, same_Some}
use Rattle.rv_outside.specs.Files.{Files, Becomes, with_file}
use Rattle.geo_transform.specs.declared.extent.Extent.{Extent}
use Rattle.geo_transform.specs.declared.fault.FrameFault.{FrameFault}
use Rattle.geo_transform.specs.declared.frame.Frame.{Frame}
use Rattle.ogr_csv.specs.declared.feature.Feature.{Feature}
use Rattle.tool_words.specs.declared.job.RasterizeJob.{RasterizeJob}
use Rattle.tool_words.specs.declared.job.Job.TheVariants.{Rasterize}
use Rattle.tool_outcome.specs.Answer.{Answer}
use Rattle.tool_outcome.specs.Features.{field_of, first_other, has_points_or_lines, layer_in}
use Rattle.tool_outcome.specs.LayerExtent.{layer_extent}
use Rattle.tool_outcome.specs.Outcome.{CanBeDone, Does, IsAnswerFor, LeavesPart}
use Rattle.tool_outcome.specs.Rasterize.{frame_in, of_layer, over_frame, rasterize_text}
use Rattle.tool_outcome.specs.declared.fault.Fault.{Fault}
use Rattle.tool_outcome.specs.declared.fault.Fault.TheVariants.{NoExtent, NotPolygon}
use Rattle.tool_run.specs.Inner.Steps.{IsPartWritten}
use Rattle.tool_run.specs.Inner.Strokes.{IsOver}
use Rattle.tool_run.proofs.LayerLemmas.{some_at}

-- the first record of points or lines

abbrev pub is_other : Feature → Bool
is_other f = has_points_or_lines f.geometry

abbrev none : Feature
none = record { geometry = None; value = None }

by_position : (features : List Feature) (i : ℕ) → i ≤ length features → ((k : ℕ) (f : Feature) → k < i → slice_get features k ≡ Some f → is_other f ≡ false) → (i < length features → is_other (get_or features i none) ≡ true) → position_or_len is_other features ≡ i
by_position features i within before is =
    position_or_len_is is_other features i none within (λ k h. before k (get_or features k none) h (some_at features k none (omega (arith, h, within)))) is

pub other_found : (features : List Feature) (i : ℕ) (f : Feature) → slice_get features i ≡ Some f → i < length features → ((k : ℕ) (g : Feature) → k < i → slice_get features k ≡ Some g → is_other g ≡ false) → is_other f ≡ true → first_other features ≡ Some (i + 1)
other_found features i f at within before is =
    let same : get_or features i none ≡ f = get_or_from_slice_get features i f none at in
    let first = by_position features i (omega (arith, within)) before (λ _. ap is_other same ∙ is) in
    let less : nat_lt i (length features) ≡ true = grind (arith, nat_tests, within) in
    rw (first, less) refl

-- one feature more that isn't
pub other_not_yet : (features : List Feature) (i : ℕ) (f : Feature) → slice_get features i ≡ Some f → ((k : ℕ) (g : Feature) → k < i → slice_get features k ≡ Some g → is_other g ≡ false) → is_other f ≡ false → (k : ℕ) (g : Feature) → k < i + 1 → slice_get features k ≡ Some g → is_other g ≡ false
other_not_yet features i f at before not k g less is = elim (cases_lt k i) [
  | inl earlier ↦ before k g earlier is
  | inr past ↦
      let same : k ≡ i = omega (arith, less, past) in
      ap is_other (same_Some g f (sym is ∙ ap (λ (n : ℕ). slice_get features n) same ∙ at)) ∙ not
]

pub no_other : (features : List Feature) → ((k : ℕ) (f : Feature) → k < length features → slice_get features k ≡ Some f → is_other f ≡ false) → first_other features ≡ None
no_other features before =
    let all = by_position features (length features) (omega arith) before (λ h. absurd (omega (arith, h))) in
    let past : nat_lt (length features) (length features) ≡ false = grind (arith, nat_tests) in
    rw (all, past) refl

-- the frame

pub over_other : (job : RasterizeJob) (features : List Feature) (number : ℕ) → first_other features ≡ Some number → IsOver job features (Err (NotPolygon number))
over_other job features number is = rw is refl

pub over_none : (job : RasterizeJob) (features : List Feature) → first_other features ≡ None → option_or job.extent (layer_extent features) ≡ None → IsOver job features (Err NoExtent)
over_none job features polygons is = rw (polygons, is) refl

pub over_some : (job : RasterizeJob) (features : List Feature) (extent : Extent) (frame : Result Frame FrameFault) → first_other features ≡ None → option_or job.extent (layer_extent features) ≡ Some extent → frame ≡ frame_in job.size extent → of_layer job (Ok features) ≡ over_frame job features frame
over_some job features extent frame polygons is cut = rw (polygons, is, cut) refl

-- the features were read of the source, and there is a frame to burn them over
pub record WasBurned (job : RasterizeJob) (old : Option Files) (features : List Feature) (frame : Frame) : Type 0 where
  pub read : IfSome old (λ files. layer_in (field_of job.value) (files job.source) ≡ Ok features)
  pub over : IsOver job features (Ok frame)

answered : (job : RasterizeJob) (files : Files) (layer : Result (List Feature) Fault) (answer : Answer) → layer_in (field_of job.value) (files job.source) ≡ layer → answer ≡ of_layer job layer → IsAnswerFor (Rasterize job) files answer
answered job files layer answer read is = rw read is

is_answer : (job : RasterizeJob) (files : Files) (features : List Feature) (frame : Frame) → WasBurned job (Some files) features frame → IsAnswerFor (Rasterize job) files (Ok (rasterize_text job frame features))
is_answer job files features frame was = answered job files (Ok features) (Ok (rasterize_text job frame features)) was.read (sym was.over)

pub can_be_done : (job : RasterizeJob) (old : Option Files) (features : List Feature) (frame : Frame) → WasBurned job old features frame → IfSome old (CanBeDone (Rasterize job))
can_be_done job None features frame was = tt
can_be_done job (Some files) features frame was = (rasterize_text job frame features, is_answer job files features frame was)

pub leaves_part : (job : RasterizeJob) (old new : Option Files) (features : List Feature) (frame : Frame) → WasBurned job old features frame → IsPartWritten old new job.dest (rasterize_text job frame features) → IfSome old (λ files. LeavesPart (Rasterize job) files new)
leaves_part job None new features frame was part = tt
leaves_part job (Some files) new features frame was part = elim part [
  | inl same ↦ inl same
  | inr written ↦ inr (rasterize_text job frame features, written.0, is_answer job files features frame was, written.1)
]

pub done : (job : RasterizeJob) (old new : Option Files) (features : List Feature) (frame : Frame) → WasBurned job old features frame → Becomes old new (with_file job.dest (rasterize_text job frame features)) → IfSome old (λ files. Does (Rasterize job) files (Ok tt) new)
done job None new features frame was written = tt
done job (Some files) new features frame was written = (rasterize_text job frame features, is_answer job files features frame was, written)

-- the source is refused
pub source_refused : (job : RasterizeJob) (old new : Option Files) (fault : Fault) → IfSome old (λ files. layer_in (field_of job.value) (files job.source) ≡ Err fault) → new ≡ old → IfSome old (λ files. Does (Rasterize job) files (Err fault) new)
source_refused job None new fault is same = tt
source_refused job (Some files) new fault is same = (answered job files (Err fault) (Err fault) is refl, same)

-- there is no frame
pub frame_refused : (job : RasterizeJob) (old new : Option Files) (features : List Feature) (fault : Fault) → IfSome old (λ files. layer_in (field_of job.value) (files job.source) ≡ Ok features) → IsOver job features (Err fault) → new ≡ old → IfSome old (λ files. Does (Rasterize job) files (Err fault) new)
frame_refused job None new features fault read over same = tt
frame_refused job (Some files) new features fault read over same = (answered job files (Ok features) (Err fault) read (sym over), same)

-- the files are as they were
pub stays : (job : RasterizeJob) (old new : Option Files) → new ≡ old → IfSome old (λ files. LeavesPart (Rasterize job) files new)
stays job None new same = tt
stays job (Some files) new same = inl same
