-- What gdal_polygonize leaves.
use Rattle.std.proofs.Common.{◌≡◌, ◌∙◌, ◌++◌, inl, inr, ℕ, ℤ, true, List, Option, Some, None, Result, Ok, Err, OnErr, IfSome, map, ap, subst}
use Rattle.std.specs.List.{flat_map, zip}
use Rattle.rv_outside.specs.Files.{Files, Becomes, with_file}
use Rattle.asc_grid.specs.declared.grid.Asc.{Asc}
use Rattle.geo_transform.specs.declared.frame.Frame.{Frame}
use Rattle.ogr_csv.specs.Rows.{line_of}
use Rattle.tool_words.specs.declared.job.PolygonizeJob.{PolygonizeJob}
use Rattle.tool_words.specs.declared.job.Job.TheVariants.{Polygonize}
use Rattle.tool_outcome.specs.Answer.{AnswersBy}
use Rattle.tool_outcome.specs.Outcome.{CanBeDone, Does, IsAnswerFor, LeavesPart}
use Rattle.tool_outcome.specs.Polygonize.{IsPolygonizeText, header_row, row_of, value_of}
use Rattle.tool_outcome.specs.Source.{source_of}
use Rattle.tool_run.specs.Inner.Layer.{layer_left}
use Rattle.tool_run.specs.Inner.Rows.{AreTraced, shapes_of}
use Rattle.ring_faces.specs.LatticePolygon.{Polygon}
use Rattle.tool_run.specs.Inner.Steps.{IsPartWritten}
use Rattle.tool_run.specs.declared.polygons.Layer.{Layer}

-- the grid was read from the source, and its components were traced
pub record WasTraced (job : PolygonizeJob) (old : Option Files) (asc : Asc ℤ) (layer : Layer) : Type 0 where
  pub read : IfSome old (λ files. Ok asc ≡ source_of (files job.source))
  pub frame : layer.frame ≡ asc.frame
  pub traced : AreTraced job.eight asc layer.values.items layer.parts layer.faces

is_text : (job : PolygonizeJob) (old : Option Files) (asc : Asc ℤ) (layer : Layer) → WasTraced job old asc layer → IsPolygonizeText job asc (layer_left job.field layer true 0)
is_text job old asc layer was =
    let text : Frame → List ℤ → List (List Polygon) → List ℕ = λ frame values shapes. line_of (header_row job.field) ++ flat_map line_of (map (row_of frame) (zip values shapes)) in
    let traced = was.traced in
    record {
      valid = traced.valid;
      sides = traced.sides;
      regions = traced.regions;
      polygons = layer.faces;
      mask = traced.mask;
      by_sides = traced.by_sides;
      labelled = traced.labelled;
      drawn = traced.drawn;
      is = ap (λ frame. text frame layer.values.items (shapes_of layer.parts layer.faces)) was.frame
          ∙ ap (λ values. text asc.frame values (shapes_of layer.parts layer.faces)) traced.values_are
          ∙ ap (text asc.frame (map (value_of asc.cells) traced.regions.firsts)) traced.shapes_are;
    }

is_answer : (job : PolygonizeJob) (files : Files) (asc : Asc ℤ) (layer : Layer) → WasTraced job (Some files) asc layer → IsAnswerFor (Polygonize job) files (Ok (layer_left job.field layer true 0))
is_answer job files asc layer was = subst (λ source. AnswersBy (IsPolygonizeText job) source (Ok (layer_left job.field layer true 0))) was.read (is_text job (Some files) asc layer was)

-- a fact holds after an error
pub after_error : {T E P : Type 0} (r : Result T E) → P → OnErr r P
after_error (Ok value) fact = tt
after_error (Err error) fact = fact

pub can_be_done : (job : PolygonizeJob) (old : Option Files) (asc : Asc ℤ) (layer : Layer) → WasTraced job old asc layer → IfSome old (CanBeDone (Polygonize job))
can_be_done job None asc layer was = tt
can_be_done job (Some files) asc layer was = (layer_left job.field layer true 0, is_answer job files asc layer was)

pub leaves_part : (job : PolygonizeJob) (old new : Option Files) (asc : Asc ℤ) (layer : Layer) → WasTraced job old asc layer → IsPartWritten old new job.dest (layer_left job.field layer true 0) → IfSome old (λ files. LeavesPart (Polygonize job) files new)
leaves_part job None new asc layer was part = tt
leaves_part job (Some files) new asc layer was part = elim part [
  | inl same ↦ inl same
  | inr written ↦ inr (layer_left job.field layer true 0, written.0, is_answer job files asc layer was, written.1)
]

pub done : (job : PolygonizeJob) (old new : Option Files) (asc : Asc ℤ) (layer : Layer) → WasTraced job old asc layer → Becomes old new (with_file job.dest (layer_left job.field layer true 0)) → IfSome old (λ files. Does (Polygonize job) files (Ok tt) new)
done job None new asc layer was written = tt
done job (Some files) new asc layer was written = (layer_left job.field layer true 0, is_answer job files asc layer was, written)
