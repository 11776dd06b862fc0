-- What gdal_contour leaves.
use Rattle.std.proofs.Common.{◌≡◌, ◌≤◌, inl, inr, ℤ, Bool, List, Option, Some, None, Ok, Err, IfSome, length, refl, subst}
use Rattle.rv_outside.specs.Files.{Files, Becomes, with_file}
use Rattle.cell_base.specs.MicroCells.{micro_of}
use Rattle.cell_base.specs.Raster.{Raster}
use Rattle.asc_grid.specs.declared.grid.Asc.{Asc}
use Rattle.contour_segments.specs.Levels.{most_levels}
use Rattle.tool_words.specs.declared.job.ContourJob.{ContourJob}
use Rattle.tool_words.specs.declared.job.Job.TheVariants.{Contour}
use Rattle.tool_outcome.specs.Contour.{AnswersContour, AreLevelsOf, IsContourText}
use Rattle.tool_outcome.specs.Outcome.{CanBeDone, Does, IsAnswerFor, LeavesPart}
use Rattle.tool_outcome.specs.Sieve.{IsMaskOf}
use Rattle.tool_outcome.specs.Source.{source_by}
use Rattle.tool_outcome.specs.Status.{IsDecided, status_of_fault}
use Rattle.tool_outcome.specs.declared.fault.Fault.{Fault}
use Rattle.tool_outcome.specs.declared.fault.Fault.TheVariants as fault
use Rattle.tool_run.specs.Inner.Contours.{contour_text, contours_of}
use Rattle.tool_run.specs.Inner.Ranges.{IsLevelFault}
use Rattle.tool_run.specs.Inner.Steps.{IsPartWritten}
use Rattle.tool_run.proofs.DrawingLemmas.{are_contours}

-- the grid was read from the source, with its levels and its valid cells
pub record WasRead (job : ContourJob) (old : Option Files) (asc : Asc ℤ) (levels : List ℤ) (valid : Raster Bool) : Type 0 where
  pub read : IfSome old (λ files. Ok asc ≡ source_by micro_of (files job.source))
  pub asked : AreLevelsOf job asc levels
  pub few : length levels ≤ most_levels
  pub mask : IsMaskOf asc valid

is_text : (job : ContourJob) (old : Option Files) (asc : Asc ℤ) (levels : List ℤ) (valid : Raster Bool) → WasRead job old asc levels valid → IsContourText job asc (contour_text job asc valid levels)
is_text job old asc levels valid was = record {
  valid = valid;
  levels = levels;
  lines = contours_of asc.cells valid;
  mask = was.mask;
  asked = was.asked;
  few = was.few;
  chained = are_contours asc.cells valid;
  is = refl;
}

is_answer : (job : ContourJob) (files : Files) (asc : Asc ℤ) (levels : List ℤ) (valid : Raster Bool) → WasRead job (Some files) asc levels valid → IsAnswerFor (Contour job) files (Ok (contour_text job asc valid levels))
is_answer job files asc levels valid was = subst (λ source. AnswersContour job source (Ok (contour_text job asc valid levels))) was.read (is_text job (Some files) asc levels valid was)

pub can_be_done : (job : ContourJob) (old : Option Files) (asc : Asc ℤ) (levels : List ℤ) (valid : Raster Bool) → WasRead job old asc levels valid → IfSome old (CanBeDone (Contour job))
can_be_done job None asc levels valid was = tt
can_be_done job (Some files) asc levels valid was = (contour_text job asc valid levels, is_answer job files asc levels valid was)

pub leaves_part : (job : ContourJob) (old new : Option Files) (asc : Asc ℤ) (levels : List ℤ) (valid : Raster Bool) → WasRead job old asc levels valid → IsPartWritten old new job.dest (contour_text job asc valid levels) → IfSome old (λ files. LeavesPart (Contour job) files new)
leaves_part job None new asc levels valid was part = tt
leaves_part job (Some files) new asc levels valid was part = elim part [
  | inl same ↦ inl same
  | inr written ↦ inr (contour_text job asc valid levels, written.0, is_answer job files asc levels valid was, written.1)
]

pub done : (job : ContourJob) (old new : Option Files) (asc : Asc ℤ) (levels : List ℤ) (valid : Raster Bool) → WasRead job old asc levels valid → Becomes old new (with_file job.dest (contour_text job asc valid levels)) → IfSome old (λ files. Does (Contour job) files (Ok tt) new)
done job None new asc levels valid was written = tt
done job (Some files) new asc levels valid was written = (contour_text job asc valid levels, is_answer job files asc levels valid was, written)

refused_by : (job : ContourJob) (asc : Asc ℤ) (fault : Fault) → IsLevelFault job asc fault → IsDecided (status_of_fault fault) → AnswersContour job (Ok asc) (Err fault)
refused_by job asc (fault.TooManyLevels count) many decided = (count, many, refl)
refused_by job asc fault.NoMemory many decided = absurd decided
refused_by job asc (fault.Missing role) many decided = absurd many
refused_by job asc (fault.ReadFault role) many decided = absurd many
refused_by job asc (fault.Grid role offence) many decided = absurd many
refused_by job asc (fault.Layer offence) many decided = absurd many
refused_by job asc (fault.NotPolygon number) many decided = absurd many
refused_by job asc fault.NoExtent many decided = absurd many
refused_by job asc (fault.Frame offence) many decided = absurd many
refused_by job asc fault.WriteFault many decided = absurd many

-- the grid was read, and asks for too many levels
pub refused : (job : ContourJob) (old new : Option Files) (asc : Asc ℤ) (fault : Fault) → IfSome old (λ files. Ok asc ≡ source_by micro_of (files job.source)) → IsLevelFault job asc fault → new ≡ old → IsDecided (status_of_fault fault) → IfSome old (λ files. Does (Contour job) files (Err fault) new)
refused job None new asc fault read many same decided = tt
refused job (Some files) new asc fault read many same decided = (subst (λ source. AnswersContour job source (Err fault)) read (refused_by job asc fault many decided), same)
