-- What gdal_sieve leaves.
use Rattle.std.proofs.Common.{◌≡◌, ◌∙◌, inl, inr, ℤ, Option, Some, None, Ok, IfSome, ap, subst}
use Rattle.std.specs.Prelude.{nat_le}
use Rattle.rv_outside.specs.Files.{Files, Becomes, with_file}
use Rattle.asc_grid.specs.declared.grid.Asc.{Asc}
use Rattle.tool_words.specs.declared.job.SieveJob.{SieveJob}
use Rattle.tool_words.specs.declared.job.Job.TheVariants.{Sieve}
use Rattle.tool_outcome.specs.Answer.{AnswersBy}
use Rattle.tool_outcome.specs.Outcome.{CanBeDone, Does, IsAnswerFor, LeavesPart}
use Rattle.tool_outcome.specs.Sieve.{AreSieved, IsSievedText}
use Rattle.tool_outcome.specs.Source.{source_of, text_of}
use Rattle.tool_run.specs.Inner.Steps.{IsPartWritten, KeepsRest}

-- the grid was read from the source, and its cells were sieved
pub record WasSieved (job : SieveJob) (old : Option Files) (asc sieved : Asc ℤ) : Type 0 where
  pub read : IfSome old (λ files. Ok asc ≡ source_of (files job.source))
  pub cells : AreSieved (nat_le job.st 1) job asc sieved.cells
  pub rest : KeepsRest asc sieved

text_is : (asc sieved : Asc ℤ) → KeepsRest asc sieved → text_of sieved ≡ text_of (record asc { cells = sieved.cells })
text_is asc sieved rest =
    ap (λ frame. text_of (record sieved { frame = frame })) rest.frame
    ∙ ap (λ nodata. text_of (record sieved { frame = asc.frame; nodata = nodata })) rest.nodata

is_answer : (job : SieveJob) (files : Files) (asc sieved : Asc ℤ) → WasSieved job (Some files) asc sieved → IsAnswerFor (Sieve job) files (Ok (text_of sieved))
is_answer job files asc sieved was = subst (λ source. AnswersBy (IsSievedText job) source (Ok (text_of sieved))) was.read (sieved.cells, was.cells, text_is asc sieved was.rest)

pub can_be_done : (job : SieveJob) (old : Option Files) (asc sieved : Asc ℤ) → WasSieved job old asc sieved → IfSome old (CanBeDone (Sieve job))
can_be_done job None asc sieved was = tt
can_be_done job (Some files) asc sieved was = (text_of sieved, is_answer job files asc sieved was)

pub leaves_part : (job : SieveJob) (old new : Option Files) (asc sieved : Asc ℤ) → WasSieved job old asc sieved → IsPartWritten old new job.dest (text_of sieved) → IfSome old (λ files. LeavesPart (Sieve job) files new)
leaves_part job None new asc sieved was part = tt
leaves_part job (Some files) new asc sieved was part = elim part [
  | inl same ↦ inl same
  | inr written ↦ inr (text_of sieved, written.0, is_answer job files asc sieved was, written.1)
]

pub done : (job : SieveJob) (old new : Option Files) (asc sieved : Asc ℤ) → WasSieved job old asc sieved → Becomes old new (with_file job.dest (text_of sieved)) → IfSome old (λ files. Does (Sieve job) files (Ok tt) new)
done job None new asc sieved was written = tt
done job (Some files) new asc sieved was written = (text_of sieved, is_answer job files asc sieved was, written)
