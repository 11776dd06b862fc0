-- Words and files have at most one outcome.
use Rattle.std.proofs.Common.{◌≡◌, ◌∙◌, List, Result, Ok, Err, sym, ap}
use Rattle.rv_outside.specs.Files.{Files}
use Rattle.cell_base.specs.MicroCells.{micro_of}
use Rattle.tool_words.specs.Words.{Text}
use Rattle.tool_words.specs.Job.{job_of}
use Rattle.tool_words.specs.declared.fault.WordFault.{WordFault}
use Rattle.tool_words.specs.declared.job.Job.{Job}
use Rattle.tool_words.specs.declared.job.Job.TheVariants.{Sieve, Polygonize, Rasterize, Contour, Check}
use Rattle.tool_outcome.specs.Answer.{Answer}
use Rattle.tool_outcome.specs.Outcome.{HasOneOutcome, IsAnswerFor, IsOutcomeOf, Outcome, end_of_job}
use Rattle.tool_outcome.specs.Source.{source_by, source_of}
use Rattle.tool_outcome.proofs.SieveLemmas.{one_answer}
use Rattle.tool_outcome.proofs.CheckLemmas as checks
use Rattle.tool_outcome.proofs.ContourLemmas as contours
use Rattle.tool_outcome.proofs.PolygonizeLemmas as polygons

one_for_job : (job : Job) (files : Files) (a b : Answer) → IsAnswerFor job files a → IsAnswerFor job files b → a ≡ b
one_for_job (Sieve job) files a b one two = one_answer job (source_of (files job.source)) a b one two
one_for_job (Polygonize job) files a b one two = polygons.one_answer job (source_of (files job.source)) a b one two
one_for_job (Rasterize job) files a b one two = one ∙ sym two
one_for_job (Contour job) files a b one two = contours.one_answer job (source_by micro_of (files job.source)) a b one two
one_for_job (Check job) files a b one two = checks.one_answer job a b one two

one_of : (job : Result Job WordFault) (files : Files) (a b : Outcome) → IsOutcomeOf job files a → IsOutcomeOf job files b → a ≡ b
one_of (Err fault) files a b one two = one ∙ sym two
one_of (Ok job) files a b one two = one.2 ∙ ap (end_of_job job files) (one_for_job job files one.0 two.0 one.1 two.1) ∙ sym two.2

pub one_outcome : (words : List Text) (files : Files) → HasOneOutcome words files
one_outcome words files a b one two = one_of (job_of words) files a b one two
