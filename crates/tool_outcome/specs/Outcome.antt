-- What a run is to do. Source: this project's own.
use Rattle.std.specs.Prelude.{◌≡◌, ◌⊎◌, ℕ, Bool, true, false, not, List, [], Option, Some, Ok, Err, take}
use Rattle.std.specs.declared.result.Result.{Result}
use Rattle.rv_outside.specs.Files.{Files, with_file}
use Rattle.tool_words.specs.Words.{Text}
use Rattle.tool_words.specs.Job.{job_of}
use Rattle.tool_words.specs.declared.fault.WordFault.{WordFault}
use Rattle.tool_words.specs.declared.job.Job.{Job}
use Rattle.tool_words.specs.declared.job.Job.TheVariants.{Sieve, Polygonize, Rasterize, Contour, Check}
use Rattle.tool_outcome.specs.Answer.{Answer}
use Rattle.tool_outcome.specs.Check.{IsCheckAnswer}
use Rattle.tool_outcome.specs.Contour.{IsContourAnswer}
use Rattle.tool_outcome.specs.Message.{dest_of_job, line_of_job, line_of_words}
use Rattle.tool_outcome.specs.Polygonize.{IsPolygonizeAnswer}
use Rattle.tool_outcome.specs.Rasterize.{rasterize_answer}
use Rattle.tool_outcome.specs.Sieve.{IsSieveAnswer}
use Rattle.tool_outcome.specs.Status.{status_of_fault, status_of_words}
use Rattle.tool_outcome.specs.declared.fault.Fault.{Fault}
use Rattle.tool_outcome.specs.declared.status.Status.{Status}
use Rattle.tool_outcome.specs.declared.status.Status.TheVariants.{Done}

-- how a run ends: its status, the line on standard error, the files afterwards, and what went to standard output
pub record Outcome : Type 0 where
  pub status : Status
  pub line : List ℕ
  pub files : Files
  pub out : List ℕ

-- the answer for a job
abbrev pub IsAnswerFor : Job → Files → Answer → Type 0
IsAnswerFor (Sieve job) files answer = IsSieveAnswer job files answer
IsAnswerFor (Polygonize job) files answer = IsPolygonizeAnswer job files answer
IsAnswerFor (Rasterize job) files answer = answer ≡ rasterize_answer job files
IsAnswerFor (Contour job) files answer = IsContourAnswer job files answer
IsAnswerFor (Check job) files answer = IsCheckAnswer job answer

-- the end of a run whose words are refused: all files stay
abbrev pub end_of_words : WordFault → Files → Outcome
end_of_words fault files = record { status = status_of_words fault; line = line_of_words fault; files = files; out = [] }

-- where a job's text goes: to the destination, and that of check to standard output, with all files as before

abbrev pub files_with : Job → List ℕ → Files → Files
files_with (Check job) text files = files
files_with job text files = with_file (dest_of_job job) text files

abbrev pub printed_of : Job → List ℕ → List ℕ
printed_of (Check job) text = text
printed_of job text = []

-- the end of a run with this answer: the text is where it goes, or all files stay
abbrev pub end_of_job : Job → Files → Answer → Outcome
end_of_job job files (Ok text) = record { status = Done; line = []; files = files_with job text files; out = printed_of job text }
end_of_job job files (Err fault) = record { status = status_of_fault fault; line = line_of_job job fault; files = files; out = [] }

-- an outcome of what the words ask for
abbrev pub IsOutcomeOf : Result Job WordFault → Files → Outcome → Type 0
IsOutcomeOf (Err fault) files outcome = outcome ≡ end_of_words fault files
IsOutcomeOf (Ok job) files outcome = (answer : Answer) × IsAnswerFor job files answer × (outcome ≡ end_of_job job files answer)

-- the outcome of the program for these words and files
abbrev pub IsOutcome : List Text → Files → Outcome → Type 0
IsOutcome words files outcome = IsOutcomeOf (job_of words) files outcome

-- words and files have at most one outcome
abbrev pub HasOneOutcome : List Text → Files → Type 0
HasOneOutcome words files = (a b : Outcome) → IsOutcome words files a → IsOutcome words files b → a ≡ b

-- the run came to an outcome of these words and files
abbrev pub Meets : List Text → Files → Status → List ℕ → List ℕ → Option Files → Type 0
Meets words files status line out now = (after : Files) × (now ≡ Some after)
    × IsOutcome words files (record { status = status; line = line; files = after; out = out })

-- a tool that has a destination came to an outcome of its job
abbrev pub Does : Job → Files → Result (Unit {0}) Fault → Option Files → Type 0
Does job files (Ok u) now = (text : List ℕ) × IsAnswerFor job files (Ok text)
    × (now ≡ Some (files_with job text files))
Does job files (Err fault) now = IsAnswerFor job files (Err fault) × (now ≡ Some files)

-- the same, and what it printed
abbrev pub DoesPrinting : Job → Files → Result (Unit {0}) Fault → List ℕ → Option Files → Type 0
DoesPrinting job files (Ok u) printed now = (text : List ℕ) × IsAnswerFor job files (Ok text)
    × (printed ≡ printed_of job text) × (now ≡ Some (files_with job text files))
DoesPrinting job files (Err fault) printed now = IsAnswerFor job files (Err fault) × (printed ≡ []) × (now ≡ Some files)

-- the job can be done
abbrev pub CanBeDone : Job → Files → Type 0
CanBeDone job files = (text : List ℕ) × IsAnswerFor job files (Ok text)

-- the files are as before, or the job can be done and a first part of its text is where it goes
abbrev pub LeavesPart : Job → Files → Option Files → Type 0
LeavesPart job files now = (now ≡ Some files) ⊎ ((text : List ℕ) × (n : ℕ) × IsAnswerFor job files (Ok text)
    × (now ≡ Some (files_with job (take n text) files)))

-- the same two of the words: words without a job leave the files as before

abbrev pub WordsCanBeDone : Result Job WordFault → Files → Type 0
WordsCanBeDone (Err fault) files = ⊥
WordsCanBeDone (Ok job) files = CanBeDone job files

abbrev pub WordsLeavePart : Result Job WordFault → Files → Option Files → Type 0
WordsLeavePart (Err fault) files now = now ≡ Some files
WordsLeavePart (Ok job) files now = LeavesPart job files now
