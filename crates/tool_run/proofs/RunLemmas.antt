-- What a run tells of the answer of its tool.
use Rattle.std.proofs.Common.{◌≡◌, ◌≢◌, ◌∙◌, ap, ℕ, List, [], Option, Some, None, Result, Ok, Err, IfSome, OnErr, refl, sym, subst}
use Rattle.rv_outside.specs.Files.{Files}
use Rattle.rv_outside.specs.Sink.{SinkState}
use Rattle.asc_grid.specs.declared.fault.GridKind.{GridKind}
use Rattle.asc_grid.specs.declared.fault.GridKind.TheVariants.{UnknownKeyword, RepeatedKeyword, MissingKeyword, BadNumber, OutOfRange, TooLarge, BadCell, TooFewCells, TooManyCells}
use Rattle.asc_grid.specs.declared.fault.GridFault.TheVariants as grid
use Rattle.geo_transform.specs.declared.fault.FrameFault.{FrameFault}
use Rattle.geo_transform.specs.declared.fault.FrameFault.TheVariants as frame
use Rattle.ogr_csv.specs.declared.fault.LayerFault.{LayerFault}
use Rattle.ogr_csv.specs.declared.fault.LayerFault.TheVariants as layer
use Rattle.tool_words.specs.Words.{Text}
use Rattle.tool_words.specs.Job.{IsAnswer, job_of}
use Rattle.tool_words.specs.declared.fault.WordFault.{WordFault}
use Rattle.tool_words.specs.declared.fault.WordFault.TheVariants as word
use Rattle.tool_words.specs.declared.job.Job.{Job}
use Rattle.tool_outcome.specs.Message.{IsLine, dest_of_job, line_of_answer, line_of_job, line_of_words, source_of_job}
use Rattle.tool_outcome.specs.Outcome.{DoesPrinting, LeavesPart, Meets, IsOutcomeOf, Outcome, WordsLeavePart, end_of_job, end_of_words, files_with}
use Rattle.tool_outcome.specs.Status.{IsDecided, status_of, status_of_fault, status_of_words}
use Rattle.tool_outcome.specs.declared.fault.Fault.{Fault}
use Rattle.tool_outcome.specs.declared.fault.Fault.TheVariants as fault
use Rattle.tool_outcome.specs.declared.fault.Role.{Role}
use Rattle.tool_outcome.specs.declared.status.Status.{Status}
use Rattle.tool_outcome.specs.declared.status.Status.TheVariants.{Done}
use Rattle.round_trip.specs.RoundTrip.{MakesRoundTrip}
use Rattle.round_trip.proofs.LawLemmas.{makes_round_trip}
use Rattle.tool_run.specs.Line.{SaysLine}
use Rattle.tool_run.specs.Printed.{IsPrinted, Prints}
use Rattle.tool_run.proofs.JobLemmas.{nothing_printed, prints_nothing}

-- an end of a run
abbrev end_with : Status → List ℕ → Files → List ℕ → Outcome
end_with status line files printed = record { status = status; line = line; files = files; out = printed }

-- the answer of a job, as its line
abbrev pub line_by : Job → Result (Unit {0}) Fault → List ℕ
line_by job answer = line_of_answer (source_of_job job) (dest_of_job job) answer

grid_line : (job : Job) (role : Role) (line : ℕ) (kind : GridKind) → IsLine (Ok job) (status_of {A = Unit {0}} (Err (fault.Grid role (grid.At kind line)))) (line_of_job job (fault.Grid role (grid.At kind line)))
grid_line job role line UnknownKeyword = (fault.Grid role (grid.At UnknownKeyword line), refl, refl)
grid_line job role line RepeatedKeyword = (fault.Grid role (grid.At RepeatedKeyword line), refl, refl)
grid_line job role line MissingKeyword = (fault.Grid role (grid.At MissingKeyword line), refl, refl)
grid_line job role line BadNumber = (fault.Grid role (grid.At BadNumber line), refl, refl)
grid_line job role line OutOfRange = (fault.Grid role (grid.At OutOfRange line), refl, refl)
grid_line job role line (TooLarge cells) = (fault.Grid role (grid.At (TooLarge cells) line), refl, refl)
grid_line job role line BadCell = (fault.Grid role (grid.At BadCell line), refl, refl)
grid_line job role line TooFewCells = (fault.Grid role (grid.At TooFewCells line), refl, refl)
grid_line job role line TooManyCells = (fault.Grid role (grid.At TooManyCells line), refl, refl)

layer_line : (job : Job) (offence : LayerFault) → IsLine (Ok job) (status_of {A = Unit {0}} (Err (fault.Layer offence))) (line_of_job job (fault.Layer offence))
layer_line job layer.NoHeader = (fault.Layer layer.NoHeader, refl, refl)
layer_line job layer.NoGeometryColumn = (fault.Layer layer.NoGeometryColumn, refl, refl)
layer_line job layer.NoField = (fault.Layer layer.NoField, refl, refl)
layer_line job (layer.BadGeometry at kind byte) = (fault.Layer (layer.BadGeometry at kind byte), refl, refl)
layer_line job (layer.BadAttribute at) = (fault.Layer (layer.BadAttribute at), refl, refl)
layer_line job layer.NoMemory = (fault.Layer layer.NoMemory, refl, refl)

frame_line : (job : Job) (offence : FrameFault) → IsLine (Ok job) (status_of {A = Unit {0}} (Err (fault.Frame offence))) (line_of_job job (fault.Frame offence))
frame_line job frame.BadSize = (fault.Frame frame.BadSize, refl, refl)
frame_line job (frame.TooLarge cells) = (fault.Frame (frame.TooLarge cells), refl, refl)
frame_line job frame.BadCell = (fault.Frame frame.BadCell, refl, refl)
frame_line job frame.NotSquare = (fault.Frame frame.NotSquare, refl, refl)
frame_line job frame.OutOfRange = (fault.Frame frame.OutOfRange, refl, refl)

pub line_is : (job : Job) (answer : Result (Unit {0}) Fault) → IsLine (Ok job) (status_of answer) (line_by job answer)
line_is job (Ok u) = refl
line_is job (Err (fault.Missing role)) = (fault.Missing role, refl, refl)
line_is job (Err (fault.ReadFault role)) = (fault.ReadFault role, refl, refl)
line_is job (Err (fault.Grid role (grid.At kind line))) = grid_line job role line kind
line_is job (Err (fault.Grid role grid.NoMemory)) = (fault.Grid role grid.NoMemory, refl, refl)
line_is job (Err (fault.TooManyLevels count)) = (fault.TooManyLevels count, refl, refl)
line_is job (Err (fault.Layer offence)) = layer_line job offence
line_is job (Err (fault.NotPolygon number)) = (fault.NotPolygon number, refl, refl)
line_is job (Err fault.NoExtent) = (fault.NoExtent, refl, refl)
line_is job (Err (fault.Frame offence)) = frame_line job offence
line_is job (Err fault.WriteFault) = (fault.WriteFault, refl, refl)
line_is job (Err fault.NoMemory) = (fault.NoMemory, refl, refl)

-- refused words, or want of memory in place of a job

pub not_done : (refusal : WordFault) → status_of_words refusal ≡ Done → ⊥
not_done (word.At kind place) is = absurd (cc is)
not_done word.NoMemory is = absurd (cc is)

refused_line : (read : Result Job WordFault) (refusal : WordFault) → IsAnswer read (Err refusal) → IsLine read (status_of_words refusal) (line_of_words refusal)
refused_line (Ok job) word.NoMemory is = (fault.NoMemory, refl, refl)
refused_line (Err other) word.NoMemory is = absurd (cc is)
refused_line read (word.At kind place) is = subst (λ r. IsLine r (status_of_words (word.At kind place)) (line_of_words (word.At kind place))) (sym is) (refl, refl)

refused_meets : (old : Option Files) (words : List Text) (refusal : WordFault) → IsAnswer (job_of words) (Err refusal) → IsDecided (status_of_words refusal) → IfSome old (λ files. Meets words files (status_of_words refusal) (line_of_words refusal) [] old)
refused_meets None words refusal is decided = tt
refused_meets (Some files) words word.NoMemory is decided = absurd decided
refused_meets (Some files) words (word.At kind place) is decided = (files, refl, subst (λ r. IsOutcomeOf r files (end_of_words (word.At kind place) files)) (sym is) refl)

-- the outcome of words without a job, or without memory for it
pub refuses : (old : Option Files) (words : List Text) (refusal : WordFault) (status : Status) (before after out : SinkState) → IsAnswer (job_of words) (Err refusal) → status ≡ status_of_words refusal → SaysLine (line_of_words refusal) before after
    → (line printed : List ℕ) × IsLine (job_of words) status line × SaysLine line before after × IsPrinted (job_of words) status printed × Prints printed status out out
    × (IsDecided status → IfSome old (λ files. Meets words files status line printed old))
refuses old words refusal status before after out is ended says = (
  line_of_words refusal,
  [],
  subst (λ s. IsLine (job_of words) s (line_of_words refusal)) (sym ended) (refused_line (job_of words) refusal is),
  says,
  nothing_printed (job_of words) status (λ done. not_done refusal (sym ended ∙ done)),
  prints_nothing status out,
  λ decided.
      subst (λ s. IfSome old (λ files. Meets words files s (line_of_words refusal) [] old)) (sym ended) (refused_meets old words refusal is (subst IsDecided ended decided)),
)

meets_job : (words : List Text) (job : Job) (files : Files) (answer : Result (Unit {0}) Fault) (printed : List ℕ) (now : Option Files) → job_of words ≡ Ok job → DoesPrinting job files answer printed now → Meets words files (status_of answer) (line_by job answer) printed now
meets_job words job files (Ok u) printed now is (text, answers, prints, now_is) =
    let ended : end_with Done [] (files_with job text files) printed ≡ end_of_job job files (Ok text) = ap (end_with Done [] (files_with job text files)) prints in
    (files_with job text files, now_is, subst (λ j. IsOutcomeOf j files (end_with Done [] (files_with job text files) printed)) (sym is) (Ok text, answers, ended))
meets_job words job files (Err fault) printed now is (answers, prints, now_is) =
    let ended : end_with (status_of_fault fault) (line_of_job job fault) files printed ≡ end_of_job job files (Err fault) = ap (end_with (status_of_fault fault) (line_of_job job fault) files) prints in
    (files, now_is, subst (λ j. IsOutcomeOf j files (end_with (status_of_fault fault) (line_of_job job fault) files printed)) (sym is) (Err fault, answers, ended))

pub meets : (old : Option Files) (words : List Text) (job : Job) (answer : Result (Unit {0}) Fault) (printed : List ℕ) (now : Option Files) → job_of words ≡ Ok job → IfSome old (λ files. DoesPrinting job files answer printed now) → IfSome old (λ files. Meets words files (status_of answer) (line_by job answer) printed now)
meets None words job answer printed now is does = tt
meets (Some files) words job answer printed now is does = meets_job words job files answer printed now is does

pub leaves_part : (old now : Option Files) (words : List Text) (job : Job) (answer : Result (Unit {0}) Fault) → job_of words ≡ Ok job → status_of answer ≢ Done → OnErr answer (IfSome old (λ files. LeavesPart job files now)) → IfSome old (λ files. WordsLeavePart (job_of words) files now)
leaves_part old now words job (Ok u) is other part = absurd (other refl)
leaves_part None now words job (Err fault) is other part = tt
leaves_part (Some files) now words job (Err fault) is other part = subst (λ j. WordsLeavePart j files now) (sym is) part

-- what was polygonized comes back

comes_back : (words : List Text) (files : Files) (status : Status) (line printed : List ℕ) (now : Option Files) → Meets words files status line printed now
    → IfSome now (MakesRoundTrip (job_of words) files)
comes_back words files status line printed now (after, now_is, is) =
    subst (λ o. IfSome o (MakesRoundTrip (job_of words) files)) (sym now_is)
    (makes_round_trip words files (end_with status line after printed) is)

pub round_trip : (old now : Option Files) (words : List Text) (status : Status) (line printed : List ℕ) → (IsDecided status → IfSome old (λ files. Meets words files status line printed now))
    → status ≡ Done → IfSome old (λ files. IfSome now (MakesRoundTrip (job_of words) files))
round_trip None now words status line printed met done = tt
round_trip (Some files) now words status line printed met done = comes_back words files status line printed now (met (subst IsDecided (sym done) tt))
