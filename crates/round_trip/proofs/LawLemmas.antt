-- The round trip over outcomes.
use Rattle.std.proofs.Common.{◌≡◌, ℕ, ℤ, false, List, [], Option, Some, None, Result, Ok, Err, refl, sym, ap, ◌∙◌, subst}
use Rattle.std.specs.Str.{bytes_eq}
use Rattle.rv_outside.specs.Files.{Files, with_file}
use Rattle.rv_outside.proofs.FilesLemmas.{bytes_eq-itself}
use Rattle.cell_base.specs.Steps.{four}
use Rattle.asc_grid.specs.declared.grid.Asc.{Asc}
use Rattle.tool_words.specs.Words.{Text, is_option}
use Rattle.tool_words.specs.Job.{job_of}
use Rattle.tool_words.specs.declared.fault.WordFault.{WordFault}
use Rattle.tool_words.specs.declared.job.Job.{Job}
use Rattle.tool_words.specs.declared.job.Job.TheVariants.{Check, Contour, Polygonize, Rasterize, Sieve}
use Rattle.tool_words.specs.declared.job.PolygonizeJob.{PolygonizeJob}
use Rattle.tool_outcome.specs.Answer.{Answer, AnswersBy}
use Rattle.tool_outcome.specs.Outcome.{IsAnswerFor, IsOutcome, IsOutcomeOf, Outcome, end_of_job}
use Rattle.tool_outcome.specs.Polygonize.{IsPolygonizeText}
use Rattle.tool_outcome.specs.Rasterize.{rasterize_answer}
use Rattle.tool_outcome.specs.Source.{source_of, text_of}
use Rattle.tool_outcome.specs.declared.fault.Fault.{Fault}
use Rattle.round_trip.specs.BackWords.{back_job, back_words}
use Rattle.round_trip.specs.RoundTrip.{ComesBack, MakesRoundTrip, writes_grid}
use Rattle.round_trip.proofs.NameLemmas.{HasNames, job_names}
use Rattle.round_trip.proofs.RoundTripLemmas.{answer_back}
use Rattle.round_trip.proofs.SourceLemmas.{IsGridOfText, grid_of_source}
use Rattle.round_trip.proofs.WordLemmas.{job_back}

-- the file that was written is there
told_there : (files : Files) (name : Text) (text : List ℕ) → with_file name text files name ≡ Some text
told_there files name text = rw (bytes_eq-itself name) refl

-- a text that answers a source with a grid is a text of that grid
text_of_answer : (job : PolygonizeJob) (source : Result (Asc ℤ) Fault) (asc : Asc ℤ) (text : List ℕ) → AnswersBy (IsPolygonizeText job) source (Ok text)
    → source ≡ Ok asc → IsPolygonizeText job asc text
text_of_answer job source asc text answers is = subst (λ (s : Result (Asc ℤ) Fault). AnswersBy (IsPolygonizeText job) s (Ok text)) is answers

-- once the layer is there, the grid comes back
pub comes_back : (words : List Text) (job : PolygonizeJob) (files : Files) (asc : Asc ℤ) (text : List ℕ) → job_of words ≡ Ok (Polygonize job)
    → job.eight ≡ four → source_of (files job.source) ≡ Ok asc → IsAnswerFor (Polygonize job) files (Ok text)
    → ComesBack job asc (with_file job.dest text files)
comes_back words job files asc text job_is by_sides source_is answers name is_name =
    subst (λ (r : Result Job WordFault). IsOutcomeOf r after (writes_grid asc name after)) (sym (job_back job.field asc job.dest name grid names.dest is_name))
    (Ok (text_of asc), sym answer, refl)
  where
    after : Files
    after = with_file job.dest text files

    names : HasNames job
    names = job_names words job job_is

    grid : IsGridOfText asc
    grid = grid_of_source (files job.source) asc source_is

    answer : rasterize_answer (back_job job.field asc job.dest name) after ≡ Ok (text_of asc)
    answer = answer_back asc job text job.dest name after grid by_sides names.field
        (text_of_answer job (source_of (files job.source)) asc text answers source_is) (told_there files job.dest text)

-- a source with a grid has a text for its answer
no_fault : (job : PolygonizeJob) (source : Result (Asc ℤ) Fault) (asc : Asc ℤ) (fault : Fault) → AnswersBy (IsPolygonizeText job) source (Err fault)
    → source ≡ Ok asc → ⊥
no_fault job source asc fault answers is = subst (λ (s : Result (Asc ℤ) Fault). AnswersBy (IsPolygonizeText job) s (Err fault)) is answers

by_answer : (words : List Text) (job : PolygonizeJob) (files : Files) (outcome : Outcome) (answer : Answer) → job_of words ≡ Ok (Polygonize job)
    → IsAnswerFor (Polygonize job) files answer → outcome ≡ end_of_job (Polygonize job) files answer
    → MakesRoundTrip (Ok (Polygonize job)) files outcome.files
by_answer words job files outcome (Err fault) job_is answers ends by_sides asc source_is =
    absurd (no_fault job (source_of (files job.source)) asc fault answers source_is)
by_answer words job files outcome (Ok text) job_is answers ends by_sides asc source_is =
    subst (λ (after : Files). ComesBack job asc after) (ap (λ (o : Outcome). o.files) (sym ends))
    (comes_back words job files asc text job_is by_sides source_is answers)

by_job : (words : List Text) (files : Files) (outcome : Outcome) (job : Result Job WordFault) → job_of words ≡ job → IsOutcomeOf job files outcome
    → MakesRoundTrip job files outcome.files
by_job words files outcome (Err fault) job_is is = tt
by_job words files outcome (Ok (Sieve job)) job_is is = tt
by_job words files outcome (Ok (Polygonize job)) job_is is = by_answer words job files outcome is.0 job_is is.1 is.2
by_job words files outcome (Ok (Rasterize job)) job_is is = tt
by_job words files outcome (Ok (Contour job)) job_is is = tt
by_job words files outcome (Ok (Check job)) job_is is = tt

-- every outcome makes the round trip
pub makes_round_trip : (words : List Text) (files : Files) (outcome : Outcome) → IsOutcome words files outcome → MakesRoundTrip (job_of words) files outcome.files
makes_round_trip words files outcome is = by_job words files outcome (job_of words) refl is
