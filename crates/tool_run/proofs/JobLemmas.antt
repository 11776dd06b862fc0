-- What jobs without a text for standard output print: nothing.
use Rattle.std.proofs.Common.{◌≡◌, ◌≢◌, inl, ℕ, List, [], Option, Some, None, Result, Ok, Err, IfSome, OnErr, refl, sym, subst}
use Rattle.rv_outside.specs.Files.{Files}
use Rattle.rv_outside.specs.Sink.{SinkState}
use Rattle.tool_words.specs.declared.fault.WordFault.{WordFault}
use Rattle.tool_words.specs.declared.job.Job.{Job}
use Rattle.tool_words.specs.declared.job.Job.TheVariants.{Sieve, Polygonize, Rasterize, Contour, Check}
use Rattle.tool_outcome.specs.Outcome.{Does, DoesPrinting, LeavesPart, printed_of}
use Rattle.tool_outcome.specs.Status.{IsDecided, status_of}
use Rattle.tool_outcome.specs.declared.fault.Fault.{Fault}
use Rattle.tool_outcome.specs.declared.status.Status.{Status}
use Rattle.tool_outcome.specs.declared.status.Status.TheVariants.{Done, Usage, BadInput, Missing, ReadFault, WriteFault, NoMemory, TooLarge}
use Rattle.tool_run.specs.Printed.{IsPrinted, IsQuiet, Prints}
use Rattle.tool_run.proofs.MessageLemmas.{nothing_said}

pub prints_nothing : (status : Status) (out : SinkState) → Prints [] status out out
prints_nothing status out = (Ok tt, nothing_said out, λ decided. refl)

-- a run that isn't done can have printed nothing
pub nothing_printed : (read : Result Job WordFault) (status : Status) → status ≢ Done → IsPrinted read status []
nothing_printed (Err fault) status other = refl
nothing_printed (Ok (Sieve job)) status other = refl
nothing_printed (Ok (Polygonize job)) status other = refl
nothing_printed (Ok (Rasterize job)) status other = refl
nothing_printed (Ok (Contour job)) status other = refl
nothing_printed (Ok (Check job)) Done other = absurd (other refl)
nothing_printed (Ok (Check job)) Usage other = inl refl
nothing_printed (Ok (Check job)) BadInput other = inl refl
nothing_printed (Ok (Check job)) Missing other = inl refl
nothing_printed (Ok (Check job)) ReadFault other = inl refl
nothing_printed (Ok (Check job)) WriteFault other = inl refl
nothing_printed (Ok (Check job)) NoMemory other = inl refl
nothing_printed (Ok (Check job)) TooLarge other = inl refl

-- a job of a quiet tool prints nothing

quiet_printed : (job : Job) (status : Status) → IsQuiet (Ok job) → IsPrinted (Ok job) status []
quiet_printed (Sieve job) status quiet = refl
quiet_printed (Polygonize job) status quiet = refl
quiet_printed (Rasterize job) status quiet = refl
quiet_printed (Contour job) status quiet = refl
quiet_printed (Check job) status quiet = absurd quiet

quiet_text : (job : Job) (text : List ℕ) → IsQuiet (Ok job) → [] ≡ printed_of job text
quiet_text (Sieve job) text quiet = refl
quiet_text (Polygonize job) text quiet = refl
quiet_text (Rasterize job) text quiet = refl
quiet_text (Contour job) text quiet = refl
quiet_text (Check job) text quiet = absurd quiet

quiet_does : (job : Job) (files : Files) (result : Result (Unit {0}) Fault) (now : Option Files) → IsQuiet (Ok job) → Does job files result now → DoesPrinting job files result [] now
quiet_does job files (Ok u) now quiet (text, answers, now_is) = (text, answers, quiet_text job text quiet, now_is)
quiet_does job files (Err fault) now quiet (answers, now_is) = (answers, refl, now_is)

quiet_if : (job : Job) (old : Option Files) (result : Result (Unit {0}) Fault) (now : Option Files) → IsQuiet (Ok job)
    → IfSome old (λ files. Does job files result now) → IfSome old (λ files. DoesPrinting job files result [] now)
quiet_if job None result now quiet does = tt
quiet_if job (Some files) result now quiet does = quiet_does job files result now quiet does

pub quiet_ends : (job : Job) (old : Option Files) (result : Result (Unit {0}) Fault) (now : Option Files) (out : SinkState) → IsQuiet (Ok job)
    → (IsDecided (status_of result) → IfSome old (λ files. Does job files result now))
    → (printed : List ℕ) × IsPrinted (Ok job) (status_of result) printed × Prints printed (status_of result) out out
    × (IsDecided (status_of result) → IfSome old (λ files. DoesPrinting job files result printed now))
quiet_ends job old result now out quiet does = (
  [],
  quiet_printed job (status_of result) quiet,
  prints_nothing (status_of result) out,
  λ decided. quiet_if job old result now quiet (does decided),
)

-- the same of a job that is another's

pub quiet_for : (job made : Job) (old : Option Files) (result : Result (Unit {0}) Fault) (now : Option Files) (out : SinkState) → job ≡ made → IsQuiet (Ok made)
    → (IsDecided (status_of result) → IfSome old (λ files. Does made files result now))
    → (printed : List ℕ) × IsPrinted (Ok job) (status_of result) printed × Prints printed (status_of result) out out
    × (IsDecided (status_of result) → IfSome old (λ files. DoesPrinting job files result printed now))
quiet_for job made old result now out is quiet does =
    subst (λ j. (printed : List ℕ) × IsPrinted (Ok j) (status_of result) printed × Prints printed (status_of result) out out
    × (IsDecided (status_of result) → IfSome old (λ files. DoesPrinting j files result printed now))) (sym is) (quiet_ends made old result now out quiet does)

pub part_for : (job made : Job) (old : Option Files) (result : Result (Unit {0}) Fault) (now : Option Files) → job ≡ made
    → OnErr result (IfSome old (λ files. LeavesPart made files now)) → OnErr result (IfSome old (λ files. LeavesPart job files now))
part_for job made old result now is part = subst (λ j. OnErr result (IfSome old (λ files. LeavesPart j files now))) (sym is) part
