-- What goes to standard output. Source: this project's own.
use Rattle.std.specs.Prelude.{◌≡◌, ◌⊎◌, ℕ, List, [], Ok}
use Rattle.std.specs.declared.result.Result.{Result}
use Rattle.rv_outside.specs.Sink.{Says, SinkState}
use Rattle.rv_outside.specs.declared.folder.Trouble.{Trouble}
use Rattle.tool_words.specs.declared.fault.WordFault.{WordFault}
use Rattle.tool_words.specs.declared.job.Job.{Job}
use Rattle.tool_words.specs.declared.job.Job.TheVariants.{Check}
use Rattle.tool_outcome.specs.Check.{IsCheckAnswer}
use Rattle.tool_outcome.specs.Status.{IsDecided}
use Rattle.tool_outcome.specs.declared.status.Status.{Status}
use Rattle.tool_outcome.specs.declared.status.Status.TheVariants.{Done}

-- what a run prints that ended so, whatever the files: the lines of check, or nothing where it was cut off; all else prints
-- nothing
abbrev pub IsPrinted : Result Job WordFault → Status → List ℕ → Type 0
IsPrinted (Ok (Check job)) Done text = IsCheckAnswer job (Ok text)
IsPrinted (Ok (Check job)) status text = (text ≡ []) ⊎ IsCheckAnswer job (Ok text)
IsPrinted read status text = text ≡ []

-- the text was handed to standard output; all of it went there unless the run was cut off
abbrev pub Prints : List ℕ → Status → SinkState → SinkState → Type 0
Prints text status old new =
    (answer : Result (Unit {0}) Trouble) × Says text answer old new × (IsDecided status → answer ≡ Ok tt)

-- only check prints
abbrev pub IsQuiet : Result Job WordFault → Type 0
IsQuiet (Ok (Check job)) = ⊥
IsQuiet read = Unit {0}
