-- What a sink shows of itself, and what its calls answer and leave. Source: this project's own.
use Rattle.std.specs.Prelude.{◌≡◌, ℕ, ◌<◌, ◌≤◌, List, ◌++◌, length, take, Option, option_map, IfOk, IsErrOf, OnErr, OnOk}
use Rattle.std.specs.declared.result.Result.{Result}
use Rattle.rv_outside.specs.Causes.{Counts}
use Rattle.rv_outside.specs.declared.folder.Trouble.{Trouble}
use Rattle.rv_outside.specs.declared.folder.Trouble.TheVariants.{Failed, NoMemory}

-- the bytes that it took, where it tells them, and how often it failed and wanted memory
pub record SinkState : Type 0 where
  pub written : Option (List ℕ)
  pub faults : ℕ
  pub wants : ℕ

-- these bytes were added at the end, where the sink tells what it took
abbrev pub Adds : Option (List ℕ) → Option (List ℕ) → List ℕ → Type 0
Adds before now piece = now ≡ option_map (λ bytes. bytes ++ piece) before

-- each error was counted
pub record CountsErrors {T : Type 0} (result : Result T Trouble) (old new : SinkState) : Type 0 where
  pub faults : Counts (IsErrOf result Failed) old.faults new.faults
  pub wants : Counts (IsErrOf result NoMemory) old.wants new.wants

-- what a put answers and leaves: the first bytes of the piece were added, after an error none
pub record Puts (piece : List ℕ) (result : Result ℕ Trouble) (old new : SinkState) : Type 0 where
  pub within : IfOk result (λ n. (0 < n) × (n ≤ length piece))
  pub added : IfOk result (λ n. Adds old.written new.written (take n piece))
  pub err : OnErr result (new.written ≡ old.written)
  pub leaves : CountsErrors result old new

-- what a whole text answers and leaves: all of it was added, after an error a first part
pub record Says (text : List ℕ) (result : Result (Unit {0}) Trouble) (old new : SinkState) : Type 0 where
  pub said : OnOk result (Adds old.written new.written text)
  pub part : OnErr result ((n : ℕ) × (n ≤ length text) × Adds old.written new.written (take n text))
  pub leaves : CountsErrors result old new
