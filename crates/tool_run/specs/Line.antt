-- The line on standard error as it is handed over. Source: this project's own.
use Rattle.std.specs.Prelude.{ℕ, List}
use Rattle.std.specs.declared.result.Result.{Result}
use Rattle.rv_outside.specs.Sink.{SinkState, Says}
use Rattle.rv_outside.specs.declared.folder.Trouble.{Trouble}

-- the line was handed to the sink, whatever the sink answered
abbrev pub SaysLine : List ℕ → SinkState → SinkState → Type 0
SaysLine line old new = (answer : Result (Unit {0}) Trouble) × Says line answer old new
