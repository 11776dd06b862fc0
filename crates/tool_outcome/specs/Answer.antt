-- What a tool answers for a job. Source: this project's own.
use Rattle.std.specs.Prelude.{◌≡◌, ℕ, List, Ok, Err}
use Rattle.std.specs.declared.result.Result.{Result}
use Rattle.asc_grid.specs.declared.grid.Asc.{Asc}
use Rattle.tool_outcome.specs.declared.fault.Fault.{Fault}

-- the text that goes to the destination, or why there is none
abbrev pub Answer : Type 0
Answer = Result (List ℕ) Fault

-- the fault of a source without a grid, and else a text that belongs to its grid
abbrev pub AnswersBy : {T : Type 0} → (Asc T → List ℕ → Type 0) → Result (Asc T) Fault → Answer → Type 0
AnswersBy IsText (Err fault) answer = answer ≡ Err fault
AnswersBy IsText (Ok asc) (Err fault) = ⊥
AnswersBy IsText (Ok asc) (Ok text) = IsText asc text
