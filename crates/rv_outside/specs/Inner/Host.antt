-- What the system's answers are to the program.
use Rattle.std.specs.Prelude.{ℕ, zero, suc, Ok, Err}
use Rattle.std.specs.declared.result.Result.{Result}
use Rattle.std.specs.declared.io.ErrorKind.{ErrorKind}
use Rattle.std.specs.declared.io.ErrorKind.TheVariants as kind
use Rattle.rv_outside.specs.declared.host.Refusal.{Refusal}
use Rattle.rv_outside.specs.declared.host.Refusal.TheVariants.{NotFound, NoMemory, Other}
use Rattle.rv_outside.specs.declared.folder.Taken.{Taken}
use Rattle.rv_outside.specs.declared.folder.Taken.TheVariants.{Bytes, End, Missing}
use Rattle.rv_outside.specs.declared.folder.Trouble.{Trouble}
use Rattle.rv_outside.specs.declared.folder.Trouble.TheVariants as trouble

-- what a refusal of the system is
abbrev pub refusal_of : ErrorKind → Refusal
refusal_of kind.NotFound = NotFound
refusal_of kind.OutOfMemory = NoMemory
refusal_of _ = Other

-- the trouble of a refused write: that nothing has the name is a failure like any other
abbrev pub trouble_of : Refusal → Trouble
trouble_of NoMemory = trouble.NoMemory
trouble_of NotFound = trouble.Failed
trouble_of Other = trouble.Failed

-- the answer to a read: no byte is the end, and that nothing has the name is no failure
abbrev pub read_answer : Result ℕ Refusal → Result Taken Trouble
read_answer (Ok zero) = Ok End
read_answer (Ok (suc n)) = Ok (Bytes (suc n))
read_answer (Err NotFound) = Ok Missing
read_answer (Err refusal) = Err (trouble_of refusal)

-- the answer to a write: a writer that takes nothing would be asked for ever, so it has failed
abbrev pub write_answer : Result ℕ Refusal → Result ℕ Trouble
write_answer (Ok zero) = Err trouble.Failed
write_answer (Ok (suc n)) = Ok (suc n)
write_answer (Err refusal) = Err (trouble_of refusal)

-- the answer to making a file
abbrev pub create_answer : Result (Unit {0}) Refusal → Result (Unit {0}) Trouble
create_answer (Ok made) = Ok made
create_answer (Err refusal) = Err (trouble_of refusal)
