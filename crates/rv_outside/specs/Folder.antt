-- What a folder shows of itself, and what its calls answer and leave. Source: this project's own.
use Rattle.std.specs.Prelude.{◌≡◌, ◌⊎◌, ℕ, ◌+◌, ◌<◌, ◌≤◌, List, [], length, take, drop, Option, Some, None, Ok, IfOk, IfSome, IsErrOf, OnErr, OnOk}
use Rattle.std.specs.declared.result.Result.{Result}
use Rattle.rv_outside.specs.Causes.{Counts}
use Rattle.rv_outside.specs.Files.{Files, Becomes, with_appended, with_file}
use Rattle.rv_outside.specs.declared.folder.Taken.{Taken}
use Rattle.rv_outside.specs.declared.folder.Taken.TheVariants.{Bytes, End, Missing}
use Rattle.rv_outside.specs.declared.folder.Trouble.{Trouble}
use Rattle.rv_outside.specs.declared.folder.Trouble.TheVariants.{Failed}

-- the files, where the folder tells them, and how often a read failed, a write failed, and nothing had a name
pub record FolderState : Type 0 where
  pub files : Option Files
  pub read_faults : ℕ
  pub write_faults : ℕ
  pub missing : ℕ

-- a call that only reads: it failed, or nothing had the name, with these answers
pub record OnlyReads (fails misses : Type 0) (old new : FolderState) : Type 0 where
  pub files : new.files ≡ old.files
  pub read_faults : Counts fails old.read_faults new.read_faults
  pub missing : Counts misses old.missing new.missing
  pub write_faults : new.write_faults ≡ old.write_faults

-- a call that only writes: it failed with these answers
pub record OnlyWrites (fails : Type 0) (old new : FolderState) : Type 0 where
  pub write_faults : Counts fails old.write_faults new.write_faults
  pub read_faults : new.read_faults ≡ old.read_faults
  pub missing : new.missing ≡ old.missing

-- a count of at least one, within the buffer
abbrev pub IsWithin : Taken → ℕ → Type 0
IsWithin (Bytes n) len = (0 < n) × (n ≤ len)
IsWithin End len = Unit {0}
IsWithin Missing len = Unit {0}

-- the answer to a read of this file from this offset on
abbrev pub Reads : Option (List ℕ) → ℕ → List ℕ → Taken → Type 0
Reads file offset into (Bytes n) = (bytes : List ℕ) × (file ≡ Some bytes) × (offset + n ≤ length bytes) × (take n into ≡ take n (drop offset bytes))
Reads file offset into End = (bytes : List ℕ) × (file ≡ Some bytes) × (length bytes ≤ offset)
Reads file offset into Missing = file ≡ None

-- what a read answers and leaves
pub record ReadsAt (name : List ℕ) (offset : ℕ) (into : List ℕ) (result : Result Taken Trouble) (old new : FolderState) : Type 0 where
  pub within : IfOk result (λ taken. IsWithin taken (length into))
  pub content : IfOk result (λ taken. IfSome old.files (λ files. Reads (files name) offset into taken))
  pub leaves : OnlyReads (IsErrOf result Failed) (result ≡ Ok Missing) old new

-- what making a file answers and leaves: it is there and empty, after an error empty or as before
pub record Creates (name : List ℕ) (result : Result (Unit {0}) Trouble) (old new : FolderState) : Type 0 where
  pub made : OnOk result (Becomes old.files new.files (with_file name []))
  pub err : OnErr result ((new.files ≡ old.files) ⊎ Becomes old.files new.files (with_file name []))
  pub leaves : OnlyWrites (IsErrOf result Failed) old new

-- what an append answers and leaves: the first bytes of the piece were added, after an error none
pub record AppendsTo (name piece : List ℕ) (result : Result ℕ Trouble) (old new : FolderState) : Type 0 where
  pub within : IfOk result (λ n. (0 < n) × (n ≤ length piece))
  pub added : IfOk result (λ n. Becomes old.files new.files (with_appended name (take n piece)))
  pub err : OnErr result (new.files ≡ old.files)
  pub leaves : OnlyWrites (IsErrOf result Failed) old new
