-- What a folder in memory holds.
use Rattle.std.specs.Prelude.{◌≡◌, ◌≢◌, ◌↔◌, ℕ, List, Some, Contains}
use Rattle.rv_outside.specs.Causes.{Rose}
use Rattle.rv_outside.specs.Files.{Files}
use Rattle.rv_outside.specs.Folder.{FolderState}
use Rattle.rv_outside.specs.FileMap.{files_in}
use Rattle.rv_outside.specs.declared.memory_folder.Call.{Call}
use Rattle.rv_outside.specs.declared.memory_folder.Call.TheVariants.{Read, Create, Append}
use Rattle.rv_outside.specs.declared.memory_folder.MemoryFolder.{MemoryFolder}

-- its files
abbrev pub memory_files : MemoryFolder → Files
memory_files folder = files_in folder.files

-- the calls that are to fail, each as its kind and its number
abbrev pub failing_calls : MemoryFolder → List (Call × ℕ)
failing_calls folder = folder.failing.items

-- how many calls of a kind there were
abbrev pub calls_of : MemoryFolder → Call → ℕ
calls_of folder Read = folder.reads
calls_of folder Create = folder.creates
calls_of folder Append = folder.appends

-- what it shows of itself
abbrev pub memory_state : MemoryFolder → FolderState
memory_state folder = record {
  files = Some (memory_files folder);
  read_faults = folder.read_faults;
  write_faults = folder.write_faults;
  missing = folder.missing;
}

-- a call of this kind was counted, failed exactly where its number was set to fail, and what is set to fail stays set
pub record KeepsWord (call : Call) (failed : Type 0) (old new : MemoryFolder) : Type 0 where
  pub counted : Rose (calls_of old call) (calls_of new call)
  pub others : (other : Call) → other ≢ call → calls_of new other ≡ calls_of old other
  pub fails : failed ↔ Contains (failing_calls old) (call, calls_of new call)
  pub set : failing_calls new ≡ failing_calls old
