-- Which faults a tool can have, and which counts of the folder and of standard output a run raises. Source: this project's own.
use Rattle.std.specs.Prelude.{◌≡◌, ◌≢◌, Ok, Err}
use Rattle.std.specs.declared.result.Result.{Result}
use Rattle.rv_outside.specs.Causes.{Counts}
use Rattle.rv_outside.specs.Folder.{FolderState}
use Rattle.rv_outside.specs.Sink.{SinkState}
use Rattle.asc_grid.specs.declared.fault.GridFault.TheVariants as grid
use Rattle.ogr_csv.specs.declared.fault.LayerFault.TheVariants as layer
use Rattle.tool_words.specs.declared.fault.WordFault.{WordFault}
use Rattle.tool_words.specs.declared.job.Job.{Job}
use Rattle.tool_words.specs.declared.job.Job.TheVariants.{Check}
use Rattle.tool_outcome.specs.declared.fault.Fault.{Fault}
use Rattle.tool_outcome.specs.declared.fault.Fault.TheVariants as fault
use Rattle.tool_outcome.specs.declared.fault.Role.TheVariants.{Source}
use Rattle.tool_outcome.specs.declared.status.Status.{Status}
use Rattle.tool_outcome.specs.declared.status.Status.TheVariants.{Missing, ReadFault, WriteFault}

-- each fault of the folder was counted, once, and no count rose without its status
pub record HasCauses (status : Status) (old new : FolderState) : Type 0 where
  pub missing : Counts (status ≡ Missing) old.missing new.missing
  pub read_faults : Counts (status ≡ ReadFault) old.read_faults new.read_faults
  pub write_faults : Counts (status ≡ WriteFault) old.write_faults new.write_faults

-- the run leaves the folder itself as it was: its words are refused, or ask for check
abbrev pub LeavesFolder : Result Job WordFault → Type 0
LeavesFolder (Err fault) = Unit {0}
LeavesFolder (Ok (Check job)) = Unit {0}
LeavesFolder (Ok job) = ⊥

-- check has neither a missing file nor a failed read, and its failed writes are those of standard output
pub record HasOutCauses (status : Status) (old new : SinkState) : Type 0 where
  pub there : status ≢ Missing
  pub read : status ≢ ReadFault
  pub faults : Counts (status ≡ WriteFault) old.faults new.faults

-- the causes of a run's faults, by what its words ask for
abbrev pub HasCausesOf : Result Job WordFault → Status → FolderState → FolderState → SinkState → SinkState → Type 0
HasCausesOf (Ok (Check job)) status old new before after = HasOutCauses status before after
HasCausesOf read status old new before after = HasCauses status old new

-- a fault that a tool can have: its one file is the source, and want of memory is `NoMemory` alone
abbrev pub IsToolFault : Fault → Type 0
IsToolFault (fault.Missing Source) = Unit {0}
IsToolFault (fault.ReadFault Source) = Unit {0}
IsToolFault (fault.Grid Source (grid.At kind line)) = Unit {0}
IsToolFault (fault.Layer layer.NoMemory) = ⊥
IsToolFault (fault.Layer offence) = Unit {0}
IsToolFault (fault.TooManyLevels count) = Unit {0}
IsToolFault (fault.NotPolygon number) = Unit {0}
IsToolFault fault.NoExtent = Unit {0}
IsToolFault (fault.Frame offence) = Unit {0}
IsToolFault fault.WriteFault = Unit {0}
IsToolFault fault.NoMemory = Unit {0}
IsToolFault other = ⊥
