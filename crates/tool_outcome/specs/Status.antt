-- The status of a run. Source: this project's own.
use Rattle.std.specs.Prelude.{ℕ, Ok, Err}
use Rattle.std.specs.declared.result.Result.{Result}
use Rattle.asc_grid.specs.declared.fault.GridKind.{GridKind}
use Rattle.asc_grid.specs.declared.fault.GridKind.TheVariants as kind
use Rattle.asc_grid.specs.declared.fault.GridFault.{GridFault}
use Rattle.asc_grid.specs.declared.fault.GridFault.TheVariants as grid
use Rattle.geo_transform.specs.declared.fault.FrameFault.{FrameFault}
use Rattle.geo_transform.specs.declared.fault.FrameFault.TheVariants as frame
use Rattle.ogr_csv.specs.declared.fault.LayerFault.{LayerFault}
use Rattle.ogr_csv.specs.declared.fault.LayerFault.TheVariants as layer
use Rattle.tool_words.specs.declared.fault.WordFault.{WordFault}
use Rattle.tool_words.specs.declared.fault.WordFault.TheVariants as words
use Rattle.tool_outcome.specs.declared.status.Status.{Status}
use Rattle.tool_outcome.specs.declared.status.Status.TheVariants.{Done, Usage, BadInput, Missing, ReadFault, WriteFault, NoMemory, TooLarge}
use Rattle.tool_outcome.specs.declared.fault.Fault.{Fault}
use Rattle.tool_outcome.specs.declared.fault.Fault.TheVariants as fault

-- the number that the program ends with
abbrev pub number_of : Status → ℕ
number_of Done = 0
number_of Usage = 1
number_of BadInput = 2
number_of Missing = 3
number_of ReadFault = 4
number_of WriteFault = 5
number_of NoMemory = 6
number_of TooLarge = 7

-- the status of refused words
abbrev pub status_of_words : WordFault → Status
status_of_words (words.At kind place) = Usage
status_of_words words.NoMemory = NoMemory

-- the status of a grid's offence
abbrev pub status_of_kind : GridKind → Status
status_of_kind (kind.TooLarge cells) = TooLarge
status_of_kind other = BadInput

abbrev pub status_of_grid : GridFault → Status
status_of_grid (grid.At kind line) = status_of_kind kind
status_of_grid grid.NoMemory = NoMemory

-- the status of a refused layer
abbrev pub status_of_layer : LayerFault → Status
status_of_layer layer.NoMemory = NoMemory
status_of_layer other = BadInput

-- the status of a frame's fault
abbrev pub status_of_frame : FrameFault → Status
status_of_frame (frame.TooLarge cells) = TooLarge
status_of_frame other = BadInput

-- the status of a fault
abbrev pub status_of_fault : Fault → Status
status_of_fault (fault.Missing role) = Missing
status_of_fault (fault.ReadFault role) = ReadFault
status_of_fault (fault.Grid role offence) = status_of_grid offence
status_of_fault (fault.TooManyLevels count) = TooLarge
status_of_fault (fault.Layer offence) = status_of_layer offence
status_of_fault (fault.NotPolygon number) = BadInput
status_of_fault fault.NoExtent = BadInput
status_of_fault (fault.Frame offence) = status_of_frame offence
status_of_fault fault.WriteFault = WriteFault
status_of_fault fault.NoMemory = NoMemory

-- the status of an answer
abbrev pub status_of : {A : Type 0} → Result A Fault → Status
status_of (Ok _) = Done
status_of (Err fault) = status_of_fault fault

-- neither a call of the outside nor memory cut the run off
abbrev pub IsDecided : Status → Type 0
IsDecided ReadFault = ⊥
IsDecided WriteFault = ⊥
IsDecided NoMemory = ⊥
IsDecided status = Unit {0}
