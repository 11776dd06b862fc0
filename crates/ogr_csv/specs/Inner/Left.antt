-- What a layer reader has left.
use Rattle.std.specs.Prelude.{◌≡◌, ◌+◌, ◌<◌, ◌^◌, ℕ, Bool, true, false, List, [], ◌∷◌, length, Option, Some, None, Result, Ok, Err}
use Rattle.csv.specs.Reading.{Ready, default_config, has_failed, reader_config, reader_state, reader_trim, records_from}
use Rattle.csv.specs.declared.reader.Reader.{Reader}
use Rattle.csv.specs.declared.reader.Trim.TheVariants as trim
use Rattle.csv.specs.declared.parser.State.{State}
use Rattle.ogr_csv.specs.Layer.{Record, answers_of}
use Rattle.ogr_csv.specs.declared.columns.Columns.{Columns}
use Rattle.ogr_csv.specs.declared.fault.LayerFault.{LayerFault}
use Rattle.ogr_csv.specs.declared.fault.LayerFault.TheVariants.{NoHeader, NoGeometryColumn, NoField, BadGeometry, BadAttribute, NoMemory}
use Rattle.ogr_csv.specs.declared.feature.Feature.{Feature}
use Rattle.ogr_csv.specs.declared.reader.Stage.{Stage}
use Rattle.ogr_csv.specs.declared.reader.Stage.TheVariants.{Reading, Ended, Refused}

-- the records of known bytes from a state on
abbrev pub records_from_state : State → Option (List ℕ) → List Record
records_from_state state None = []
records_from_state state (Some bytes) = records_from default_config (length bytes + 1) state bytes

-- the records that a reader has left, of the bytes that it has left
abbrev pub records_left : {R : Type 0} → Reader R → Option (List ℕ) → List Record
records_left reader left = records_from_state (reader_state reader) left

-- the answers that are left: those of the records that are, none behind the end, and a fault again and again
abbrev pub answers_left : Stage → Columns → ℕ → List Record → List (Result Feature LayerFault)
answers_left Reading columns number records = answers_of columns number records
answers_left Ended columns number records = []
answers_left (Refused fault) columns number records = Err fault ∷ []

-- a reader of the crate csv as a layer is read: it has not failed, and its bytes are known
pub record IsReading {R : Type 0} (reader : Reader R) (left : Option (List ℕ)) : Type 0 where
  pub config : reader_config reader ≡ default_config
  pub plain : reader_trim reader ≡ trim.None
  pub ready : Ready reader
  pub sound : has_failed reader ≡ false
  pub known : (bytes : List ℕ) × (left ≡ Some bytes)

-- what a read of a record takes
abbrev pub TakesRecord : List Record → List Record → Record → Result Bool LayerFault → Type 0
TakesRecord old new fields (Ok true) = old ≡ fields ∷ new
TakesRecord old new fields (Ok false) = old ≡ []
TakesRecord old new fields (Err NoMemory) = Unit {0}
TakesRecord old new fields (Err NoHeader) = ⊥
TakesRecord old new fields (Err NoGeometryColumn) = ⊥
TakesRecord old new fields (Err NoField) = ⊥
TakesRecord old new fields (Err (BadGeometry at kind byte)) = ⊥
TakesRecord old new fields (Err (BadAttribute at)) = ⊥

-- the reader reads, and the numbers of its records fit
pub record IsReadingFrom {R : Type 0} (reader : Reader R) (left : Option (List ℕ)) (number : ℕ) : Type 0 where
  pub reading : IsReading reader left
  pub few : number + length (records_left reader left) < 2 ^ 64

-- a fault of a record, or want of memory
abbrev pub IsRecordFault : LayerFault → Type 0
IsRecordFault NoHeader = ⊥
IsRecordFault NoGeometryColumn = ⊥
IsRecordFault NoField = ⊥
IsRecordFault (BadGeometry at kind byte) = Unit {0}
IsRecordFault (BadAttribute at) = Unit {0}
IsRecordFault NoMemory = Unit {0}

-- it does as long as records are read
abbrev pub IsReadingAt : {R : Type 0} → Stage → Reader R → Option (List ℕ) → ℕ → Type 0
IsReadingAt Reading reader left number = IsReadingFrom reader left number
IsReadingAt Ended reader left number = Unit {0}
IsReadingAt (Refused fault) reader left number = IsRecordFault fault
