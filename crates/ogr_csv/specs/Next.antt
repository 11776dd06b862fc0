-- What calls of a layer reader answer.
use Rattle.std.specs.Prelude.{◌≡◌, List, [], ◌∷◌, Option, Some, None, Result, Ok, Err}
use Rattle.ogr_csv.specs.declared.fault.LayerFault.{LayerFault}
use Rattle.ogr_csv.specs.declared.fault.LayerFault.TheVariants.{NoHeader, NoGeometryColumn, NoField, BadGeometry, BadAttribute, NoMemory}
use Rattle.ogr_csv.specs.declared.feature.Feature.{Feature}

abbrev pub Answers : Type 0
Answers = List (Result Feature LayerFault)

-- the first of these answers, and others behind it
abbrev pub Begins : Answers → Result Feature LayerFault → Type 0
Begins answers answer = (rest : Answers) × (answers ≡ answer ∷ rest)

-- the fault is the first answer, or want of memory
abbrev pub IsFaultOf : Answers → LayerFault → Type 0
IsFaultOf answers NoMemory = Unit {0}
IsFaultOf answers (BadGeometry at kind byte) = Begins answers (Err (BadGeometry at kind byte))
IsFaultOf answers (BadAttribute at) = Begins answers (Err (BadAttribute at))
IsFaultOf answers NoHeader = ⊥
IsFaultOf answers NoGeometryColumn = ⊥
IsFaultOf answers NoField = ⊥

-- a feature is taken, the end has come, or a fault is answered, which every further call then answers
abbrev pub TakesNext : Answers → Answers → Result (Option Feature) LayerFault → Type 0
TakesNext old new (Ok (Some feature)) = old ≡ Ok feature ∷ new
TakesNext old new (Ok None) = (old ≡ []) × (new ≡ [])
TakesNext old new (Err fault) = IsFaultOf old fault × (new ≡ Err fault ∷ [])

-- a reader with the answers of a layer, or the fault of its header, or want of memory
abbrev pub Opens : Result Answers LayerFault → Result Answers LayerFault → Type 0
Opens layer (Ok answers) = layer ≡ Ok answers
Opens layer (Err NoHeader) = layer ≡ Err NoHeader
Opens layer (Err NoGeometryColumn) = layer ≡ Err NoGeometryColumn
Opens layer (Err NoField) = layer ≡ Err NoField
Opens layer (Err NoMemory) = Unit {0}
Opens layer (Err (BadGeometry at kind byte)) = ⊥
Opens layer (Err (BadAttribute at)) = ⊥
