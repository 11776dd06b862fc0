-- Faults that are answered again.
use Rattle.std.proofs.Common.{◌≡◌, refl, [], ◌∷◌, Result, Err}
use Rattle.ogr_csv.specs.Inner.Left.{IsRecordFault}
use Rattle.ogr_csv.specs.Inner.Read.{IsAnswer}
use Rattle.ogr_csv.specs.Next.{IsFaultOf}
use Rattle.ogr_csv.specs.declared.fault.LayerFault.{LayerFault}
use Rattle.ogr_csv.specs.declared.fault.LayerFault.TheVariants.{NoHeader, NoGeometryColumn, NoField, BadGeometry, BadAttribute, NoMemory}
use Rattle.ogr_csv.specs.declared.feature.Feature.{Feature}

pub fault_again : (fault : LayerFault) → IsRecordFault fault → IsFaultOf (Err fault ∷ []) fault
fault_again NoHeader is = is
fault_again NoGeometryColumn is = is
fault_again NoField is = is
fault_again (BadGeometry at kind byte) is = ([], refl)
fault_again (BadAttribute at) is = ([], refl)
fault_again NoMemory is = tt

pub record_fault : (answer : Result Feature LayerFault) (fault : LayerFault) → IsAnswer answer (Err fault) → IsRecordFault fault
record_fault answer NoHeader is = is
record_fault answer NoGeometryColumn is = is
record_fault answer NoField is = is
record_fault answer (BadGeometry at kind byte) is = tt
record_fault answer (BadAttribute at) is = tt
record_fault answer NoMemory is = tt
