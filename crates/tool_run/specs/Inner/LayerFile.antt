-- What is read of a layer.
use Rattle.std.specs.Prelude.{◌≡◌, ◌≢◌, List, Ok, Err, map}
use Rattle.std.specs.declared.result.Result.{Result}
use Rattle.std.specs.declared.vec.Vec.{Vec}
use Rattle.std.specs.declared.alloc.Global.{Global}
use Rattle.ogr_csv.specs.declared.fault.LayerFault.{LayerFault}
use Rattle.ogr_csv.specs.declared.fault.LayerFault.TheVariants as layer
use Rattle.ogr_csv.specs.declared.feature.Feature.{Feature}
use Rattle.ogr_csv.specs.Next.{Answers}
use Rattle.tool_outcome.specs.declared.fault.Fault.{Fault}
use Rattle.tool_outcome.specs.declared.fault.Fault.TheVariants.{Missing, ReadFault, Layer, NoMemory}
use Rattle.tool_outcome.specs.declared.fault.Role.TheVariants.{Source}

-- the answers that give these features
abbrev pub giving : List Feature → Answers
giving features = map Ok features

-- the features of a text, or its refusal, unless memory ran out
abbrev pub ReadsFeatures : Result (List Feature) LayerFault → Result (Vec Feature Global) LayerFault → Type 0
ReadsFeatures features (Ok read) = features ≡ Ok read.items
ReadsFeatures features (Err fault) = fault ≢ layer.NoMemory → features ≡ Err fault

-- the features of a source, or its fault
abbrev pub HasFeatures : Result (List Feature) Fault → Result (Vec Feature Global) Fault → Type 0
HasFeatures features (Ok read) = features ≡ Ok read.items
HasFeatures features (Err fault) = features ≡ Err fault

-- a fault that a layer can have; want of memory is `NoMemory` alone
abbrev pub IsLayerFault : Fault → Type 0
IsLayerFault (Missing Source) = Unit {0}
IsLayerFault (ReadFault Source) = Unit {0}
IsLayerFault (Layer layer.NoMemory) = ⊥
IsLayerFault (Layer fault) = Unit {0}
IsLayerFault NoMemory = Unit {0}
IsLayerFault fault = ⊥
