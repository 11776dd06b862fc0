-- The steps of check, each over what the one before it left.
use Rattle.std.specs.Prelude.{◌≡◌, ◌⊎◌, ℕ, List, Option, Some, IfSome, take}
use Rattle.rv_outside.specs.Files.{Files}
use Rattle.tool_words.specs.declared.job.CheckJob.{CheckJob}
use Rattle.tool_outcome.specs.Check.{checked_grid, layer_job}
use Rattle.tool_outcome.specs.Source.{text_of}
use Rattle.tool_outcome.specs.declared.fault.Fault.{Fault}
use Rattle.tool_outcome.specs.declared.fault.Fault.TheVariants.{ReadFault, WriteFault, NoMemory}
use Rattle.tool_outcome.specs.declared.fault.Role.TheVariants.{Source}
use Rattle.tool_run.specs.Check.{IsLayerOf, with_back, with_layer}

-- something that holds where the folder tells that the grid's file has the grid's text
abbrev pub OverGrid : CheckJob → Option Files → (Files → Type 0) → Type 0
OverGrid job told Holds = IfSome told (λ files. files layer_job.source ≡ Some (text_of (checked_grid job)) → Holds files)

-- something that holds where it tells that the layer's file has the grid's layer
abbrev pub OverLayer : CheckJob → Option Files → (Files → Type 0) → Type 0
OverLayer job told Holds =
    IfSome told (λ files. (layer : List ℕ) → IsLayerOf job layer → files layer_job.dest ≡ Some layer → Holds files)

-- the layer is there
abbrev pub HasLayer : CheckJob → Files → Option Files → Type 0
HasLayer job files now = (layer : List ℕ) × IsLayerOf job layer × (now ≡ Some (with_layer layer files))

-- or a first part of it, or nothing
abbrev pub HasLayerPart : CheckJob → Files → Option Files → Type 0
HasLayerPart job files now =
    (now ≡ Some files) ⊎ ((layer : List ℕ) × (n : ℕ) × IsLayerOf job layer × (now ≡ Some (with_layer (take n layer) files)))

-- a first part of the grid came back, or nothing
abbrev pub HasBackPart : CheckJob → Files → Option Files → Type 0
HasBackPart job files now =
    (now ≡ Some files) ⊎ ((n : ℕ) × (now ≡ Some (with_back job (take n (text_of (checked_grid job))) files)))

-- a fault of the outside, or want of memory
abbrev pub IsCutOff : Fault → Type 0
IsCutOff (ReadFault Source) = Unit {0}
IsCutOff WriteFault = Unit {0}
IsCutOff NoMemory = Unit {0}
IsCutOff fault = ⊥
