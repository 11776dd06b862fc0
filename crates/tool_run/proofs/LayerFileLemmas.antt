-- The features that are read of a layer.
use Rattle.std.proofs.Common.{◌≡◌, ◌≢◌, ◌++◌, ◌∙◌, List, [], ◌∷◌, Result, Ok, Err, Option, Some, None, IfSome, refl, ap}
use Rattle.rv_outside.specs.Files.{Files}
use Rattle.ogr_csv.specs.Layer.{layer_of}
use Rattle.ogr_csv.specs.Next.{Answers, IsFaultOf}
use Rattle.ogr_csv.specs.declared.fault.LayerFault.{LayerFault}
use Rattle.ogr_csv.specs.declared.fault.LayerFault.TheVariants as layer
use Rattle.ogr_csv.specs.declared.feature.Feature.{Feature}
use Rattle.tool_words.specs.Words.{Text}
use Rattle.tool_outcome.specs.Fault.{of_layer}
use Rattle.tool_outcome.specs.Features.{features_in, features_of, in_front, layer_in}
use Rattle.tool_outcome.specs.Status.{IsDecided, status_of_fault}
use Rattle.tool_run.specs.Inner.LayerFile.{giving}

-- a refusal behind features
refused_behind : (features : List Feature) (fault : LayerFault) (rest : Answers) → features_of (giving features ++ Err fault ∷ rest) ≡ Err fault
refused_behind [] fault rest = refl
refused_behind (f ∷ features) fault rest = ap (in_front f) (refused_behind features fault rest)

all_given : (features : List Feature) → features_of (giving features ++ []) ≡ Ok features
all_given [] = refl
all_given (f ∷ features) = ap (in_front f) (all_given features)

-- one feature more
pub given_more : (features : List Feature) (f : Feature) (rest : Answers) → giving (features ++ f ∷ []) ++ rest ≡ giving features ++ Ok f ∷ rest
given_more [] f rest = refl
given_more (g ∷ features) f rest = ap (λ (answers : Answers). Ok g ∷ answers) (given_more features f rest)

first_refused : (features : List Feature) (fault : LayerFault) (left : Answers) → IsFaultOf left fault → fault ≢ layer.NoMemory → features_of (giving features ++ left) ≡ Err fault
first_refused features layer.NoHeader left is other = absurd is
first_refused features layer.NoGeometryColumn left is other = absurd is
first_refused features layer.NoField left is other = absurd is
first_refused features (layer.BadGeometry at kind byte) left is other = ap (λ (answers : Answers). features_of (giving features ++ answers)) is.1 ∙ refused_behind features (layer.BadGeometry at kind byte) is.0
first_refused features (layer.BadAttribute at) left is other = ap (λ (answers : Answers). features_of (giving features ++ answers)) is.1 ∙ refused_behind features (layer.BadAttribute at) is.0
first_refused features layer.NoMemory left is other = absurd (other refl)

-- a record is refused
pub next_refused : (read : Result Answers LayerFault) (features : List Feature) (fault : LayerFault) (left : Answers) → read ≡ Ok (giving features ++ left) → IsFaultOf left fault → fault ≢ layer.NoMemory → features_in read ≡ Err fault
next_refused read features fault left is refused other = ap features_in is ∙ first_refused features fault left refused other

-- all records are read
pub all_read : (read : Result Answers LayerFault) (features : List Feature) (left : Answers) → read ≡ Ok (giving features ++ left) → left ≡ [] → features_in read ≡ Ok features
all_read read features left is none = ap features_in is ∙ ap (λ (answers : Answers). features_of (giving features ++ answers)) none ∙ all_given features

-- the layer of a source
pub layer_read : (old : Option Files) (field : Option Text) (name text : Text) (features : List Feature) → IfSome old (λ files. files name ≡ Some text) → features_in (layer_of field text) ≡ Ok features → IfSome old (λ files. layer_in field (files name) ≡ Ok features)
layer_read None field name text features bytes is = tt
layer_read (Some files) field name text features bytes is = rw (bytes, is) refl

pub layer_refused : (old : Option Files) (field : Option Text) (name text : Text) (fault : LayerFault) → IfSome old (λ files. files name ≡ Some text) → (fault ≢ layer.NoMemory → features_in (layer_of field text) ≡ Err fault) → IsDecided (status_of_fault (of_layer fault)) → IfSome old (λ files. layer_in field (files name) ≡ Err (of_layer fault))
layer_refused None field name text fault bytes is decided = tt
layer_refused (Some files) field name text layer.NoMemory bytes is decided = absurd decided
layer_refused (Some files) field name text layer.NoHeader bytes is decided = rw (bytes, is (λ same. cc same)) refl
layer_refused (Some files) field name text layer.NoGeometryColumn bytes is decided = rw (bytes, is (λ same. cc same)) refl
layer_refused (Some files) field name text layer.NoField bytes is decided = rw (bytes, is (λ same. cc same)) refl
layer_refused (Some files) field name text (layer.BadGeometry at kind byte) bytes is decided = rw (bytes, is (λ same. cc same)) refl
layer_refused (Some files) field name text (layer.BadAttribute at) bytes is decided = rw (bytes, is (λ same. cc same)) refl
