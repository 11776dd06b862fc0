use Rattle.std.proofs.Common.{◌≡◌, ◌++◌, Ok, length}
use Rattle.std.specs.Prelude.{option_map}
use Rattle.ogr_csv.specs.Layer.{layer_of}
use Rattle.tool_run.specs.Inner.LayerFile.{giving}
use Rattle.tool_run.proofs.layer_file.features_of.Given as goal

-- the features so far, and the answers that are left
abbrev pub invariant-records : goal.invariant-records
invariant-records l = record { read : layer_of (option_map (λ name. name.now) l.field) l.bytes ≡ Ok (giving l.features.items ++ l.reader) }

abbrev pub decreases-records : goal.decreases-records
decreases-records l = length l.reader
