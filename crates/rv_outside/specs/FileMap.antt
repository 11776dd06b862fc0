-- Files in an ordered map.
use Rattle.std.specs.Prelude.{option_map}
use Rattle.std.specs.BTreeMap.{get_by_text}
use Rattle.rv_outside.specs.Files.{Files}
use Rattle.rv_outside.specs.declared.file_map.FileMap.{FileMap}

-- what each name stands for in the map
abbrev pub files_in : FileMap → Files
files_in map = λ name. option_map (λ v. v.items) (get_by_text map.files name)
