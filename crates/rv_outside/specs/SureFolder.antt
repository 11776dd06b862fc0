-- What a folder in memory holds whose calls never fail.
use Rattle.std.specs.Prelude.{Some}
use Rattle.rv_outside.specs.Files.{Files}
use Rattle.rv_outside.specs.Folder.{FolderState}
use Rattle.rv_outside.specs.FileMap.{files_in}
use Rattle.rv_outside.specs.declared.sure_folder.SureFolder.{SureFolder}

-- its files
abbrev pub sure_files : SureFolder → Files
sure_files folder = files_in folder.files

-- what it shows of itself: neither a read nor a write fails
abbrev pub sure_state : SureFolder → FolderState
sure_state folder = record {
  files = Some (sure_files folder);
  read_faults = 0;
  write_faults = 0;
  missing = folder.missing;
}
