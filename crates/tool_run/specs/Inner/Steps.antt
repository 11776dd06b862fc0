-- What the steps of a tool leave behind: the source that is read, its cells, and the destination that is written.
use Rattle.std.specs.Prelude.{◌≡◌, ◌⊎◌, ℕ, ℤ, List, [], Option, take, codes, decimal}
use Rattle.rv_outside.specs.Files.{Files, Becomes, with_file}
use Rattle.tool_outcome.specs.declared.fault.Fault.{Fault}
use Rattle.tool_outcome.specs.declared.fault.Fault.TheVariants.{Missing, ReadFault, Grid, WriteFault, NoMemory}
use Rattle.tool_outcome.specs.declared.fault.Role.TheVariants.{Source}
use Rattle.asc_grid.specs.declared.fault.GridFault.TheVariants as grid
use Rattle.asc_grid.specs.declared.fault.GridKind.{GridKind}
use Rattle.asc_grid.specs.declared.fault.GridKind.TheVariants.{TooLarge}
use Rattle.asc_grid.specs.declared.grid.Asc.{Asc}
use Rattle.geo_transform.specs.Frame.{IsFrame}
use Rattle.tool_outcome.specs.Message.{grid_text}

-- a fault that a destination can have
abbrev pub IsWriteFault : Fault → Type 0
IsWriteFault WriteFault = Unit {0}
IsWriteFault NoMemory = Unit {0}
IsWriteFault fault = ⊥

-- the files are as before, or the file of this name holds a first part of the text
abbrev pub IsPartWritten : Option Files → Option Files → List ℕ → List ℕ → Type 0
IsPartWritten old new name text = (new ≡ old) ⊎ ((n : ℕ) × Becomes old new (with_file name (take n text)))

-- the frame and the nodata value stay
pub record KeepsRest (old new : Asc ℤ) : Type 0 where
  pub frame : new.frame ≡ old.frame
  pub nodata : new.nodata ≡ old.nodata

-- a fault that a source can have; want of memory is `NoMemory` alone
abbrev pub IsSourceFault : Fault → Type 0
IsSourceFault (Missing Source) = Unit {0}
IsSourceFault (ReadFault Source) = Unit {0}
IsSourceFault (Grid Source (grid.At kind line)) = Unit {0}
IsSourceFault NoMemory = Unit {0}
IsSourceFault fault = ⊥

-- what is wrong with a grid, in two parts: words, and the number of cells where there are too many

abbrev pub grid_words : GridKind → List ℕ
grid_words (TooLarge cells) = codes "too large: "
grid_words kind = grid_text kind

abbrev pub grid_number : GridKind → List ℕ
grid_number (TooLarge cells) = decimal cells
grid_number kind = []

-- a grid over a frame of its size
pub record IsOverFrame {T : Type 0} (asc : Asc T) : Type 0 where
  pub frame : IsFrame asc.frame
  pub ncols : asc.cells.ncols ≡ asc.frame.ncols
  pub nrows : asc.cells.nrows ≡ asc.frame.nrows
