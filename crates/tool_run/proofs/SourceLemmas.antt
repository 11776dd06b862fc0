-- What is read of a source.
use Rattle.std.proofs.Common.{◌≡◌, ◌≢◌, ℕ, List, Option, Some, None, Result, Ok, Err, IfSome, refl}
use Rattle.rv_outside.specs.Files.{Files}
use Rattle.cell_base.specs.declared.fault.CellFault.{CellFault}
use Rattle.asc_grid.specs.Grid.{grid_of}
use Rattle.asc_grid.specs.declared.grid.Asc.{Asc}
use Rattle.asc_grid.specs.declared.fault.GridFault.{GridFault}
use Rattle.asc_grid.specs.declared.fault.GridFault.TheVariants.{At, NoMemory}
use Rattle.tool_outcome.specs.Fault.{of_grid}
use Rattle.tool_outcome.specs.Source.{source_by}
use Rattle.tool_outcome.specs.Status.{IsDecided, status_of_fault}

pub source_read : {T : Type 0} (read : List ℕ → Result T CellFault) (old : Option Files) (name text : List ℕ) (asc : Asc T) → IfSome old (λ files. files name ≡ Some text) → grid_of read text ≡ Ok asc → IfSome old (λ files. Ok asc ≡ source_by read (files name))
source_read read None name text asc bytes is = tt
source_read read (Some files) name text asc bytes is = rw (bytes, is) refl

pub source_refused : {T : Type 0} (read : List ℕ → Result T CellFault) (old : Option Files) (name text : List ℕ) (fault : GridFault) → IfSome old (λ files. files name ≡ Some text) → (fault ≢ NoMemory → grid_of read text ≡ Err fault) → IsDecided (status_of_fault (of_grid fault)) → IfSome old (λ files. Err (of_grid fault) ≡ source_by read (files name))
source_refused read None name text fault bytes is decided = tt
source_refused read (Some files) name text NoMemory bytes is decided = absurd decided
source_refused read (Some files) name text (At kind line) bytes is decided = rw (bytes, is (λ same. cc same)) refl
