-- The grid of a source. Source: this project's own.
use Rattle.std.specs.Prelude.{ℕ, ℤ, List, Option, Some, None, Ok, Err}
use Rattle.std.specs.declared.result.Result.{Result}
use Rattle.cell_base.specs.WholeCells.{least_int64, most_int64, whole_between}
use Rattle.cell_base.specs.declared.fault.CellFault.{CellFault}
use Rattle.asc_grid.specs.Canonical.{canonical_text, spelled}
use Rattle.asc_grid.specs.Grid.{grid_of}
use Rattle.asc_grid.specs.declared.grid.Asc.{Asc}
use Rattle.asc_grid.specs.declared.fault.GridFault.{GridFault}
use Rattle.tool_outcome.specs.declared.fault.Role.TheVariants.{Source}
use Rattle.tool_outcome.specs.declared.fault.Fault.{Fault}
use Rattle.tool_outcome.specs.declared.fault.Fault.TheVariants.{Missing, Grid}

-- a whole number of 64 bits that a text stands for
abbrev pub cell_of : List ℕ → Result ℤ CellFault
cell_of text = whole_between (λ n. n) least_int64 most_int64 text

abbrev pub grid_or_fault : {T : Type 0} → Result (Asc T) GridFault → Result (Asc T) Fault
grid_or_fault (Ok asc) = Ok asc
grid_or_fault (Err fault) = Err (Grid Source fault)

-- the grid of a source whose cells are read so, or why it has none: there is no file, or its text has an offence
abbrev pub source_by : {T : Type 0} → (List ℕ → Result T CellFault) → Option (List ℕ) → Result (Asc T) Fault
source_by read None = Err (Missing Source)
source_by read (Some bytes) = grid_or_fault (grid_of read bytes)

-- the grid of a source of whole numbers
abbrev pub source_of : Option (List ℕ) → Result (Asc ℤ) Fault
source_of file = source_by cell_of file

-- the canonical text of a grid of whole numbers
abbrev pub text_of : Asc ℤ → List ℕ
text_of asc = canonical_text (spelled (λ n. n) 0) asc
