-- The cells of a grid: exactly as many tokens as there are places, each read as a cell. Source: ESRI ASCII grid.
use Rattle.std.specs.Prelude.{ℕ, nat_lt, List, length, take, Option, Some, Result, find, option_map, slice_get, if◌then◌else◌}
use Rattle.std.specs.List.{filter_map}
use Rattle.std.specs.Option.{option_or}
use Rattle.std.specs.Result.{is_err, result_ok}
use Rattle.cell_base.specs.declared.fault.CellFault.{CellFault}
use Rattle.asc_grid.specs.Tokens.{Token}
use Rattle.asc_grid.specs.declared.fault.GridKind.TheVariants.{BadCell, TooFewCells, TooManyCells}
use Rattle.asc_grid.specs.declared.fault.GridFault.{GridFault}
use Rattle.asc_grid.specs.declared.fault.GridFault.TheVariants.{At}

-- the first of so many tokens that isn't read as a cell
abbrev pub bad_cell : {T : Type 0} → (List ℕ → Result T CellFault) → ℕ → List Token → Option GridFault
bad_cell read count tokens = option_map (λ token. At BadCell token.line) (find (λ token. is_err (read token.text)) (take count tokens))

-- too few tokens, told on the text's last line, or the first one too many
abbrev pub wrong_number : ℕ → ℕ → List Token → Option GridFault
wrong_number count last tokens =
    if nat_lt (length tokens) count then Some (At TooFewCells last) else option_map (λ token. At TooManyCells token.line) (slice_get tokens count)

abbrev pub offence_of_cells : {T : Type 0} → (List ℕ → Result T CellFault) → ℕ → ℕ → List Token → Option GridFault
offence_of_cells read count last tokens = option_or (bad_cell read count tokens) (wrong_number count last tokens)

-- what the tokens are read as
abbrev pub cells_of : {T : Type 0} → (List ℕ → Result T CellFault) → List Token → List T
cells_of read tokens = filter_map (λ token. result_ok (read token.text)) tokens
