-- The grid of a text, or its first offence. Source: ESRI ASCII grid.
use Rattle.std.specs.Prelude.{ℕ, ◌*◌, List, [], Option, Some, None, Result, Ok, Err, option_map}
use Rattle.std.specs.Option.{option_or}
use Rattle.cell_base.specs.Raster.{raster_of}
use Rattle.cell_base.specs.declared.fault.CellFault.{CellFault}
use Rattle.geo_transform.specs.Frame.{frame_of}
use Rattle.geo_transform.specs.Layout.{Layout}
use Rattle.asc_grid.specs.Tokens.{last_line, tokens_of}
use Rattle.asc_grid.specs.Header.{Header, end_line, header_of, layout_of, nodata_of, values_of}
use Rattle.asc_grid.specs.Offence.{offence_of_pairs, wrong_end}
use Rattle.asc_grid.specs.Cells.{cells_of, offence_of_cells}
use Rattle.asc_grid.specs.declared.fault.GridFault.{GridFault}
use Rattle.asc_grid.specs.declared.fault.GridFault.TheVariants.{At}
use Rattle.asc_grid.specs.declared.grid.Asc.{Asc}

-- the first offence: of the pairs, at the header's end, of the cells
abbrev pub first_offence : {T : Type 0} → (List ℕ → Result T CellFault) → ℕ → Header → Option GridFault
first_offence read last header =
    let values = values_of read header.pairs in
    let layout : Layout = layout_of values in
    option_or (offence_of_pairs [] header.pairs) (
    option_or (option_map (λ kind. At kind (end_line last header.cells)) (wrong_end values)) (
    offence_of_cells read (layout.ncols * layout.nrows) last header.cells))

-- the grid of a header without offence
abbrev pub grid_in : {T : Type 0} → (List ℕ → Result T CellFault) → Header → Asc T
grid_in read header =
    let values = values_of read header.pairs in
    let layout : Layout = layout_of values in
    record {
      frame = frame_of layout;
      nodata = nodata_of values;
      cells = raster_of layout.ncols layout.nrows (cells_of read header.cells);
    }

abbrev pub unless : {A : Type 0} → Option GridFault → A → Result A GridFault
unless None a = Ok a
unless (Some fault) a = Err fault

-- the grid of a text whose cells are read so, or its first offence
unfoldable pub grid_of : {T : Type 0} → (List ℕ → Result T CellFault) → List ℕ → Result (Asc T) GridFault
grid_of read text =
    let header : Header = header_of (tokens_of text) in
    unless (first_offence read (last_line text) header) (grid_in read header)
