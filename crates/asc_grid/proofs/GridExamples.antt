-- Small grids and their offences, computed.
use Rattle.std.proofs.Common.{◌≡◌, ℕ, ℤ, List, Option, Some, Result, Ok, Err, refl}
use Rattle.std.specs.Prelude.{codes}
use Rattle.std.specs.Fmt.{digits}
use Rattle.std.specs.Result.{result_err}
use Rattle.cell_base.specs.WholeCells.{whole_between, least_int64, most_int64}
use Rattle.cell_base.specs.declared.fault.CellFault.{CellFault}
use Rattle.asc_grid.specs.Grid.{grid_of}
use Rattle.asc_grid.specs.Canonical.{canonical_text, header_text, spelled}
use Rattle.asc_grid.specs.Keyword.{keywords}
use Rattle.asc_grid.specs.declared.grid.Asc.{Asc}
use Rattle.asc_grid.specs.declared.fault.GridFault.{GridFault}
use Rattle.asc_grid.specs.declared.fault.GridFault.TheVariants.{At}
use Rattle.asc_grid.specs.declared.fault.GridKind.TheVariants.{UnknownKeyword, RepeatedKeyword, MissingKeyword, BadNumber, OutOfRange, TooLarge, BadCell, TooFewCells, TooManyCells}

-- cells of 64 bits
abbrev read : List ℕ → Result ℤ CellFault
read text = whole_between (λ n. n) least_int64 most_int64 text

abbrev text_of : Result (Asc ℤ) GridFault → Result (List ℕ) GridFault
text_of (Ok asc) = Ok (canonical_text (spelled (λ n. n) 0) asc)
text_of (Err fault) = Err fault

abbrev spelled_again : List ℕ → Result (List ℕ) GridFault
spelled_again text = text_of (grid_of read text)

as_gdal_writes_it : spelled_again (codes "NCOLS        3\nNROWS        2\nXLLCORNER    0.000000000000\nYLLCORNER    0.000000000000\nCELLSIZE     1.000000000000\n 1 1 2\n 1 2 2\n") ≡ Ok (codes "ncols 3\nnrows 2\nxllcorner 0\nyllcorner 0\ncellsize 1\n1 1 2\n1 2 2\n")
unfolding grid_of keywords header_text digits
as_gdal_writes_it = refl

-- centres are half a cell from the edges, rounded half away
centres : spelled_again (codes "ncols 1 nrows 1 xllcenter 0.5 yllcenter 0 cellsize 1 7") ≡ Ok (codes "ncols 1\nnrows 1\nxllcorner 0\nyllcorner -0.5\ncellsize 1\n7\n")
unfolding grid_of keywords header_text digits
centres = refl

smallest_cells : spelled_again (codes "ncols 1 nrows 1 xllcenter 0 yllcenter 0 cellsize 0.0000000001 7") ≡ Ok (codes "ncols 1\nnrows 1\nxllcorner -0.0000000001\nyllcorner -0.0000000001\ncellsize 0.0000000001\n7\n")
unfolding grid_of keywords header_text digits
smallest_cells = refl

-- the groups in any order; a nodata value that the type doesn't read is none
any_order : spelled_again (codes "cellsize 2 NODATA_VALUE nan yllCorner -1 nRows 1.0 xllcorner +3e1\tncols 2\n4\r\n-0") ≡ Ok (codes "ncols 2\nnrows 1\nxllcorner 30\nyllcorner -1\ncellsize 2\n4 0\n")
unfolding grid_of keywords header_text digits
any_order = refl

with_nodata : spelled_again (codes "ncols 1 nrows 1 xllcorner 0 yllcorner 0 cellsize 1 nodata_value -9999 5") ≡ Ok (codes "ncols 1\nnrows 1\nxllcorner 0\nyllcorner 0\ncellsize 1\nNODATA_value -9999\n5\n")
unfolding grid_of keywords header_text digits
with_nodata = refl

abbrev fault_in : List ℕ → Option GridFault
fault_in text = result_err (grid_of read text)

too_few : fault_in (codes "ncols 2\nnrows 2\nxllcorner 0\nyllcorner 0\ncellsize 1\n1 2\n3\n") ≡ Some (At TooFewCells 8)
unfolding grid_of keywords
too_few = refl

too_many : fault_in (codes "ncols 2\nnrows 2\nxllcorner 0\nyllcorner 0\ncellsize 1\n1 2\n3 4 5\n") ≡ Some (At TooManyCells 7)
unfolding grid_of keywords
too_many = refl

no_whole_cell : fault_in (codes "ncols 2\nnrows 2\nxllcorner 0\nyllcorner 0\ncellsize 1\n1 12.5\n3 4\n") ≡ Some (At BadCell 6)
unfolding grid_of keywords
no_whole_cell = refl

misspelled : fault_in (codes "nclos 2\nnrows 2\nxllcorner 0\nyllcorner 0\ncellsize 1\n1 2\n3 4\n") ≡ Some (At UnknownKeyword 1)
unfolding grid_of keywords
misspelled = refl

one_cell_above : fault_in (codes "ncols 16777217\nnrows 1\nxllcorner 0\nyllcorner 0\ncellsize 1\n1") ≡ Some (At (TooLarge 16777217) 6)
unfolding grid_of keywords
one_cell_above = refl

nothing : fault_in (codes "") ≡ Some (At MissingKeyword 1)
unfolding grid_of keywords
nothing = refl

blanks : fault_in (codes " \n\n ") ≡ Some (At MissingKeyword 3)
unfolding grid_of keywords
blanks = refl

repeated : fault_in (codes "ncols 2\nnrows 2\nNCOLS 2\n") ≡ Some (At RepeatedKeyword 3)
unfolding grid_of keywords
repeated = refl

edge_and_centre : fault_in (codes "xllcorner 2\nxllcenter 2\n") ≡ Some (At RepeatedKeyword 2)
unfolding grid_of keywords
edge_and_centre = refl

no_value : fault_in (codes "ncols 2\nnrows\n\n") ≡ Some (At BadNumber 2)
unfolding grid_of keywords
no_value = refl

no_number : fault_in (codes "ncols 2\nnrows\n\nx") ≡ Some (At BadNumber 4)
unfolding grid_of keywords
no_number = refl

no_columns : fault_in (codes "ncols 0\n") ≡ Some (At BadNumber 1)
unfolding grid_of keywords
no_columns = refl

half_a_column : fault_in (codes "ncols 2.5\n") ≡ Some (At BadNumber 1)
unfolding grid_of keywords
half_a_column = refl

flat_cells : fault_in (codes "cellsize 0.00000000004\n") ≡ Some (At BadNumber 1)
unfolding grid_of keywords
flat_cells = refl

far_corner : fault_in (codes "yllcorner 40000000.00000000005\n") ≡ Some (At OutOfRange 1)
unfolding grid_of keywords
far_corner = refl

far_edge : fault_in (codes "ncols 2 nrows 1 xllcorner 39999999 yllcorner 0 cellsize 1\n7 8") ≡ Some (At OutOfRange 2)
unfolding grid_of keywords
far_edge = refl

group_missing : fault_in (codes "ncols 2 nrows 1 xllcorner 0 cellsize 1\n7 8") ≡ Some (At MissingKeyword 2)
unfolding grid_of keywords
group_missing = refl

first_cell_is_a_word : fault_in (codes "ncols 1 nrows 1 xllcorner 0 yllcorner 0 cellsize 1\nnan") ≡ Some (At UnknownKeyword 2)
unfolding grid_of keywords
first_cell_is_a_word = refl
