-- A decider of rasters: of grids whose rows are as many and as long as they say.
use Rattle.std.proofs.Common.{◌≡◌, ◌*◌, Bool, true, length}
use Rattle.std.specs.Prelude.{◌==◌, ◌&&◌, nat_le, nat_lt}
use Rattle.std.specs.List.{list_all}
use Rattle.std.proofs.lemmas.Bool.{and_parts, eqb-true, leb-true, ltb-true}
use Rattle.cell_base.specs.Raster.{Raster, IsRaster, most_cells}
use Rattle.cell_base.proofs.ListDeciders.{all_sound}

abbrev has_room : {T : Type 0} → Raster T → Bool
has_room grid = (nat_lt 0 grid.ncols && nat_lt 0 grid.nrows) && nat_le (grid.ncols * grid.nrows) most_cells

abbrev has_rows : {T : Type 0} → Raster T → Bool
has_rows grid = (length grid.rows == grid.nrows) && list_all (λ row. length row == grid.ncols) grid.rows

abbrev pub is_raster : {T : Type 0} → Raster T → Bool
is_raster grid = has_room grid && has_rows grid

pub is_raster_sound : {T : Type 0} (grid : Raster T) → is_raster grid ≡ true → IsRaster grid
is_raster_sound {T} grid is =
    let parts = and_parts (has_room grid) (has_rows grid) is in
    let room = and_parts (nat_lt 0 grid.ncols && nat_lt 0 grid.nrows) (nat_le (grid.ncols * grid.nrows) most_cells) parts.0 in
    let some = and_parts (nat_lt 0 grid.ncols) (nat_lt 0 grid.nrows) room.0 in
    let rows = and_parts (length grid.rows == grid.nrows) (list_all (λ row. length row == grid.ncols) grid.rows) parts.1 in
    record {
      some_cols = ltb-true 0 grid.ncols some.0;
      some_rows = ltb-true 0 grid.nrows some.1;
      small = leb-true (grid.ncols * grid.nrows) most_cells room.1;
      height = eqb-true (length grid.rows) grid.nrows rows.0;
      width = all_sound (λ row. length row ≡ grid.ncols) (λ row. length row == grid.ncols) (λ row same. eqb-true (length row) grid.ncols same) grid.rows rows.1;
    }
