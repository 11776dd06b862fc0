-- The canonical text of a grid. Source: ESRI ASCII grid; the spelling is this project's own.
use Rattle.std.specs.Prelude.{ℕ, ℤ, List, [], ◌∷◌, ◌++◌, Option, map, codes, pos}
use Rattle.std.specs.List.{flat_map, join_with_byte}
use Rattle.std.specs.Option.{option_map_or}
use Rattle.fixed_coord.specs.Coordinate.{coord_places}
use Rattle.fixed_coord.specs.Shortest.{shortest}
use Rattle.asc_grid.specs.declared.grid.Asc.{Asc}

-- a cell's text: the shortest of its units
abbrev pub spelled : {T : Type 0} → (T → ℤ) → ℕ → T → List ℕ
spelled units places v = shortest (units v) places

-- a keyword, a space, the value and a line end
abbrev pub header_line : List ℕ → List ℕ → List ℕ
header_line keyword value = keyword ++ 32 ∷ (value ++ 10 ∷ [])

-- the line of the nodata value, where there is one
abbrev pub nodata_line : {T : Type 0} → (T → List ℕ) → Option T → List ℕ
nodata_line spell nodata = option_map_or (λ value. header_line (codes "NODATA_value") (spell value)) nodata []

-- the lines of the header
unfoldable pub header_text : {T : Type 0} → (T → List ℕ) → Asc T → List ℕ
header_text spell asc =
    header_line (codes "ncols") (shortest (pos asc.frame.ncols) 0)
    ++ header_line (codes "nrows") (shortest (pos asc.frame.nrows) 0)
    ++ header_line (codes "xllcorner") (shortest asc.frame.xll coord_places)
    ++ header_line (codes "yllcorner") (shortest asc.frame.yll coord_places)
    ++ header_line (codes "cellsize") (shortest asc.frame.cell coord_places)
    ++ nodata_line spell asc.nodata

-- the cells of a row with a space between each two, and a line end
abbrev pub row_text : {T : Type 0} → (T → List ℕ) → List T → List ℕ
row_text spell row = join_with_byte 32 (map spell row) ++ 10 ∷ []

-- the header, and a line for each row from the top, where cells are spelled so
abbrev pub canonical_text : {T : Type 0} → (T → List ℕ) → Asc T → List ℕ
canonical_text spell asc = header_text spell asc ++ flat_map (row_text spell) asc.cells.rows
