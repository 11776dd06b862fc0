-- The header of a canonical text.
use Rattle.std.proofs.Common.{◌≡◌, ℕ, ℤ, ◌<◌, ◌≤◌, ◌<ℤ◌, true, false, List, [], ◌∷◌, Option, Some, None, Result, Ok, pos, unsigned_abs, arith, refl, ap, ◌∙◌}
use Rattle.std.specs.Prelude.{codes, int_le, int_lt}
use Rattle.std.specs.Result.{result_ok}
use Rattle.std.proofs.lemmas.Int.{ints}
use Rattle.fixed_coord.specs.Coordinate.{IsCoord, coord_of, coord_places, is_coord}
use Rattle.fixed_coord.specs.Limits.{largest}
use Rattle.fixed_coord.specs.Shortest.{shortest}
use Rattle.fixed_coord.specs.Whole.{whole_of}
use Rattle.fixed_coord.proofs.ShortestLemmas.{decimal_reads, shortest_reads, shortest_whole}
use Rattle.cell_base.specs.declared.fault.CellFault.{CellFault}
use Rattle.asc_grid.specs.Keyword.{keywords}
use Rattle.asc_grid.specs.Header.{Pair, values_of}
use Rattle.asc_grid.specs.Offence.{offence_of_pairs}
use Rattle.asc_grid.specs.Value.{count_of, counted, most_count, position_of, size_of}
use Rattle.asc_grid.specs.declared.header.HeaderValues.{HeaderValues}

-- the pair of a keyword and a value on a line
abbrev pub pair_on : ℕ → List ℕ → List ℕ → Pair
pair_on line keyword value = record { keyword = record { text = keyword; line = line }; value = Some (record { text = value; line = line }) }

-- the pairs of a canonical header, whose values have these texts
abbrev pub frame_pairs : (columns rows left lower size : List ℕ) → List Pair → List Pair
frame_pairs columns rows left lower size more =
    pair_on 1 (codes "ncols") columns ∷ pair_on 2 (codes "nrows") rows ∷ pair_on 3 (codes "xllcorner") left
    ∷ pair_on 4 (codes "yllcorner") lower ∷ pair_on 5 (codes "cellsize") size ∷ more

-- what the values' texts stand for
pub record AreRead (columns rows left lower size : List ℕ) (ncols nrows : ℕ) (xll yll cell : ℤ) : Type 0 where
  pub columns_are : count_of columns ≡ Ok ncols
  pub rows_are : count_of rows ≡ Ok nrows
  pub left_is : position_of left ≡ Ok xll
  pub lower_is : position_of lower ≡ Ok yll
  pub size_is : size_of size ≡ Ok cell

pub sound_pairs : (columns rows left lower size : List ℕ) (ncols nrows : ℕ) (xll yll cell : ℤ) → AreRead columns rows left lower size ncols nrows xll yll cell → offence_of_pairs [] (frame_pairs columns rows left lower size []) ≡ None
unfolding keywords
sound_pairs columns rows left lower size ncols nrows xll yll cell read = rw (read.columns_are, read.rows_are, read.left_is, read.lower_is, read.size_is) refl

pub sound_nodata_pairs : (columns rows left lower size nodata : List ℕ) (ncols nrows : ℕ) (xll yll cell : ℤ) → AreRead columns rows left lower size ncols nrows xll yll cell → offence_of_pairs [] (frame_pairs columns rows left lower size (pair_on 6 (codes "NODATA_value") nodata ∷ [])) ≡ None
unfolding keywords
sound_nodata_pairs columns rows left lower size nodata ncols nrows xll yll cell read = rw (read.columns_are, read.rows_are, read.left_is, read.lower_is, read.size_is) refl

abbrev pub frame_values : {T : Type 0} → ℕ → ℕ → ℤ → ℤ → ℤ → Option (Option T) → HeaderValues T
frame_values ncols nrows xll yll cell nodata = record {
  columns = Some ncols;
  rows = Some nrows;
  left = Some (record { at = xll; centre = false });
  lower = Some (record { at = yll; centre = false });
  size = Some cell;
  nodata = nodata;
}

pub values_pairs : {T : Type 0} (parse : List ℕ → Result T CellFault) (columns rows left lower size : List ℕ) (ncols nrows : ℕ) (xll yll cell : ℤ) → AreRead columns rows left lower size ncols nrows xll yll cell → values_of parse (frame_pairs columns rows left lower size []) ≡ frame_values ncols nrows xll yll cell None
unfolding keywords
values_pairs parse columns rows left lower size ncols nrows xll yll cell read = rw (read.columns_are, read.rows_are, read.left_is, read.lower_is, read.size_is) refl

pub values_nodata_pairs : {T : Type 0} (parse : List ℕ → Result T CellFault) (columns rows left lower size nodata : List ℕ) (ncols nrows : ℕ) (xll yll cell : ℤ) → AreRead columns rows left lower size ncols nrows xll yll cell → values_of parse (frame_pairs columns rows left lower size (pair_on 6 (codes "NODATA_value") nodata ∷ [])) ≡ frame_values ncols nrows xll yll cell (Some (result_ok (parse nodata)))
unfolding keywords
values_nodata_pairs parse columns rows left lower size nodata ncols nrows xll yll cell read = rw (read.columns_are, read.rows_are, read.left_is, read.lower_is, read.size_is) refl

-- the shortest texts of a frame's numbers are read as these
counted_self : (n : ℕ) → 0 < n → n ≤ most_count → counted (Ok (pos n)) ≡ Ok n
counted_self n some few =
    let low : int_le (pos 1) (pos n) ≡ true = grind (arith, ints) in
    let high : int_le (pos n) (pos most_count) ≡ true = grind (arith, ints) in
    rw (low, high) refl

pub count_reads : (n : ℕ) → 0 < n → n ≤ most_count → count_of (shortest (pos n) 0) ≡ Ok n
count_reads n some few = ap counted (ap whole_of (shortest_whole (pos n)) ∙ decimal_reads (pos n) (omega (arith, few))) ∙ counted_self n some few

in_range : (z : ℤ) → IsCoord z → is_coord z ≡ true
in_range z coord = grind (arith, ints, coord.low, coord.high)

pub small_coord : (z : ℤ) → IsCoord z → unsigned_abs z ≤ largest
small_coord z coord = omega (arith, ints, coord.low, coord.high)

pub coord_reads : (z : ℤ) → IsCoord z → coord_of (shortest z coord_places) ≡ Ok z
coord_reads z coord = rw (shortest_reads z coord_places (small_coord z coord)) (rw (in_range z coord) refl)

pub position_reads : (z : ℤ) → IsCoord z → position_of (shortest z coord_places) ≡ Ok z
position_reads z coord = rw (coord_reads z coord) refl

pub size_reads : (z : ℤ) → IsCoord z → pos 0 <ℤ z → size_of (shortest z coord_places) ≡ Ok z
size_reads z coord some =
    let above : int_lt (pos 0) z ≡ true = grind (arith, ints, some) in
    rw (coord_reads z coord) (rw above refl)
