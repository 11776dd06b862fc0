-- What the value of a keyword stands for, or what is wrong with it. Source: ESRI ASCII grid; the limits are this project's own.
use Rattle.std.specs.Prelude.{ℕ, ℤ, ◌&&◌, int_le, int_lt, List, Option, None, Result, Ok, Err, pos, unsigned_abs, if◌then◌else◌}
use Rattle.std.specs.Result.{result_err}
use Rattle.fixed_coord.specs.Coordinate.{coord_of}
use Rattle.fixed_coord.specs.Whole.{whole_of}
use Rattle.fixed_coord.specs.declared.fault.NumberFault.{NumberFault}
use Rattle.fixed_coord.specs.declared.fault.NumberFault.TheVariants as number
use Rattle.asc_grid.specs.declared.keyword.Group.{Group}
use Rattle.asc_grid.specs.declared.keyword.Group.TheVariants.{Columns, Rows, Left, Lower, Size, Nodata}
use Rattle.asc_grid.specs.declared.fault.GridKind.{GridKind}
use Rattle.asc_grid.specs.declared.fault.GridKind.TheVariants.{BadNumber, OutOfRange}

-- the greatest number of columns or rows that is read
abbrev pub most_count : ℕ
most_count = 2147483647

-- a whole number from 1 to the greatest
abbrev pub counted : Result ℤ NumberFault → Result ℕ GridKind
counted (Err fault) = Err BadNumber
counted (Ok n) = if int_le (pos 1) n && int_le n (pos most_count) then Ok (unsigned_abs n) else Err BadNumber

abbrev pub count_of : List ℕ → Result ℕ GridKind
count_of text = counted (whole_of text)

-- a coordinate
abbrev pub located : Result ℤ NumberFault → Result ℤ GridKind
located (Err number.OutOfRange) = Err OutOfRange
located (Err fault) = Err BadNumber
located (Ok units) = Ok units

abbrev pub position_of : List ℕ → Result ℤ GridKind
position_of text = located (coord_of text)

-- a coordinate above zero
abbrev pub above_zero : Result ℤ GridKind → Result ℤ GridKind
above_zero (Err kind) = Err kind
above_zero (Ok units) = if int_lt (pos 0) units then Ok units else Err BadNumber

abbrev pub size_of : List ℕ → Result ℤ GridKind
size_of text = above_zero (position_of text)

-- what is wrong with a value of this group; any token may stand for the nodata value
abbrev pub wrong_value : Group → List ℕ → Option GridKind
wrong_value Columns text = result_err (count_of text)
wrong_value Rows text = result_err (count_of text)
wrong_value Left text = result_err (position_of text)
wrong_value Lower text = result_err (position_of text)
wrong_value Size text = result_err (size_of text)
wrong_value Nodata text = None
