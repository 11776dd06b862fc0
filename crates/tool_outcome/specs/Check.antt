-- What `check` makes and prints. Source: this project's own.
use Rattle.std.specs.Prelude.{◌≡◌, ℕ, zero, suc, ℤ, ◌+◌, ◌*◌, ◌/◌, ◌%◌, ◌^◌, nat_lt, pos, List, ◌++◌, codes, decimal, length, None, Ok, Err, if◌then◌else◌}
use Rattle.std.specs.declared.result.Result.{Result}
use Rattle.cell_base.specs.Raster.{Place, most_cells}
use Rattle.cell_base.specs.Steps.{four}
use Rattle.geo_transform.specs.declared.frame.Frame.{Frame}
use Rattle.geo_transform.specs.declared.fault.FrameFault.TheVariants.{TooLarge}
use Rattle.asc_grid.specs.declared.grid.Asc.{Asc}
use Rattle.tool_words.specs.declared.job.CheckJob.{CheckJob}
use Rattle.tool_words.specs.declared.job.MaskFrom.TheVariants.{Nodata}
use Rattle.tool_words.specs.declared.job.PolygonizeJob.{PolygonizeJob}
use Rattle.tool_outcome.specs.Answer.{Answer, AnswersBy}
use Rattle.tool_outcome.specs.Polygonize.{IsPolygonizeText}
use Rattle.tool_outcome.specs.Rasterize.{raster_by}
use Rattle.tool_outcome.specs.declared.fault.Fault.{Fault}
use Rattle.tool_outcome.specs.declared.fault.Fault.TheVariants.{Frame as FrameOf}

-- the number that the generator draws behind one
abbrev pub next_number : ℕ → ℕ
next_number x = (1103515245 * x + 12345) % 2 ^ 31

-- the number that it draws in a turn, counted from 1; it begins with the seed
abbrev pub number_in_turn : ℕ → ℕ → ℕ
number_in_turn seed zero = seed
number_in_turn seed (suc turn) = next_number (number_in_turn seed turn)

-- the value of the cell of this number in row order, counted from 0: of the number in its turn all but the low 16 bits,
-- modulo the number of values
abbrev pub drawn_value : CheckJob → ℕ → ℤ
drawn_value job i = pos (number_in_turn job.seed (suc i) / 65536 % job.values)

-- a frame of so many columns and rows from the corner 0 0, with cells of size 1
abbrev pub checked_frame : CheckJob → Frame
checked_frame job = record { ncols = job.width; nrows = job.height; xll = pos 0; yll = pos 0; cell = pos (10 ^ 10) }

-- the grid, all of whose cells are valid
abbrev pub checked_grid : CheckJob → Asc ℤ
checked_grid job = record {
  frame = checked_frame job;
  nodata = None;
  cells = raster_by job.width job.height (λ cell. drawn_value job (cell.0 * job.width + cell.1));
}

-- its layer's job: under side steps, the values in the field DN
abbrev pub layer_job : PolygonizeJob
layer_job = record {
  source = codes "grid.asc";
  dest = codes "layer.csv";
  field = codes "DN";
  eight = four;
  mask = Nodata;
}

-- a line of what is counted and its number
abbrev pub counted_line : List ℕ → ℕ → List ℕ
counted_line counted number = counted ++ decimal number ++ codes "\n"

-- how many cells, polygons and bytes of layer there are, and that the same grid came back
abbrev pub check_lines : ℕ → ℕ → ℕ → List ℕ
check_lines cells polygons bytes =
    counted_line (codes "cells ") cells
    ++ counted_line (codes "polygons ") polygons
    ++ counted_line (codes "layer ") bytes
    ++ codes "same\n"

-- the lines of a grid's polygonize text
pub record IsCheckText (job : CheckJob) (asc : Asc ℤ) (text : List ℕ) : Type 0 where
  pub layer : List ℕ
  pub is_layer : IsPolygonizeText layer_job asc layer
  pub is : text ≡ check_lines (job.width * job.height) (length is_layer.regions.firsts) (length layer)

-- the grid, unless it has too many cells
abbrev pub grid_to_check : CheckJob → Result (Asc ℤ) Fault
grid_to_check job =
    if nat_lt most_cells (job.width * job.height) then Err (FrameOf (TooLarge (job.width * job.height)))
    else Ok (checked_grid job)

-- the answer of check: the text goes to standard output, and the files stay
abbrev pub IsCheckAnswer : CheckJob → Answer → Type 0
IsCheckAnswer job answer = AnswersBy (IsCheckText job) (grid_to_check job) answer
