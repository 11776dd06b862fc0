use Rattle.tool_outcome.specs.Contour.{IsRangeOf}
use Rattle.tool_run.specs.Inner.Ranges.{IsValueBefore}
use Rattle.tool_run.proofs.contours.range_of.Given as goal

-- the range of the cells before this one
abbrev pub invariant-rows : goal.invariant-rows
invariant-rows l = IsRangeOf (IsValueBefore l.cells l.nodata (l.row, 0)) l.range

abbrev pub invariant-cols : goal.invariant-cols
invariant-cols l = IsRangeOf (IsValueBefore l.cells l.nodata (l.row, l.col)) l.range
