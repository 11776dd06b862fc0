-- Why numbers make no frame: the first fault that they have. This project's own.
use Rattle.std.specs.Prelude.{◌*◌, pos, Bool, ◌==◌, ◌||◌, not, nat_lt, int_le, if◌then◌else◌}
use Rattle.std.specs.Prelude.{List, [], ◌∷◌, Option, Some, None}
use Rattle.std.specs.List.{list_all}
use Rattle.std.specs.Ordering.{int_eq}
use Rattle.fixed_coord.specs.Limits.{most_cells}
use Rattle.fixed_coord.specs.Coordinate.{is_coord}
use Rattle.geo_transform.specs.Layout.{Layout, right_edge, upper_edge}
use Rattle.geo_transform.specs.declared.extent.Extent.{Extent}
use Rattle.geo_transform.specs.declared.fault.FrameFault.{FrameFault}
use Rattle.geo_transform.specs.declared.fault.FrameFault.TheVariants.{BadSize, TooLarge, BadCell, NotSquare, OutOfRange}

abbrev pub has_no_cells : Layout → Bool
has_no_cells l = (l.ncols == 0) || (l.nrows == 0)

abbrev pub has_too_many_cells : Layout → Bool
has_too_many_cells l = nat_lt most_cells (l.ncols * l.nrows)

-- a cell has no width or no height
abbrev pub has_flat_cells : Layout → Bool
has_flat_cells l = int_le l.width (pos 0) || int_le l.height (pos 0)

abbrev pub has_oblong_cells : Layout → Bool
has_oblong_cells l = not (int_eq l.width l.height)

-- no cell's size and no edge is past 40,000,000
abbrev pub is_in_range : Layout → Bool
is_in_range l =
    list_all is_coord (l.width ∷ l.height ∷ l.left ∷ l.lower ∷ right_edge l ∷ upper_edge l ∷ [])

abbrev pub is_too_far : Layout → Bool
is_too_far l = not (is_in_range l)

-- the first fault whose test holds
abbrev pub first_that_holds : List (Bool × FrameFault) → Option FrameFault
first_that_holds [] = None
first_that_holds (f ∷ fs) = if f.0 then Some f.1 else first_that_holds fs

-- the first fault of these numbers
abbrev pub fault_of : Layout → Option FrameFault
fault_of l =
    first_that_holds (
    (has_no_cells l, BadSize)
    ∷ (has_too_many_cells l, TooLarge (l.ncols * l.nrows))
    ∷ (has_flat_cells l, BadCell)
    ∷ (has_oblong_cells l, NotSquare)
    ∷ (is_too_far l, OutOfRange)
    ∷ []
    )

-- an extent without width or height
abbrev pub is_empty : Extent → Bool
is_empty e = int_le e.xmax e.xmin || int_le e.ymax e.ymin
