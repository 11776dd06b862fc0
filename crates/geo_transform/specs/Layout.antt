-- The numbers that a frame is made of, in units of 10^-10. This project's own.
use Rattle.std.specs.Prelude.{ℕ, ℤ, ◌-ℤ◌, ◌+ℤ◌, ◌*ℤ◌, max, pos, unsigned_abs}
use Rattle.fixed_coord.specs.Round.{round_half_up, round_half_away}
use Rattle.geo_transform.specs.declared.extent.Extent.{Extent}

-- how many columns and rows, the left and the lower edge, and the width and the height of a cell
pub record Layout : Type 0 where
  pub ncols : ℕ
  pub nrows : ℕ
  pub left : ℤ
  pub lower : ℤ
  pub width : ℤ
  pub height : ℤ

-- the right and the upper edge
abbrev pub right_edge : Layout → ℤ
right_edge l = l.left +ℤ pos l.ncols *ℤ l.width

abbrev pub upper_edge : Layout → ℤ
upper_edge l = l.lower +ℤ pos l.nrows *ℤ l.height

-- so many columns and rows of square cells, from a left and a lower edge
abbrev pub square_layout : ℕ → ℕ → ℤ → ℤ → ℤ → Layout
square_layout ncols nrows left lower cell =
    record { ncols = ncols; nrows = nrows; left = left; lower = lower; width = cell; height = cell }

-- an extent cut into so many columns and rows: the cells' sizes rounded half away, from its left and its upper edge
abbrev pub layout_by_size : Extent → ℕ → ℕ → Layout
layout_by_size e ncols nrows =
    let height = round_half_away (e.ymax -ℤ e.ymin) nrows in
    record {
      ncols = ncols;
      nrows = nrows;
      left = e.xmin;
      lower = e.ymax -ℤ pos nrows *ℤ height;
      width = round_half_away (e.xmax -ℤ e.xmin) ncols;
      height = height;
    }

-- how many steps go into a length: rounded half up, and at least one
abbrev pub steps_in : ℤ → ℤ → ℕ
steps_in length step = max 1 (round_half_up (unsigned_abs length) (unsigned_abs step))

-- an extent cut into cells of this width and height, from its left and its upper edge
abbrev pub layout_by_cell : Extent → ℤ → ℤ → Layout
layout_by_cell e width height =
    let nrows = steps_in (e.ymax -ℤ e.ymin) height in
    record {
      ncols = steps_in (e.xmax -ℤ e.xmin) width;
      nrows = nrows;
      left = e.xmin;
      lower = e.ymax -ℤ pos nrows *ℤ height;
      width = width;
      height = height;
    }
