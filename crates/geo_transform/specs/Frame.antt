-- The frame of some numbers, and which frames there are. This project's own.
use Rattle.std.specs.Prelude.{◌*◌, ◌<◌, ◌≤◌, ◌<ℤ◌, ◌+ℤ◌, ◌*ℤ◌, pos, if◌then◌else◌}
use Rattle.std.specs.Prelude.{Option, Some, None, Result, Ok, Err}
use Rattle.fixed_coord.specs.Limits.{most_cells}
use Rattle.fixed_coord.specs.Coordinate.{IsCoord}
use Rattle.geo_transform.specs.Layout.{Layout, square_layout}
use Rattle.geo_transform.specs.Fault.{fault_of, is_empty}
use Rattle.geo_transform.specs.declared.extent.Extent.{Extent}
use Rattle.geo_transform.specs.declared.frame.Frame.{Frame}
use Rattle.geo_transform.specs.declared.fault.FrameFault.{FrameFault}
use Rattle.geo_transform.specs.declared.fault.FrameFault.TheVariants.{BadSize}

-- the numbers of a frame that `Frame::make` accepts
pub record IsFrame (f : Frame) : Type 0 where
  pub some_cols : 0 < f.ncols
  pub some_rows : 0 < f.nrows
  pub few_cells : f.ncols * f.nrows ≤ most_cells
  pub some_size : pos 0 <ℤ f.cell
  pub size : IsCoord f.cell
  pub left : IsCoord f.xll
  pub lower : IsCoord f.yll
  pub right : IsCoord (f.xll +ℤ pos f.ncols *ℤ f.cell)
  pub upper : IsCoord (f.yll +ℤ pos f.nrows *ℤ f.cell)

-- the numbers of a frame
abbrev pub layout_of : Frame → Layout
layout_of f = square_layout f.ncols f.nrows f.xll f.yll f.cell

-- the frame of these numbers
abbrev pub frame_of : Layout → Frame
frame_of l = record { ncols = l.ncols; nrows = l.nrows; xll = l.left; yll = l.lower; cell = l.width }

-- the frame, unless there is a fault
abbrev pub unless : Option FrameFault → Frame → Result Frame FrameFault
unless None frame = Ok frame
unless (Some fault) frame = Err fault

-- the frame of these numbers, or their first fault
abbrev pub frame_or_fault : Layout → Result Frame FrameFault
frame_or_fault l = unless (fault_of l) (frame_of l)

-- the same of an extent that is cut, which is of bad size too where it is empty
abbrev pub frame_or_fault_in : Extent → Layout → Result Frame FrameFault
frame_or_fault_in e l = if is_empty e then Err BadSize else frame_or_fault l
