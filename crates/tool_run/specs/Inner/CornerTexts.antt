-- The texts of the coordinates of corners that are kept.
use Rattle.std.specs.Prelude.{◌≡◌, ℕ, ◌≤◌, ◌-◌, ◌^◌, List, All, length}
use Rattle.fixed_coord.specs.Coordinate.{coord_places}
use Rattle.fixed_coord.specs.Shortest.{shortest}
use Rattle.geo_transform.specs.Corner.{corner_of}
use Rattle.geo_transform.specs.Frame.{IsFrame}
use Rattle.geo_transform.specs.declared.frame.Frame.{Frame}
use Rattle.tool_run.specs.declared.corner_texts.KeptText.{KeptText}

-- the text of the x of a column's corners
abbrev pub x_text : Frame → ℕ → List ℕ
x_text frame col = shortest (corner_of frame 0 col).0 coord_places

-- the text of the y of a row's corners
abbrev pub y_text : Frame → ℕ → List ℕ
y_text frame row = shortest (corner_of frame row 0).1 coord_places

-- a member that belongs to no column and no row
abbrev pub HasNoText : KeptText → Type 0
HasNoText member = member.at ≡ 2 ^ 32 - 1

-- a member that belongs to a number up to this one has that number's text
abbrev pub HasTextOf : (ℕ → List ℕ) → ℕ → KeptText → Type 0
HasTextOf text most member = member.at ≤ most → member.text.items ≡ text member.at

-- so many texts of columns and of rows
pub record AreKept (frame : Frame) (columns rows : List KeptText) : Type 0 where
  pub over : IsFrame frame
  pub wide : length columns ≡ 4096
  pub high : length rows ≡ 4096
  pub columns_are : All (HasTextOf (x_text frame) frame.ncols) columns
  pub rows_are : All (HasTextOf (y_text frame) frame.nrows) rows
