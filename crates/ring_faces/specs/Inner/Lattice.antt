-- The corners of a grid as numbers: a column in the low bits of each, a row in those above.
use Rattle.std.specs.Prelude.{ℕ, ◌+◌, ◌*◌, ◌/◌, ◌%◌, ◌^◌, ◌<◌, ◌≤◌, List, length, map}
use Rattle.edge_trace.specs.Edge.{Corner}
use Rattle.edge_trace.specs.EdgeTable.{EdgeTable}
use Rattle.ring_faces.specs.Inner.Tables.{edge_at}

-- the corner of a number, where so many numbers stand for a row
abbrev pub corner_of : ℕ → ℕ → Corner
corner_of width number = (number / width, number % width)

abbrev pub corners_of : ℕ → List ℕ → List Corner
corners_of width numbers = map (corner_of width) numbers

-- the corner has a number of 32 bits
pub record HasNumber (width : ℕ) (corner : Corner) : Type 0 where
  pub narrow : corner.1 < width
  pub short : corner.0 * width + corner.1 < 2 ^ 32

-- and so has each corner where an edge of the table begins
abbrev pub HaveNumbers : ℕ → EdgeTable → Type 0
HaveNumbers width table = (i : ℕ) → i < length table.edges → HasNumber width (edge_at table i).0

-- wide enough for the corners of so many columns, and no wider than twice that
pub record IsWidth (ncols width : ℕ) : Type 0 where
  pub wide : ncols < width
  pub narrow : width ≤ 2 * ncols
