-- What a table of edges keeps.
use Rattle.std.specs.Prelude.{◌≡◌, ℕ, ◌+◌, ◌*◌, ◌/◌, ◌%◌, ◌^◌, ◌<◌, ◌≤◌, Bool, List, Some, map, length, nat_le, slice_get}
use Rattle.cell_base.specs.Raster.{Place}
use Rattle.edge_trace.specs.Edge.{Corner}
use Rattle.edge_trace.specs.EdgeTable.{EdgeTable}
use Rattle.edge_trace.specs.Walk.{EdgeWalks}
use Rattle.edge_trace.specs.Inner.Sides.{cell_of, edge_at, edge_of}
use Rattle.edge_trace.specs.declared.side_numbers.Side.{Side}
use Rattle.edge_trace.specs.declared.table.Stride.{Stride}

-- the numbers of the edges to which ways lead
abbrev pub next_of : List ℕ → List ℕ
next_of ways = map (λ way. way / 4) ways

abbrev pub table_of : ℕ → List ℕ → List ℕ → EdgeTable
table_of stride numbers ways = record {
  edges = map (edge_of stride) numbers;
  cells = map (cell_of stride) numbers;
  next = next_of ways;
}

-- a way leads from the edge of a number to one that begins where it ends, and tells which side of its cell this is
pub record LeadsOn (stride : ℕ) (numbers : List ℕ) (x way : ℕ) : Type 0 where
  pub number : ℕ
  pub there : slice_get numbers (way / 4) ≡ Some number
  pub side : number % 4 ≡ way % 4
  pub begins : (edge_of stride number).0 ≡ (edge_of stride x).1

-- ways without the mark that a walk passed their edges, and by edge whether its way has the mark: 2 ^ 31 more

abbrev pub unmarked : List ℕ → List ℕ
unmarked ways = map (λ way. way % 2147483648) ways

abbrev pub marks_of : List ℕ → List Bool
marks_of ways = map (λ way. nat_le 2147483648 way) ways

abbrev pub walks_of : ℕ → List ℕ → List ℕ → EdgeWalks
walks_of stride numbers ways = record {
  table = table_of stride numbers (unmarked ways);
  passed = marks_of ways;
}

-- the stride is a power of two, and each number has a row and a column from 1 on
pub record AreSideNumbers (shift stride : ℕ) (numbers : List ℕ) : Type 0 where
  pub power : stride ≡ 2 ^ shift
  pub narrow : shift < 32
  pub low : (i x : ℕ) → slice_get numbers i ≡ Some x → x < 2 ^ 32
  pub placed : (i x : ℕ) → slice_get numbers i ≡ Some x
      → (0 < x / 4 / stride) × (0 < x / 4 % stride)

-- each way leads from the edge of its number on to an edge, and there are not too many
pub record IsTable (shift stride : ℕ) (numbers ways : List ℕ) : Type 0 where
  pub sides : AreSideNumbers shift stride numbers
  pub linked : length ways ≡ length numbers
  pub few : length numbers < 2 ^ 29
  pub leads : (i x way : ℕ) → slice_get numbers i ≡ Some x → slice_get ways i ≡ Some way
      → LeadsOn stride numbers x way

-- the side is one of four, and its cell's place is low enough for sums
pub record IsLowSide (side : Side) : Type 0 where
  pub few : side.side < 4
  pub row : side.row < 2 ^ 31
  pub col : side.col < 2 ^ 31

-- a side of a cell begins at this corner, and the cell's place is low enough for sums
pub record BeginsAt (side : ℕ) (corner : Corner) : Type 0 where
  pub cell : Place
  pub few : side < 4
  pub row : cell.0 < 2 ^ 31
  pub col : cell.1 < 2 ^ 31
  pub begins : (edge_at cell side).0 ≡ corner

-- the power of two is wide enough for the columns and one on each side, and no wider than twice that
pub record IsPower (ncols : ℕ) (stride : Stride) : Type 0 where
  pub power : stride.stride ≡ 2 ^ stride.shift
  pub wide : ncols + 2 ≤ stride.stride
  pub narrow : stride.stride ≤ 2 * (ncols + 1)
