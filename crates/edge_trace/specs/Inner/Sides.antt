-- The sides of cells that bound components, and their numbers.
use Rattle.std.specs.Prelude.{◌≡◌, ℕ, zero, suc, ◌+◌, ◌-◌, ◌*◌, ◌/◌, ◌%◌, ◌^◌, ◌<◌, ◌≤◌, List, Some, length, slice_get}
use Rattle.cell_base.specs.Raster.{Place}
use Rattle.region_label.specs.Labelling.{RegionTable, IsInRegion}
use Rattle.edge_trace.specs.Edge.{Edge}

-- the edge along a side of a cell, by the order of `edges_round`
abbrev pub edge_at : Place → ℕ → Edge
edge_at cell zero = ((cell.0, cell.1), (cell.0 + 1, cell.1))
edge_at cell (suc zero) = ((cell.0 + 1, cell.1), (cell.0 + 1, cell.1 + 1))
edge_at cell (suc (suc zero)) = ((cell.0 + 1, cell.1 + 1), (cell.0, cell.1 + 1))
edge_at cell (suc (suc (suc side))) = ((cell.0, cell.1 + 1), (cell.0, cell.1))

-- the other cell is on this side
abbrev pub IsBeside : ℕ → Place → Place → Type 0
IsBeside zero a b = (b.0 ≡ a.0) × (b.1 + 1 ≡ a.1)
IsBeside (suc zero) a b = (b.0 ≡ a.0 + 1) × (b.1 ≡ a.1)
IsBeside (suc (suc zero)) a b = (b.0 ≡ a.0) × (b.1 ≡ a.1 + 1)
IsBeside (suc (suc (suc side))) a b = (b.0 + 1 ≡ a.0) × (b.1 ≡ a.1)

-- a side of a cell of this component, with no cell of it beyond
pub record IsSide (regions : RegionTable) (k : ℕ) (cell : Place) (side : ℕ) : Type 0 where
  pub few : side < 4
  pub inside : IsInRegion regions k cell
  pub beyond : (other : Place) → IsBeside side cell other → ¬ IsInRegion regions k other

-- the number of a side. Rows and columns count from 1, and the stride is wider than a row, so that the cells round a cell
-- have numbers of their own, too
abbrev pub side_number : ℕ → Place → ℕ → ℕ
side_number stride cell side = ((cell.0 + 1) * stride + (cell.1 + 1)) * 4 + side

abbrev pub cell_of : ℕ → ℕ → Place
cell_of stride number = (number / 4 / stride - 1, number / 4 % stride - 1)

abbrev pub edge_of : ℕ → ℕ → Edge
edge_of stride number = edge_at (cell_of stride number) (number % 4)

-- the stride is wide enough for the rows, and small enough for the numbers
pub record IsStride (ncols nrows stride : ℕ) : Type 0 where
  pub wide : ncols + 2 ≤ stride
  pub narrow : stride ≤ 2 ^ 27
  pub few : (row : ℕ) → row ≤ nrows → (row + 1) * stride ≤ 2 ^ 27

-- the number is that of a side of a component, and this component stands at the index
pub record IsSideOf (regions : RegionTable) (stride : ℕ) (owners : List ℕ) (i number : ℕ) : Type 0 where
  pub owner : ℕ
  pub cell : Place
  pub side : ℕ
  pub number_is : number ≡ side_number stride cell side
  pub is : IsSide regions owner cell side
  pub owner_at : slice_get owners i ≡ Some owner

-- the numbers rise
abbrev pub AreRising : List ℕ → Type 0
AreRising numbers = (i j x y : ℕ) → i < j → slice_get numbers i ≡ Some x → slice_get numbers j ≡ Some y → x < y

-- the numbers are those of all sides of components below a bound, in order, and with each stands its component
pub record AreSides (regions : RegionTable) (stride : ℕ) (numbers owners : List ℕ) (bound : ℕ) : Type 0 where
  pub sized : length owners ≡ length numbers
  pub each : (i x : ℕ) → slice_get numbers i ≡ Some x → IsSideOf regions stride owners i x
  pub below : (i x : ℕ) → slice_get numbers i ≡ Some x → x < bound
  pub rising : AreRising numbers
  pub every : (k side : ℕ) (cell : Place) → IsSide regions k cell side → side_number stride cell side < bound
      → (i : ℕ) × (slice_get numbers i ≡ Some (side_number stride cell side)) × (slice_get owners i ≡ Some k)
