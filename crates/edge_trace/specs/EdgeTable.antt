-- The table of all boundary edges of all components, and what it promises. This project's own.
use Rattle.std.specs.Prelude.{◌≡◌, ◌≢◌, ℕ, List, Some, length, slice_get}
use Rattle.cell_base.specs.Raster.{Place}
use Rattle.region_label.specs.Count.{IsListOf}
use Rattle.region_label.specs.Labelling.{RegionTable, IsInRegion}
use Rattle.edge_trace.specs.Edge.{Edge, HasOnLeft, HasOnRight, IsBoundaryEdge}
use Rattle.edge_trace.specs.Crossing.{Encloses}

-- by numbers: each edge, the cell on its left, and the number of the edge that follows it
pub record EdgeTable : Type 0 where
  pub edges : List Edge
  pub cells : List Place
  pub next : List ℕ

-- the edge of this number is this edge
abbrev pub IsEdgeAt : EdgeTable → ℕ → Edge → Type 0
IsEdgeAt table i e = slice_get table.edges i ≡ Some e

-- the edge of this number has this cell on its left
abbrev pub IsCellAt : EdgeTable → ℕ → Place → Type 0
IsCellAt table i cell = slice_get table.cells i ≡ Some cell

-- the edge of the first number is followed by that of the second
abbrev pub IsFollowedBy : EdgeTable → ℕ → ℕ → Type 0
IsFollowedBy table i j = slice_get table.next i ≡ Some j

-- the edge of this number belongs to the component of this number
abbrev pub IsEdgeOf : RegionTable → EdgeTable → ℕ → ℕ → Type 0
IsEdgeOf regions table k i = (cell : Place) × IsCellAt table i cell × IsInRegion regions k cell

-- the edge is one of the table's edges of the component of this number
abbrev pub HasEdge : RegionTable → EdgeTable → ℕ → Edge → Type 0
HasEdge regions table k e = (i : ℕ) × IsEdgeAt table i e × IsEdgeOf regions table k i

-- the table holds each boundary edge of each component once
pub record HoldsBoundaries (regions : RegionTable) (table : EdgeTable) : Type 0 where
  pub cells : length table.cells ≡ length table.edges
  pub left : (i : ℕ) (e : Edge) (cell : Place) → IsEdgeAt table i e → IsCellAt table i cell → HasOnLeft e cell
  pub known : (i : ℕ) (cell : Place) → IsCellAt table i cell → (k : ℕ) × IsInRegion regions k cell
  pub boundary : (k i : ℕ) (e : Edge) → IsEdgeAt table i e → IsEdgeOf regions table k i
      → IsBoundaryEdge (IsInRegion regions k) e
  pub every : (k : ℕ) (e : Edge) → IsBoundaryEdge (IsInRegion regions k) e → HasEdge regions table k e
  pub once : (k i j : ℕ) (e : Edge) → IsEdgeAt table i e → IsEdgeAt table j e
      → IsEdgeOf regions table k i → IsEdgeOf regions table k j → i ≡ j

-- each edge is followed by one that begins where it ends, in the same component, and by no other's follower
pub record HasLinks (regions : RegionTable) (table : EdgeTable) : Type 0 where
  pub next : length table.next ≡ length table.edges
  pub begins : (i j : ℕ) (e : Edge) → IsFollowedBy table i j → IsEdgeAt table i e
      → (f : Edge) × IsEdgeAt table j f × (f.0 ≡ e.1)
  pub stays : (k i j : ℕ) → IsFollowedBy table i j → IsEdgeOf regions table k i → IsEdgeOf regions table k j
  pub apart : (i j n : ℕ) → IsFollowedBy table i n → IsFollowedBy table j n → i ≡ j
  -- where another edge of the component begins there too, the follower is the one with the same cell on its right
  pub turns : (k i j m : ℕ) (e f g : Edge) (cell : Place) → IsFollowedBy table i j
      → IsEdgeAt table i e → IsEdgeAt table j f → IsEdgeAt table m g → m ≢ j → g.0 ≡ e.1
      → IsEdgeOf regions table k i → IsEdgeOf regions table k m → HasOnRight e cell → HasOnRight f cell

-- the boundary edges of a set, each once, enclose exactly its cells
abbrev pub IsEnclosedByBoundary : (Place → Type 0) → Type 0
IsEnclosedByBoundary set = (edges : List Edge) → IsListOf (IsBoundaryEdge set) edges → Encloses edges set

-- the table's own edges of each component, each once, enclose exactly the component's cells
abbrev pub EnclosesRegions : RegionTable → EdgeTable → Type 0
EnclosesRegions regions table = (k : ℕ) (edges : List Edge) → IsListOf (HasEdge regions table k) edges
    → Encloses edges (IsInRegion regions k)

-- what the table of edges promises
pub record IsEdgeTable (regions : RegionTable) (table : EdgeTable) : Type 0 where
  pub holds : HoldsBoundaries regions table
  pub links : HasLinks regions table
  pub encloses : EnclosesRegions regions table
