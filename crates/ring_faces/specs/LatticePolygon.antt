-- Valid polygons whose rings run along the sides of cells: the rules for a Polygon in Simple Features (OGC 06-103r4,
-- 6.1.11) in discrete form.
use Rattle.std.specs.Prelude.{ℕ, ◌+◌, List, ◌∷◌, All, AllPairs}
use Rattle.cell_base.specs.Raster.{Place}
use Rattle.cell_base.specs.Steps.{four}
use Rattle.cell_base.specs.Walk.{IsConnected}
use Rattle.edge_trace.specs.Edge.{Edge}
use Rattle.ring_faces.specs.Ring.{Ring, RunsAlong, IsInsideRing, IsSimpleRing}

-- a polygon: its shell, and its holes
pub record Polygon : Type 0 where
  pub shell : Ring
  pub holes : List Ring

abbrev pub rings_of : Polygon → List Ring
rings_of polygon = polygon.shell ∷ polygon.holes

-- the polygon covers the cell: it is inside the shell and inside no hole
pub record IsCovered (polygon : Polygon) (cell : Place) : Type 0 where
  pub shell : IsInsideRing polygon.shell cell
  pub holes : All (λ hole. ¬ IsInsideRing hole cell) polygon.holes

-- no edge lies on both rings
abbrev pub SharesNoEdge : Ring → Ring → Type 0
SharesNoEdge g h = (e : Edge) → RunsAlong g e → ¬ RunsAlong h e

-- each cell inside the first ring is inside the second
abbrev pub LiesWithin : Ring → Ring → Type 0
LiesWithin g h = (cell : Place) → IsInsideRing g cell → IsInsideRing h cell

-- no cell is inside both rings
abbrev pub SharesNoCell : Ring → Ring → Type 0
SharesNoCell g h = (cell : Place) → IsInsideRing g cell → ¬ IsInsideRing h cell

-- at the corner (row + 1, col + 1) the ring has the edge from above and the edge to below
abbrev pub PassesUpright : Ring → ℕ → ℕ → Type 0
PassesUpright ring row col = RunsAlong ring ((row, col + 1), (row + 1, col + 1))
    × RunsAlong ring ((row + 1, col + 1), (row + 2, col + 1))

-- at the corner (row + 1, col + 1) the ring has the edge from the left and the edge to the right
abbrev pub PassesLevel : Ring → ℕ → ℕ → Type 0
PassesLevel ring row col = RunsAlong ring ((row + 1, col), (row + 1, col + 1))
    × RunsAlong ring ((row + 1, col + 1), (row + 1, col + 2))

-- at no corner does one of the rings pass upright and the other level
abbrev pub DoNotCross : Ring → Ring → Type 0
DoNotCross g h = (row col : ℕ) → ¬ (PassesUpright g row col × PassesLevel h row col)
    × ¬ (PassesLevel g row col × PassesUpright h row col)

-- a valid lattice polygon
pub record IsValidPolygon (polygon : Polygon) : Type 0 where
  -- each ring is a closed walk of at least four unit edges that visits no corner twice
  pub simple : All IsSimpleRing (rings_of polygon)
  -- no edge lies on two rings
  pub no_shared_edge : AllPairs SharesNoEdge (rings_of polygon)
  -- a cell inside a hole is inside the shell and inside no other hole
  pub nested : All (λ hole. LiesWithin hole polygon.shell) polygon.holes × AllPairs SharesNoCell polygon.holes
  -- the cells that it covers are not none, and are joined by side steps among themselves
  pub connected : ((cell : Place) × IsCovered polygon cell) × IsConnected four (IsCovered polygon)
  -- the cells inside each hole are joined by side steps among themselves
  pub holes_connected : All (λ hole. IsConnected four (IsInsideRing hole)) polygon.holes
  -- two rings that share a corner touch there and do not cross
  pub tangent : AllPairs DoNotCross (rings_of polygon)
