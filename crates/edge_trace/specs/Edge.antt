-- Directed unit edges over the corners of cells, and the boundary of a set of cells. This project's own, after the
-- rule that a polygon's rings run round what they enclose.
use Rattle.std.specs.Prelude.{◌≡◌, ℕ, ◌+◌, ◌⊎◌, ◌==◌, Bool, List, [], ◌∷◌, Contains}
use Rattle.cell_base.specs.Raster.{Place}
use Rattle.cell_base.specs.Steps.{AreNext}

-- a corner of cells: its row and its column, so that the cell (r, c) lies between the corners (r, c) and (r + 1, c + 1)
abbrev pub Corner : Type 0
Corner = ℕ × ℕ

-- a directed edge: the corner where it begins, and the corner where it ends
abbrev pub Edge : Type 0
Edge = Corner × Corner

-- the same edge in the other direction
abbrev pub turned : Edge → Edge
turned e = (e.1, e.0)

-- a unit edge: one long, along a row or along a column
abbrev pub IsUnitEdge : Edge → Type 0
IsUnitEdge e = ((e.0.0 ≡ e.1.0) × AreNext e.0.1 e.1.1) ⊎ ((e.0.1 ≡ e.1.1) × AreNext e.0.0 e.1.0)

-- the edge runs along a row
abbrev pub is_level : Edge → Bool
is_level e = e.0.0 == e.1.0

-- the unit edges round a cell that have it on their left: down its left side, to the right below it, up its right
-- side, to the left above it
abbrev pub edges_round : Place → List Edge
edges_round (r, c) =
    ((r, c), (r + 1, c)) ∷ ((r + 1, c), (r + 1, c + 1)) ∷ ((r + 1, c + 1), (r, c + 1)) ∷ ((r, c + 1), (r, c)) ∷ []

-- the cell is on the left of the edge
abbrev pub HasOnLeft : Edge → Place → Type 0
HasOnLeft e cell = Contains (edges_round cell) e

-- the cell is on the right of the edge
abbrev pub HasOnRight : Edge → Place → Type 0
HasOnRight e cell = HasOnLeft (turned e) cell

-- a boundary edge of a set: a cell of the set is on its left, and no cell of the set on its right
pub record IsBoundaryEdge (set : Place → Type 0) (e : Edge) : Type 0 where
  pub left : (cell : Place) × HasOnLeft e cell × set cell
  pub right : (cell : Place) → HasOnRight e cell → ¬ set cell
