-- The order of the edges in a table. This project's own.
use Rattle.std.specs.Prelude.{◌≡◌, ℕ, ◌<◌, ◌⊎◌, Some, slice_get}
use Rattle.cell_base.specs.Raster.{Place}
use Rattle.cell_base.specs.Order.{IsBefore}
use Rattle.edge_trace.specs.Edge.{Edge, edges_round}
use Rattle.edge_trace.specs.EdgeTable.{EdgeTable, IsCellAt, IsEdgeAt}

-- the edge of this number has this cell on its left, and is this side of it: 0 its left, 1 its lower, 2 its right and 3
-- its upper side
abbrev pub IsSideAt : EdgeTable → ℕ → Place → ℕ → Type 0
IsSideAt table i cell side =
    IsCellAt table i cell × (e : Edge) × IsEdgeAt table i e × (slice_get (edges_round cell) side ≡ Some e)

-- the edges stand by the cells on their left, row by row from the left, and the edges of a cell by its sides
abbrev pub AreInOrder : EdgeTable → Type 0
AreInOrder table = (i j : ℕ) (a b : Place) (s t : ℕ) → i < j → IsSideAt table i a s → IsSideAt table j b t
    → IsBefore a b ⊎ ((a ≡ b) × (s < t))
