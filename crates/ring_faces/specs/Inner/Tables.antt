-- Tables of edges whose links can be walked.
use Rattle.std.specs.Prelude.{◌≡◌, ℕ, List, length, map, slice_get, unwrap_or}
use Rattle.edge_trace.specs.Edge.{Edge}
use Rattle.edge_trace.specs.EdgeTable.{EdgeTable}
use Rattle.ring_faces.specs.Inner.Cycles.{AreLinks, numbers_from}
use Rattle.ring_faces.specs.declared.cycles.Cycle.{Cycle}

-- each edge is followed by one, and no two by the same
pub record IsLinkedTable (table : EdgeTable) : Type 0 where
  pub links : AreLinks table.next
  pub sized : length table.next ≡ length table.edges

-- the edge of a number
abbrev pub edge_at : EdgeTable → ℕ → Edge
edge_at table i = unwrap_or (slice_get table.edges i) ((0, 0), (0, 0))

-- so many edges, each followed by the next
abbrev pub edges_from : EdgeTable → ℕ → ℕ → List Edge
edges_from table n i = map (edge_at table) (numbers_from table.next n i)

-- the edges of a cycle
abbrev pub edges_along : EdgeTable → Cycle → List Edge
edges_along table cycle = edges_from table cycle.edges cycle.first
