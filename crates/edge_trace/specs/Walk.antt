-- Edges as a walk along a table passes them. This project's own.
use Rattle.std.specs.Prelude.{Bool, List}
use Rattle.edge_trace.specs.Edge.{Edge}
use Rattle.edge_trace.specs.EdgeTable.{EdgeTable, IsEdgeAt}
use Rattle.edge_trace.specs.declared.walk_edge.WalkEdge.{WalkEdge}

-- the edge between the corners where it begins and ends
abbrev pub edge_between : WalkEdge → Edge
edge_between edge = ((edge.start.row, edge.start.col), (edge.end.row, edge.end.col))

-- the edge stands in the table under its number, between these corners
abbrev pub StandsIn : EdgeTable → WalkEdge → Type 0
StandsIn table edge = IsEdgeAt table edge.number (edge_between edge)

-- a table, and of each of its edges whether a walk passed it
pub record EdgeWalks : Type 0 where
  pub table : EdgeTable
  pub passed : List Bool
