-- How a table of edges is gathered, and linked by rows.
use Rattle.std.specs.Prelude.{◌≡◌, ℕ, suc, ◌+◌, ◌<◌, ◌≤◌, List, [], ◌++◌, Option, Some, None, All, map, length, slice_get}
use Rattle.std.specs.List.{filter}
use Rattle.geo_transform.specs.declared.frame.Frame.{Frame}
use Rattle.wkt_text.specs.declared.geometry.Geometry.{Geometry}
use Rattle.burn_scanline.specs.Ring.{Edge}
use Rattle.burn_scanline.specs.EdgeTable.{IsEdgeTable, IsSpanned, SpannedEdge, edge_of, first_row_of, has_row, starting_below}
use Rattle.burn_scanline.specs.declared.edge_rows.SpanRule.{SpanRule}
use Rattle.burn_scanline.specs.declared.edge_rows.LinkedEdge.{LinkedEdge}
use Rattle.burn_scanline.specs.declared.edge_rows.RowTable.{RowTable}

abbrev pub edges_in : List LinkedEdge → List SpannedEdge
edges_in items = map (λ item. item.edge) items

-- the edges of a list that have a row were added at the end
pub record Gathers (rule : SpanRule) (frame : Frame) (more : List Edge) (old new : List LinkedEdge) : Type 0 where
  pub edges : map edge_of (edges_in new) ≡ map edge_of (edges_in old) ++ filter (has_row rule frame) more
  pub spans : All (IsSpanned rule frame) (edges_in old) → All (IsSpanned rule frame) (edges_in new)

-- each edge has rows below a count
abbrev pub HaveRowsBelow : ℕ → List LinkedEdge → Type 0
HaveRowsBelow nrows items = (e : ℕ) (item : LinkedEdge) → slice_get items e ≡ Some item
    → (item.edge.first ≤ item.edge.last) × (item.edge.last < nrows)

-- each edge has rows from the one on and before the other
abbrev pub HaveRowsFrom : ℕ → ℕ → List LinkedEdge → Type 0
HaveRowsFrom first end items = (e : ℕ) (item : LinkedEdge) → slice_get items e ≡ Some item
    → (first ≤ item.edge.first) × (item.edge.first ≤ item.edge.last) × (item.edge.last < end)

-- the numbers that links lead to, from one on
abbrev pub from_link : List SpannedEdge → Option ℕ → List ℕ
from_link edges None = []
from_link edges (Some e) = starting_below edges (first_row_of edges e) (suc e)

-- the links from here lead to the numbers below n of the edges that begin in a row
pub record IsHead (edges : List SpannedEdge) (row n : ℕ) (link : Option ℕ) : Type 0 where
  pub list : from_link edges link ≡ starting_below edges row n
  pub below : (e : ℕ) → link ≡ Some e → e < n

-- the first edges are linked
abbrev pub AreLinkedTo : ℕ → List LinkedEdge → Type 0
AreLinkedTo n items = (e : ℕ) (item : LinkedEdge) → e < n → slice_get items e ≡ Some item
    → IsHead (edges_in items) item.edge.first e item.link

-- the first edges are linked, and each row leads to those of them that begin there
pub record IsLinkedTo (n : ℕ) (table : RowTable) : Type 0 where
  pub sized : table.first_row + length table.heads.items ≡ table.end_row
  pub rows : HaveRowsFrom table.first_row table.end_row table.edges.items
  pub links : AreLinkedTo n table.edges.items
  pub heads : (i : ℕ) (head : Option ℕ) → slice_get table.heads.items i ≡ Some head
      → IsHead (edges_in table.edges.items) (table.first_row + i) n head

abbrev pub IsLinked : RowTable → Type 0
IsLinked table = IsLinkedTo (length table.edges.items) table

-- the edges stay while they are linked
pub record LinksOne (n : ℕ) (old new : RowTable) : Type 0 where
  pub edges : edges_in new.edges.items ≡ edges_in old.edges.items
  pub end : new.end_row ≡ old.end_row
  pub linked : IsLinkedTo (suc n) new

-- the table of a geometry's edges, linked
pub record IsFilled (rule : SpanRule) (frame : Frame) (g : Geometry) (table : RowTable) : Type 0 where
  pub edges : IsEdgeTable rule frame g (edges_in table.edges.items)
  pub linked : IsLinked table
  pub within : table.end_row ≤ frame.nrows

-- a walk is at a linked edge, or at its end
pub record IsWalkOf (items : List LinkedEdge) (next : Option ℕ) : Type 0 where
  pub linked : AreLinkedTo (length items) items
  pub within : (e : ℕ) → next ≡ Some e → e < length items
