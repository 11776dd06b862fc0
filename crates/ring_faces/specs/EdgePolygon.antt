-- The loose form of a set's polygon: its boundary edges in closed walks. This project's own.
use Rattle.std.specs.Prelude.{List, All}
use Rattle.std.specs.List.{flat_map}
use Rattle.cell_base.specs.Raster.{Place}
use Rattle.region_label.specs.Count.{IsListOf}
use Rattle.edge_trace.specs.Edge.{Edge, IsBoundaryEdge}
use Rattle.ring_faces.specs.Ring.{IsRing, edges_of}
use Rattle.ring_faces.specs.LatticePolygon.{Polygon, rings_of}

-- the edges of all rings
abbrev pub all_edges : Polygon → List Edge
all_edges polygon = flat_map edges_of (rings_of polygon)

-- an edge polygon of a set: closed walks of at least four unit edges that together hold each boundary edge of the set
-- once, in its direction, and no other edge
pub record IsEdgePolygon (set : Place → Type 0) (polygon : Polygon) : Type 0 where
  pub closed : All IsRing (rings_of polygon)
  pub edges : IsListOf (IsBoundaryEdge set) (all_edges polygon)
