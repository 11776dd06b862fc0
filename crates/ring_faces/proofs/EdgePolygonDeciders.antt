-- A decider of edge polygons.
use Rattle.std.proofs.Common.{◌≡◌, ◌≢◌, Bool, true, not, List, length}
use Rattle.std.specs.Prelude.{◌&&◌, nat_le, Contains}
use Rattle.std.specs.List.{list_all, list_any}
use Rattle.cell_base.specs.Raster.{Place}
use Rattle.edge_trace.specs.Edge.{Edge, IsUnitEdge, HasOnLeft, IsBoundaryEdge, edges_round, turned}
use Rattle.ring_faces.specs.Ring.{Ring, edges_of, IsRing}
use Rattle.ring_faces.specs.LatticePolygon.{Polygon, rings_of}
use Rattle.ring_faces.specs.EdgePolygon.{all_edges, IsEdgePolygon}
use Rattle.cell_base.proofs.ListDeciders.{all_sound, all_pairs, any_sound, any_complete, each_by, has, has_sound, has_complete, implied, implies, not_true, all_pairs_sound, not_true_from}
use Rattle.std.proofs.lemmas.Bool.{and_parts, and_from, leb-true}
use Rattle.edge_trace.proofs.EdgeDeciders.{is_unit, is_unit_sound, same_edge, same_edge_sound, same_edge_complete}

-- whether a cell of the list is on the left of the edge
abbrev pub is_left : List Place → Edge → Bool
is_left cells e = list_any (λ cell. has same_edge (edges_round cell) e) cells

left_sound : (cells : List Place) (e : Edge) → is_left cells e ≡ true → (cell : Place) × HasOnLeft e cell × Contains cells cell
left_sound cells e is =
    let found = any_sound (λ cell. has same_edge (edges_round cell) e) cells is in
    (found.0, has_sound same_edge same_edge_sound (edges_round found.0) e found.2, found.1)

left_complete : (cells : List Place) (e : Edge) (cell : Place) → HasOnLeft e cell → Contains cells cell → is_left cells e ≡ true
left_complete cells e cell on_left member = any_complete (λ c. has same_edge (edges_round c) e) cells cell member (has_complete same_edge same_edge_complete (edges_round cell) e on_left)

abbrev pub is_boundary : List Place → Edge → Bool
is_boundary cells e = is_left cells e && not (is_left cells (turned e))

pub is_boundary_sound : (cells : List Place) (e : Edge) → is_boundary cells e ≡ true → IsBoundaryEdge (Contains cells) e
is_boundary_sound cells e is =
    let parts = and_parts (is_left cells e) (not (is_left cells (turned e))) is in
    record {
      left = left_sound cells e parts.0;
      right = λ cell on_right member. not_true (is_left cells (turned e)) parts.1 (left_complete cells (turned e) cell on_right member);
    }

pub is_boundary_complete : (cells : List Place) (e : Edge) → IsBoundaryEdge (Contains cells) e → is_boundary cells e ≡ true
is_boundary_complete cells e is = and_from (is_left cells e) (not (is_left cells (turned e))) (left_complete cells e is.left.0 is.left.1 is.left.2) (not_true_from (is_left cells (turned e)) (λ left.
    let found = left_sound cells (turned e) left in
    is.right found.0 found.1 found.2))

abbrev pub is_ring : Ring → Bool
is_ring ring = list_all is_unit (edges_of ring) && nat_le 4 (length (edges_of ring))

is_ring_sound : (ring : Ring) → is_ring ring ≡ true → IsRing ring
is_ring_sound ring is =
    let parts = and_parts (list_all is_unit (edges_of ring)) (nat_le 4 (length (edges_of ring))) is in
    record { units = all_sound IsUnitEdge is_unit is_unit_sound (edges_of ring) parts.0; long = leb-true 4 (length (edges_of ring)) parts.1 }

-- the rings hold the boundary edges of the cells, each once, and no other
abbrev pub is_edge_polygon : List Place → Polygon → Bool
is_edge_polygon cells polygon =
    (list_all is_ring (rings_of polygon) && all_pairs (λ e f. not (same_edge e f)) (all_edges polygon))
    && (list_all (is_boundary cells) (all_edges polygon)
    && list_all (λ cell. list_all (λ e. implies (is_boundary cells e) (has same_edge (all_edges polygon) e)) (edges_round cell)) cells)

pub is_edge_polygon_sound : (cells : List Place) (polygon : Polygon) → is_edge_polygon cells polygon ≡ true → IsEdgePolygon (Contains cells) polygon
is_edge_polygon_sound cells polygon is =
    let one = and_parts (list_all is_ring (rings_of polygon) && all_pairs (λ e f. not (same_edge e f)) (all_edges polygon)) _ is in
    let rings = and_parts (list_all is_ring (rings_of polygon)) (all_pairs (λ e f. not (same_edge e f)) (all_edges polygon)) one.0 in
    let two = and_parts (list_all (is_boundary cells) (all_edges polygon)) (list_all (λ cell. list_all (λ e. implies (is_boundary cells e) (has same_edge (all_edges polygon) e)) (edges_round cell)) cells) one.1 in
    record {
      closed = all_sound IsRing is_ring is_ring_sound (rings_of polygon) rings.0;
      edges = record {
        all = λ e. (
          λ member. is_boundary_sound cells e (each_by (is_boundary cells) (all_edges polygon) e two.0 member),
          λ boundary.
              let row = each_by (λ cell. list_all (λ f. implies (is_boundary cells f) (has same_edge (all_edges polygon) f)) (edges_round cell)) cells boundary.left.0 two.1 boundary.left.2 in
              let at = each_by (λ f. implies (is_boundary cells f) (has same_edge (all_edges polygon) f)) (edges_round boundary.left.0) e row boundary.left.1 in
              has_sound same_edge same_edge_sound (all_edges polygon) e (implied (is_boundary cells e) (has same_edge (all_edges polygon) e) at (is_boundary_complete cells e boundary)),
        );
        once = all_pairs_sound (λ e f. e ≢ f) (λ e f. not (same_edge e f)) (λ e f other same. not_true (same_edge e f) other (same_edge_complete e f same)) (all_edges polygon) rings.1;
      };
    }
