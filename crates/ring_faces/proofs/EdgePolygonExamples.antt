-- Worked grids: the boundary edges of their components, and the cells that these enclose.
use Rattle.std.proofs.Common.{◌≡◌, ◌%◌, Bool, true, List, [], ◌∷◌, length, refl, lit<}
use Rattle.std.specs.Prelude.{◌==◌, ◌&&◌, Contains}
use Rattle.cell_base.specs.Raster.{Place}
use Rattle.edge_trace.specs.Edge.{HasOnLeft, HasOnRight}
use Rattle.edge_trace.specs.Crossing.{crossing_count}
use Rattle.ring_faces.specs.LatticePolygon.{Polygon}
use Rattle.ring_faces.specs.EdgePolygon.{all_edges, IsEdgePolygon}
use Rattle.cell_base.proofs.ListDeciders.{has, implies, in_box}
use Rattle.cell_base.proofs.PlaceDeciders.{same_place}
use Rattle.ring_faces.proofs.EdgePolygonDeciders.{is_edge_polygon_sound}
use Rattle.ring_faces.proofs.CanonicalExamples.{corner_ones, frame, frame_polygon, notched, notched_polygon, plain, two_holed, two_holed_polygon}

-- in so many rows and columns the edges of all rings enclose the cells of the list and no other
abbrev encloses : List Place → Polygon → Bool
encloses cells polygon = in_box 5 5 (λ p. implies (has same_place cells p) ((crossing_count (all_edges polygon) p % 2) == 1) && implies ((crossing_count (all_edges polygon) p % 2) == 1) (has same_place cells p))

-- 1 1 1 / 1 2 1 / 1 1 2: 24 edges, 16 of them round the ones

notched_edges : IsEdgePolygon (Contains notched) notched_polygon
notched_edges = is_edge_polygon_sound notched notched_polygon refl

notched_enclosed : encloses notched notched_polygon ≡ true
notched_enclosed = refl

notched_count : length (all_edges notched_polygon) ≡ 16
notched_count = refl

middle_edges : IsEdgePolygon (Contains ((1, 1) ∷ [])) (plain ((1, 1) ∷ (2, 1) ∷ (2, 2) ∷ (1, 2) ∷ []))
middle_edges = is_edge_polygon_sound ((1, 1) ∷ []) _ refl

corner_edges : IsEdgePolygon (Contains ((2, 2) ∷ [])) (plain ((2, 2) ∷ (3, 2) ∷ (3, 3) ∷ (2, 3) ∷ []))
corner_edges = is_edge_polygon_sound ((2, 2) ∷ []) _ refl

-- at the corner (2, 2) four edges of the ones meet. The one from below and the one that leads to the right have the cell (2, 2) on their right

from_below : HasOnLeft ((3, 2), (2, 2)) (2, 1) × HasOnRight ((3, 2), (2, 2)) (2, 2)
from_below = ((2, lit< tt, refl), (0, lit< tt, refl))

to_the_right : HasOnLeft ((2, 2), (2, 3)) (1, 2) × HasOnRight ((2, 2), (2, 3)) (2, 2)
to_the_right = ((1, lit< tt, refl), (3, lit< tt, refl))

-- the one from above and the one that leads to the left have the cell (1, 1) on their right

from_above : HasOnLeft ((1, 2), (2, 2)) (1, 2) × HasOnRight ((1, 2), (2, 2)) (1, 1)
from_above = ((0, lit< tt, refl), (2, lit< tt, refl))

to_the_left : HasOnLeft ((2, 2), (2, 1)) (2, 1) × HasOnRight ((2, 2), (2, 1)) (1, 1)
to_the_left = ((3, lit< tt, refl), (1, lit< tt, refl))

-- 1 1 2 / 1 2 2

corner_ones_edges : IsEdgePolygon (Contains corner_ones) (plain ((0, 0) ∷ (2, 0) ∷ (2, 1) ∷ (1, 1) ∷ (1, 2) ∷ (0, 2) ∷ []))
corner_ones_edges = is_edge_polygon_sound corner_ones _ refl

-- 1 1 1 / 1 2 1 / 1 1 1

frame_edges : IsEdgePolygon (Contains frame) frame_polygon
frame_edges = is_edge_polygon_sound frame frame_polygon refl

frame_enclosed : encloses frame frame_polygon ≡ true
frame_enclosed = refl

-- 1 1 1 1 / 1 2 1 1 / 1 1 2 1 / 1 1 1 1: 24 edges round the ones

two_holed_edges : IsEdgePolygon (Contains two_holed) two_holed_polygon
two_holed_edges = is_edge_polygon_sound two_holed two_holed_polygon refl

two_holed_enclosed : encloses two_holed two_holed_polygon ≡ true
two_holed_enclosed = refl

two_holed_count : length (all_edges two_holed_polygon) ≡ 24
two_holed_count = refl

-- the ring that visits a corner twice is an edge polygon all the same: the loose form allows it
joined_holes_edges : IsEdgePolygon (Contains two_holed) (record {
  shell = (0, 0) ∷ (4, 0) ∷ (4, 4) ∷ (0, 4) ∷ [];
  holes = ((1, 1) ∷ (1, 2) ∷ (2, 2) ∷ (2, 3) ∷ (3, 3) ∷ (3, 2) ∷ (2, 2) ∷ (2, 1) ∷ []) ∷ [];
})
joined_holes_edges = is_edge_polygon_sound two_holed _ refl

-- under eight, cells that share a corner alone are one component: its boundary edges are those round its parts

-- the twos of 1 1 1 / 1 2 1 / 1 1 2, and of 1 1 1 1 / 1 2 1 1 / 1 1 2 1 / 1 1 1 1
diagonal_edges : IsEdgePolygon (Contains ((1, 1) ∷ (2, 2) ∷ [])) (record {
  shell = (1, 1) ∷ (2, 1) ∷ (2, 2) ∷ (1, 2) ∷ [];
  holes = ((2, 2) ∷ (3, 2) ∷ (3, 3) ∷ (2, 3) ∷ []) ∷ [];
})
diagonal_edges = is_edge_polygon_sound ((1, 1) ∷ (2, 2) ∷ []) _ refl

-- the ones and the twos of 1 2 / 2 1
falling_edges : IsEdgePolygon (Contains ((0, 0) ∷ (1, 1) ∷ [])) (record {
  shell = (0, 0) ∷ (1, 0) ∷ (1, 1) ∷ (0, 1) ∷ [];
  holes = ((1, 1) ∷ (2, 1) ∷ (2, 2) ∷ (1, 2) ∷ []) ∷ [];
})
falling_edges = is_edge_polygon_sound ((0, 0) ∷ (1, 1) ∷ []) _ refl

rising_edges : IsEdgePolygon (Contains ((0, 1) ∷ (1, 0) ∷ [])) (record {
  shell = (0, 1) ∷ (1, 1) ∷ (1, 2) ∷ (0, 2) ∷ [];
  holes = ((1, 0) ∷ (2, 0) ∷ (2, 1) ∷ (1, 1) ∷ []) ∷ [];
})
rising_edges = is_edge_polygon_sound ((0, 1) ∷ (1, 0) ∷ []) _ refl
