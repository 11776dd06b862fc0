-- Worked grids: the canonical polygons of their components. Each grid stands in the comment above its polygons.
use Rattle.std.proofs.Common.{List, [], ◌∷◌, refl}
use Rattle.std.specs.Prelude.{Contains}
use Rattle.cell_base.specs.Raster.{Place}
use Rattle.ring_faces.specs.Ring.{Ring}
use Rattle.ring_faces.specs.LatticePolygon.{Polygon}
use Rattle.ring_faces.specs.CanonicalPolygon.{IsCanonicalPolygon}
use Rattle.ring_faces.proofs.CanonicalDeciders.{is_canonical_sound}

abbrev pub plain : Ring → Polygon
plain ring = record { shell = ring; holes = [] }

-- 1 1 2 / 1 2 2

abbrev pub corner_ones : List Place
corner_ones = (0, 0) ∷ (0, 1) ∷ (1, 0) ∷ []

corner_ones_polygon : IsCanonicalPolygon (Contains corner_ones) (plain ((0, 0) ∷ (2, 0) ∷ (2, 1) ∷ (1, 1) ∷ (1, 2) ∷ (0, 2) ∷ []))
corner_ones_polygon = is_canonical_sound 2 3 corner_ones [] _ refl

abbrev pub corner_twos : List Place
corner_twos = (0, 2) ∷ (1, 2) ∷ (1, 1) ∷ []

corner_twos_polygon : IsCanonicalPolygon (Contains corner_twos) (plain ((0, 2) ∷ (1, 2) ∷ (1, 1) ∷ (2, 1) ∷ (2, 3) ∷ (0, 3) ∷ []))
corner_twos_polygon = is_canonical_sound 2 3 corner_twos [] _ refl

-- one cell

abbrev pub one_cell : List Place
one_cell = (0, 0) ∷ []

one_cell_polygon : IsCanonicalPolygon (Contains one_cell) (plain ((0, 0) ∷ (1, 0) ∷ (1, 1) ∷ (0, 1) ∷ []))
one_cell_polygon = is_canonical_sound 1 1 one_cell [] _ refl

-- 1 1 1 / 1 2 1 / 1 1 1

abbrev pub frame : List Place
frame = (0, 0) ∷ (0, 1) ∷ (0, 2) ∷ (1, 2) ∷ (2, 2) ∷ (2, 1) ∷ (2, 0) ∷ (1, 0) ∷ []

abbrev pub frame_polygon : Polygon
frame_polygon = record {
  shell = (0, 0) ∷ (3, 0) ∷ (3, 3) ∷ (0, 3) ∷ [];
  holes = ((1, 1) ∷ (1, 2) ∷ (2, 2) ∷ (2, 1) ∷ []) ∷ [];
}

frame_is_canonical : IsCanonicalPolygon (Contains frame) frame_polygon
frame_is_canonical = is_canonical_sound 3 3 frame (((1, 1) ∷ []) ∷ []) _ refl

middle_polygon : IsCanonicalPolygon (Contains ((1, 1) ∷ [])) (plain ((1, 1) ∷ (2, 1) ∷ (2, 2) ∷ (1, 2) ∷ []))
middle_polygon = is_canonical_sound 3 3 ((1, 1) ∷ []) [] _ refl

-- 1 1 1 1 / 1 2 1 1 / 1 1 2 1 / 1 1 1 1: two holes that touch at a corner

abbrev pub two_holed : List Place
two_holed = (0, 0) ∷ (0, 1) ∷ (0, 2) ∷ (0, 3) ∷ (1, 0) ∷ (1, 2) ∷ (1, 3) ∷ (2, 0) ∷ (2, 1) ∷ (2, 3) ∷ (3, 0) ∷ (3, 1) ∷ (3, 2) ∷ (3, 3) ∷ []

abbrev pub two_holed_polygon : Polygon
two_holed_polygon = record {
  shell = (0, 0) ∷ (4, 0) ∷ (4, 4) ∷ (0, 4) ∷ [];
  holes = ((1, 1) ∷ (1, 2) ∷ (2, 2) ∷ (2, 1) ∷ []) ∷ ((2, 2) ∷ (2, 3) ∷ (3, 3) ∷ (3, 2) ∷ []) ∷ [];
}

two_holed_is_canonical : IsCanonicalPolygon (Contains two_holed) two_holed_polygon
two_holed_is_canonical = is_canonical_sound 4 4 two_holed (((1, 1) ∷ []) ∷ ((2, 2) ∷ []) ∷ []) _ refl

first_two_polygon : IsCanonicalPolygon (Contains ((1, 1) ∷ [])) (plain ((1, 1) ∷ (2, 1) ∷ (2, 2) ∷ (1, 2) ∷ []))
first_two_polygon = is_canonical_sound 4 4 ((1, 1) ∷ []) [] _ refl

second_two_polygon : IsCanonicalPolygon (Contains ((2, 2) ∷ [])) (plain ((2, 2) ∷ (3, 2) ∷ (3, 3) ∷ (2, 3) ∷ []))
second_two_polygon = is_canonical_sound 4 4 ((2, 2) ∷ []) [] _ refl

-- 1 1 1 / 1 2 1 / 1 1 2: a hole that touches the shell at a corner

abbrev pub notched : List Place
notched = (0, 0) ∷ (0, 1) ∷ (0, 2) ∷ (1, 0) ∷ (1, 2) ∷ (2, 0) ∷ (2, 1) ∷ []

abbrev pub notched_polygon : Polygon
notched_polygon = record {
  shell = (0, 0) ∷ (3, 0) ∷ (3, 2) ∷ (2, 2) ∷ (2, 3) ∷ (0, 3) ∷ [];
  holes = ((1, 1) ∷ (1, 2) ∷ (2, 2) ∷ (2, 1) ∷ []) ∷ [];
}

notched_is_canonical : IsCanonicalPolygon (Contains notched) notched_polygon
notched_is_canonical = is_canonical_sound 3 3 notched (((1, 1) ∷ []) ∷ []) _ refl

corner_polygon : IsCanonicalPolygon (Contains ((2, 2) ∷ [])) (plain ((2, 2) ∷ (3, 2) ∷ (3, 3) ∷ (2, 3) ∷ []))
corner_polygon = is_canonical_sound 3 3 ((2, 2) ∷ []) [] _ refl

-- 1 2 / 2 1: under four each cell is a component, and under eight each is a part of one

first_one : IsCanonicalPolygon (Contains ((0, 0) ∷ [])) (plain ((0, 0) ∷ (1, 0) ∷ (1, 1) ∷ (0, 1) ∷ []))
first_one = is_canonical_sound 2 2 ((0, 0) ∷ []) [] _ refl

first_two : IsCanonicalPolygon (Contains ((0, 1) ∷ [])) (plain ((0, 1) ∷ (1, 1) ∷ (1, 2) ∷ (0, 2) ∷ []))
first_two = is_canonical_sound 2 2 ((0, 1) ∷ []) [] _ refl

second_two : IsCanonicalPolygon (Contains ((1, 0) ∷ [])) (plain ((1, 0) ∷ (2, 0) ∷ (2, 1) ∷ (1, 1) ∷ []))
second_two = is_canonical_sound 2 2 ((1, 0) ∷ []) [] _ refl

second_one : IsCanonicalPolygon (Contains ((1, 1) ∷ [])) (plain ((1, 1) ∷ (2, 1) ∷ (2, 2) ∷ (1, 2) ∷ []))
second_one = is_canonical_sound 2 2 ((1, 1) ∷ []) [] _ refl
