-- Polygons that the definition refuses.
use Rattle.std.proofs.Common.{◌≡◌, inl, inr, List, [], ◌∷◌, refl, ap, subst, arith, lit<}
use Rattle.std.proofs.lemmas.Bool.{false≢true}
use Rattle.edge_trace.proofs.BoundaryLemmas.{left_of_down, place_is}
use Rattle.cell_base.proofs.PlaceDeciders.{same_place, same_place_complete}
use Rattle.std.specs.Prelude.{Contains}
use Rattle.cell_base.specs.Raster.{Place}
use Rattle.cell_base.specs.Steps.{SharesSide, four}
use Rattle.cell_base.specs.Walk.{IsWalk, StepsInto}
use Rattle.ring_faces.specs.LatticePolygon.{Polygon, IsCovered, IsValidPolygon}
use Rattle.ring_faces.specs.CanonicalPolygon.{IsCanonicalPolygon}
use Rattle.cell_base.proofs.ListDeciders.{contains_cases, has_complete}
use Rattle.ring_faces.proofs.CanonicalExamples.{corner_ones, frame, frame_polygon, plain, two_holed}

-- two holes as one ring, which visits the corner where they touch twice
twice_visited : ¬ IsValidPolygon (record {
  shell = (0, 0) ∷ (4, 0) ∷ (4, 4) ∷ (0, 4) ∷ [];
  holes = ((1, 1) ∷ (1, 2) ∷ (2, 2) ∷ (2, 3) ∷ (3, 3) ∷ (3, 2) ∷ (2, 2) ∷ (2, 1) ∷ []) ∷ [];
})
twice_visited valid = (valid.simple 1 [] (lit< tt)).simple 2 6 (0, 0) (lit< tt) (lit< tt) refl

-- the hole as the shell, and the shell as a hole
hole_as_shell : ¬ IsValidPolygon (record {
  shell = (1, 1) ∷ (1, 2) ∷ (2, 2) ∷ (2, 1) ∷ [];
  holes = ((0, 0) ∷ (3, 0) ∷ (3, 3) ∷ (0, 3) ∷ []) ∷ [];
})
hole_as_shell valid =
    let inside : 0 ≡ 1 = valid.nested.0 0 [] (lit< tt) (0, 0) refl in
    omega (arith, inside)

-- the square round one of three cells
square_of_one : ¬ IsCanonicalPolygon (Contains corner_ones) (plain ((0, 0) ∷ (1, 0) ∷ (1, 1) ∷ (0, 1) ∷ []))
square_of_one canonical =
    let member : Contains corner_ones (0, 1) = (1, lit< tt, refl) in
    let inside : 0 ≡ 1 = ((canonical.covers (0, 1)).1 member).shell in
    omega (arith, inside)

-- the holes in the wrong order
holes_exchanged : ¬ IsCanonicalPolygon (Contains two_holed) (record {
  shell = (0, 0) ∷ (4, 0) ∷ (4, 4) ∷ (0, 4) ∷ [];
  holes = ((2, 2) ∷ (2, 3) ∷ (3, 3) ∷ (3, 2) ∷ []) ∷ ((1, 1) ∷ (1, 2) ∷ (2, 2) ∷ (2, 1) ∷ []) ∷ [];
})
holes_exchanged canonical = elim (canonical.order 0 1 [] (lit< tt) (lit< tt) (2, 2) (1, 1) refl refl) [ inl above ↦ omega arith | inr level ↦ omega (arith, level.0) ]

-- a shell that starts at another corner than its least
late_start : ¬ IsCanonicalPolygon (Contains frame) (record frame_polygon { shell = (3, 0) ∷ (3, 3) ∷ (0, 3) ∷ (0, 0) ∷ [] })
late_start canonical = elim (canonical.starts 0 [] (lit< tt) 2 (0, 0) (lit< tt)) [ inl above ↦ omega arith | inr level ↦ omega (arith, level.0) ]

-- a hole that runs counterclockwise
hole_turned : ¬ IsCanonicalPolygon (Contains frame) (record frame_polygon { holes = ((1, 1) ∷ (2, 1) ∷ (2, 2) ∷ (1, 2) ∷ []) ∷ [] })
hole_turned canonical =
    let found = canonical.left ((1, 1), (2, 1)) (12, lit< tt, refl) in
    let at = left_of_down 1 1 found.0 found.1 in
    let here : Contains frame (1, 1) = subst (λ (p : Place). Contains frame p) (place_is found.0 1 1 at.0 at.1) found.2 in
    false≢true (has_complete same_place same_place_complete frame (1, 1) here)

-- a corner where the ring doesn't turn
straight_corner : ¬ IsCanonicalPolygon (Contains frame) (record frame_polygon { shell = (0, 0) ∷ (1, 0) ∷ (3, 0) ∷ (3, 3) ∷ (0, 3) ∷ [] })
straight_corner canonical = elim (canonical.turns 0 [] (lit< tt) 0 (((0, 0), (0, 0)), ((0, 0), (0, 0))) (lit< tt)) [ inl level ↦ level.0.1 refl | inr upright ↦ upright.1.1 refl ]

-- two cells that share a corner alone have no polygon

abbrev corner_pair : List Place
corner_pair = (0, 0) ∷ (1, 1) ∷ []

not_beside : (c : Place) → SharesSide (0, 0) c → c.0 ≡ c.1 → ⊥
not_beside c (inl (row, inl left)) same = omega arith
not_beside c (inl (row, inr right)) same = omega arith
not_beside c (inr (col, inl up)) same = omega arith
not_beside c (inr (col, inr down)) same = omega arith

stays_first : (c : Place) → SharesSide (0, 0) c → Contains corner_pair c → ⊥
stays_first c step member = elim (contains_cases (0, 0) ((1, 1) ∷ []) c member) [
  | inl first ↦ not_beside c step (subst (λ (p : Place). p.0 ≡ p.1) first refl)
  | inr rest ↦ elim (contains_cases (1, 1) [] c rest) [
    | inl second ↦ not_beside c step (subst (λ (p : Place). p.0 ≡ p.1) second refl)
    | inr none ↦ omega (arith, none.1)
  ]
]

no_walk : (set : Place → Type 0) → ((p : Place) → set p → Contains corner_pair p) → (walk : List Place) → IsWalk (StepsInto four set) (0, 0) walk (1, 1) → ⊥
no_walk set sound [] walked = omega (arith, ap (λ (p : Place). p.0) walked)
no_walk set sound (c ∷ cs) walked = stays_first c walked.0.0 (sound c walked.0.1)

corner_pair_has_none : (polygon : Polygon) → ¬ IsCanonicalPolygon (Contains corner_pair) polygon
corner_pair_has_none polygon canonical =
    let first : IsCovered polygon (0, 0) = (canonical.covers (0, 0)).1 (0, lit< tt, refl) in
    let second : IsCovered polygon (1, 1) = (canonical.covers (1, 1)).1 (1, lit< tt, refl) in
    let joined = canonical.valid.connected.1 (0, 0) (1, 1) first second in
    no_walk (IsCovered polygon) (λ p covered. (canonical.covers p).0 covered) joined.1 joined.2
