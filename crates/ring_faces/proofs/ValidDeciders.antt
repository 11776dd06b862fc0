-- Deciders of rings that cross, and of the cells that a polygon covers.
use Rattle.std.proofs.Common.{◌≡◌, ℕ, ◌+◌, ◌≤◌, ◌↔◌, inl, inr, Bool, true, false, not, List, [], ◌∷◌, arith}
use Rattle.std.specs.Prelude.{◌&&◌, All, Contains}
use Rattle.std.specs.List.{list_all}
use Rattle.std.proofs.lemmas.Bool.{false≢true, and_parts, and_from}
use Rattle.std.proofs.lemmas.Bool.Decides.{nat_tests}
use Rattle.std.proofs.lemmas.List.Elements.{All-nil, All-cons}
use Rattle.cell_base.specs.Raster.{Place}
use Rattle.cell_base.specs.Steps.{four}
use Rattle.cell_base.specs.Walk.{IsConnected}
use Rattle.edge_trace.specs.Edge.{Edge}
use Rattle.ring_faces.specs.Ring.{Ring, edges_of, RunsAlong, IsInsideRing}
use Rattle.ring_faces.specs.LatticePolygon.{Polygon, IsCovered, PassesUpright, PassesLevel, DoNotCross}
use Rattle.cell_base.proofs.ListDeciders.{box_by, each_by, has, has_sound, implied, implies, in_box, not_true}
use Rattle.cell_base.proofs.PlaceDeciders.{same_place, same_place_sound}
use Rattle.ring_faces.proofs.BoxLemmas.{is_within}
use Rattle.ring_faces.proofs.RingDeciders.{inside_by, is_covered, is_covered_sound, is_covered_complete, is_inside, is_inside_sound, is_inside_complete, is_ring_boxed, is_spanned, is_spanned_sound, runs_along, runs_complete}

-- crossing rings

abbrev pub passes_upright : Ring → Place → Bool
passes_upright ring (row, col) = runs_along ring ((row, col + 1), (row + 1, col + 1)) && runs_along ring ((row + 1, col + 1), (row + 2, col + 1))

abbrev pub passes_level : Ring → Place → Bool
passes_level ring (row, col) = runs_along ring ((row + 1, col), (row + 1, col + 1)) && runs_along ring ((row + 1, col + 1), (row + 1, col + 2))

upright_complete : (ring : Ring) (row col : ℕ) → PassesUpright ring row col → passes_upright ring (row, col) ≡ true
upright_complete ring row col passes = and_from (runs_along ring ((row, col + 1), (row + 1, col + 1))) (runs_along ring ((row + 1, col + 1), (row + 2, col + 1))) (runs_complete ring ((row, col + 1), (row + 1, col + 1)) passes.0) (runs_complete ring ((row + 1, col + 1), (row + 2, col + 1)) passes.1)

level_complete : (ring : Ring) (row col : ℕ) → PassesLevel ring row col → passes_level ring (row, col) ≡ true
level_complete ring row col passes = and_from (runs_along ring ((row + 1, col), (row + 1, col + 1))) (runs_along ring ((row + 1, col + 1), (row + 1, col + 2))) (runs_complete ring ((row + 1, col), (row + 1, col + 1)) passes.0) (runs_complete ring ((row + 1, col + 1), (row + 1, col + 2)) passes.1)

within_sound : (nrows ncols : ℕ) (e : Edge) → is_within nrows ncols e ≡ true → ((e.0.0 ≤ nrows) × (e.1.0 ≤ nrows)) × ((e.0.1 ≤ ncols) × (e.1.1 ≤ ncols))
within_sound nrows ncols e is = ((grind (arith, nat_tests), grind (arith, nat_tests)), (grind (arith, nat_tests), grind (arith, nat_tests)))

abbrev are_within : ℕ → ℕ → Ring → Bool
are_within nrows ncols ring = list_all (is_within nrows ncols) (edges_of ring)

runs_within : (nrows ncols : ℕ) (ring : Ring) (e : Edge) → are_within nrows ncols ring ≡ true → RunsAlong ring e → (e.1.0 ≤ nrows) × (e.1.1 ≤ ncols)
runs_within nrows ncols ring e all (inl forth) =
    let at = within_sound nrows ncols e (each_by (is_within nrows ncols) (edges_of ring) e all forth) in
    (at.0.1, at.1.1)
runs_within nrows ncols ring e all (inr back) =
    let at = within_sound nrows ncols (e.1, e.0) (each_by (is_within nrows ncols) (edges_of ring) (e.1, e.0) all back) in
    (at.0.0, at.1.0)

abbrev pub do_not_cross : ℕ → ℕ → Ring → Ring → Bool
do_not_cross nrows ncols g h =
    are_within nrows ncols g && in_box nrows ncols (λ p. not (passes_upright g p && passes_level h p) && not (passes_level g p && passes_upright h p))

pub do_not_cross_sound : (nrows ncols : ℕ) (g h : Ring) → do_not_cross nrows ncols g h ≡ true → DoNotCross g h
do_not_cross_sound nrows ncols g h is row col =
    let parts = and_parts (are_within nrows ncols g) (in_box nrows ncols (λ p. not (passes_upright g p && passes_level h p) && not (passes_level g p && passes_upright h p))) is in
    let at : row + 1 ≤ nrows → col + 1 ≤ ncols → (not (passes_upright g (row, col) && passes_level h (row, col)) ≡ true) × (not (passes_level g (row, col) && passes_upright h (row, col)) ≡ true) =
    λ in_row in_col. and_parts (not (passes_upright g (row, col) && passes_level h (row, col))) (not (passes_level g (row, col) && passes_upright h (row, col))) (box_by nrows ncols (λ p. not (passes_upright g p && passes_level h p) && not (passes_level g p && passes_upright h p)) (row, col) parts.1 (omega arith) (omega arith)) in (
      λ cross.
          let end = runs_within nrows ncols g ((row, col + 1), (row + 1, col + 1)) parts.0 cross.0.0 in
          not_true (passes_upright g (row, col) && passes_level h (row, col)) (at end.0 end.1).0 (and_from (passes_upright g (row, col)) (passes_level h (row, col)) (upright_complete g row col cross.0) (level_complete h row col cross.1)),
      λ cross.
          let end = runs_within nrows ncols g ((row + 1, col), (row + 1, col + 1)) parts.0 cross.0.0 in
          not_true (passes_level g (row, col) && passes_upright h (row, col)) (at end.0 end.1).1 (and_from (passes_level g (row, col)) (passes_upright h (row, col)) (level_complete g row col cross.0) (upright_complete h row col cross.1)),
    )

-- holes and the cells inside them, each list spanning its hole

abbrev pub is_hole_spanned : ℕ → ℕ → Ring → List Place → Bool
is_hole_spanned nrows ncols hole cells =
    (is_ring_boxed nrows ncols hole && in_box nrows ncols (λ p. implies (is_inside hole p) (has same_place cells p))) && is_spanned (is_inside hole) cells

hole_spanned_sound : (nrows ncols : ℕ) (hole : Ring) (cells : List Place) → is_hole_spanned nrows ncols hole cells ≡ true → IsConnected four (IsInsideRing hole)
hole_spanned_sound nrows ncols hole cells is =
    let parts = and_parts (is_ring_boxed nrows ncols hole && in_box nrows ncols (λ p. implies (is_inside hole p) (has same_place cells p))) (is_spanned (is_inside hole) cells) is in
    let box = and_parts (is_ring_boxed nrows ncols hole) (in_box nrows ncols (λ p. implies (is_inside hole p) (has same_place cells p))) parts.0 in
    is_spanned_sound (IsInsideRing hole) (is_inside hole) (is_inside_sound hole) cells parts.1 (λ p inside.
    has_sound same_place same_place_sound cells p (implied (is_inside hole p) (has same_place cells p) (inside_by nrows ncols hole (λ q. implies (is_inside hole q) (has same_place cells q)) p box.0 box.1 inside) (is_inside_complete hole p inside)))

abbrev pub are_holes_spanned : ℕ → ℕ → List Ring → List (List Place) → Bool
are_holes_spanned nrows ncols [] cells = true
are_holes_spanned nrows ncols (hole ∷ holes) [] = false
are_holes_spanned nrows ncols (hole ∷ holes) (c ∷ cs) = is_hole_spanned nrows ncols hole c && are_holes_spanned nrows ncols holes cs

pub holes_spanned_sound : (nrows ncols : ℕ) (holes : List Ring) (cells : List (List Place)) → are_holes_spanned nrows ncols holes cells ≡ true → All (λ hole. IsConnected four (IsInsideRing hole)) holes
holes_spanned_sound nrows ncols [] cells is = All-nil (λ hole. IsConnected four (IsInsideRing hole))
holes_spanned_sound nrows ncols (hole ∷ holes) [] is = absurd (false≢true is)
holes_spanned_sound nrows ncols (hole ∷ holes) (c ∷ cs) is =
    let parts = and_parts (is_hole_spanned nrows ncols hole c) (are_holes_spanned nrows ncols holes cs) is in
    All-cons (λ h. IsConnected four (IsInsideRing h)) hole holes (hole_spanned_sound nrows ncols hole c parts.0) (holes_spanned_sound nrows ncols holes cs parts.1)

-- the covered cells are those of a list

abbrev pub covers_list : ℕ → ℕ → Polygon → List Place → Bool
covers_list nrows ncols polygon cells =
    (is_ring_boxed nrows ncols polygon.shell && in_box nrows ncols (λ p. implies (is_covered polygon p) (has same_place cells p))) && list_all (is_covered polygon) cells

pub covers_list_sound : (nrows ncols : ℕ) (polygon : Polygon) (cells : List Place) → covers_list nrows ncols polygon cells ≡ true → (p : Place) → IsCovered polygon p ↔ Contains cells p
covers_list_sound nrows ncols polygon cells is p =
    let parts = and_parts (is_ring_boxed nrows ncols polygon.shell && in_box nrows ncols (λ q. implies (is_covered polygon q) (has same_place cells q))) (list_all (is_covered polygon) cells) is in
    let box = and_parts (is_ring_boxed nrows ncols polygon.shell) (in_box nrows ncols (λ q. implies (is_covered polygon q) (has same_place cells q))) parts.0 in (
      λ covered. has_sound same_place same_place_sound cells p (implied (is_covered polygon p) (has same_place cells p) (inside_by nrows ncols polygon.shell (λ q. implies (is_covered polygon q) (has same_place cells q)) p box.0 box.1 covered.shell) (is_covered_complete polygon p covered)),
      λ member. is_covered_sound polygon p (each_by (is_covered polygon) cells p parts.1 member),
    )
