-- Deciders of valid and of canonical polygons.
use Rattle.std.proofs.Common.{◌≡◌, ℕ, inl, inr, Bool, true, false, not, List, [], ◌∷◌, refl, arith}
use Rattle.std.specs.Prelude.{◌==◌, ◌&&◌, ◌||◌, Contains}
use Rattle.std.specs.List.{list_all, list_any}
use Rattle.std.proofs.lemmas.Bool.{eqb-true, eq-eqb, false≢true, and_parts, or_cases}
use Rattle.cell_base.specs.Raster.{Place}
use Rattle.cell_base.specs.Order.{IsBefore}
use Rattle.edge_trace.specs.Edge.{Edge, edges_round}
use Rattle.ring_faces.specs.Ring.{Ring, pairs_round, IsInsideRing, IsSimpleRing}
use Rattle.ring_faces.specs.LatticePolygon.{Polygon, rings_of, IsCovered, SharesNoEdge, SharesNoCell, DoNotCross, IsValidPolygon}
use Rattle.ring_faces.specs.EdgePolygon.{all_edges}
use Rattle.ring_faces.specs.CanonicalPolygon.{IsLevel, IsUpright, IsTurn, ListsTurns, StartsLeast, StartsBefore, IsCanonicalPolygon}
use Rattle.cell_base.proofs.PlaceDeciders.{is_before, is_before_sound}
use Rattle.cell_base.proofs.ListDeciders.{all_sound, all_pairs, any_sound, each_by, has, has_sound, not_true, all_pairs_sound}
use Rattle.edge_trace.proofs.EdgeDeciders.{same_edge, same_edge_sound}
use Rattle.ring_faces.proofs.RingDeciders.{is_covered, is_covered_sound, is_hole_in, is_hole_in_sound, is_simple, is_simple_sound, is_spanned, is_spanned_sound, shares_no_cell, shares_no_cell_sound, shares_no_edge, shares_no_edge_sound}
use Rattle.ring_faces.proofs.ValidDeciders.{are_holes_spanned, covers_list, covers_list_sound, do_not_cross, do_not_cross_sound, holes_spanned_sound}

abbrev pub has_cells : List Place → Bool
has_cells [] = false
has_cells (c ∷ cs) = true

-- the six rules, where the cells covered and those inside each hole are given, each list in an order that spans it
abbrev pub is_valid : ℕ → ℕ → List Place → List (List Place) → Polygon → Bool
is_valid nrows ncols cells hole_cells polygon =
    (list_all is_simple (rings_of polygon) && all_pairs shares_no_edge (rings_of polygon))
    && ((list_all (is_hole_in nrows ncols polygon.shell) polygon.holes && all_pairs (shares_no_cell nrows ncols) polygon.holes)
    && (((has_cells cells && covers_list nrows ncols polygon cells) && is_spanned (is_covered polygon) cells)
    && (are_holes_spanned nrows ncols polygon.holes hole_cells && all_pairs (do_not_cross nrows ncols) (rings_of polygon))))

some_covered : (nrows ncols : ℕ) (polygon : Polygon) (cells : List Place) → has_cells cells ≡ true → covers_list nrows ncols polygon cells ≡ true → (cell : Place) × IsCovered polygon cell
some_covered nrows ncols polygon [] some covers = absurd (false≢true some)
some_covered nrows ncols polygon (c ∷ cs) some covers = (c, (covers_list_sound nrows ncols polygon (c ∷ cs) covers c).1 (0, omega arith, refl))

pub is_valid_sound : (nrows ncols : ℕ) (cells : List Place) (hole_cells : List (List Place)) (polygon : Polygon) → is_valid nrows ncols cells hole_cells polygon ≡ true → IsValidPolygon polygon
is_valid_sound nrows ncols cells hole_cells polygon is =
    let one = and_parts (list_all is_simple (rings_of polygon) && all_pairs shares_no_edge (rings_of polygon)) _ is in
    let rings = and_parts (list_all is_simple (rings_of polygon)) (all_pairs shares_no_edge (rings_of polygon)) one.0 in
    let two = and_parts (list_all (is_hole_in nrows ncols polygon.shell) polygon.holes && all_pairs (shares_no_cell nrows ncols) polygon.holes) _ one.1 in
    let nest = and_parts (list_all (is_hole_in nrows ncols polygon.shell) polygon.holes) (all_pairs (shares_no_cell nrows ncols) polygon.holes) two.0 in
    let three = and_parts ((has_cells cells && covers_list nrows ncols polygon cells) && is_spanned (is_covered polygon) cells) _ two.1 in
    let inner = and_parts (has_cells cells && covers_list nrows ncols polygon cells) (is_spanned (is_covered polygon) cells) three.0 in
    let some = and_parts (has_cells cells) (covers_list nrows ncols polygon cells) inner.0 in
    let four = and_parts (are_holes_spanned nrows ncols polygon.holes hole_cells) (all_pairs (do_not_cross nrows ncols) (rings_of polygon)) three.1 in
    record {
      simple = all_sound IsSimpleRing is_simple is_simple_sound (rings_of polygon) rings.0;
      no_shared_edge = all_pairs_sound SharesNoEdge shares_no_edge shares_no_edge_sound (rings_of polygon) rings.1;
      nested = (all_sound (λ hole. (cell : Place) → IsInsideRing hole cell → IsInsideRing polygon.shell cell) (is_hole_in nrows ncols polygon.shell) (is_hole_in_sound nrows ncols polygon.shell) polygon.holes nest.0, all_pairs_sound SharesNoCell (shares_no_cell nrows ncols) (shares_no_cell_sound nrows ncols) polygon.holes nest.1);
      connected = (some_covered nrows ncols polygon cells some.0 some.1, is_spanned_sound (IsCovered polygon) (is_covered polygon) (is_covered_sound polygon) cells inner.1 (λ p covered. (covers_list_sound nrows ncols polygon cells some.1 p).0 covered));
      holes_connected = holes_spanned_sound nrows ncols polygon.holes hole_cells four.0;
      tangent = all_pairs_sound DoNotCross (do_not_cross nrows ncols) (do_not_cross_sound nrows ncols) (rings_of polygon) four.1;
    }

-- turns, starts and order

abbrev pub is_level : Edge → Bool
is_level side = (side.0.0 == side.1.0) && not (side.0.1 == side.1.1)

abbrev pub is_upright : Edge → Bool
is_upright side = (side.0.1 == side.1.1) && not (side.0.0 == side.1.0)

abbrev pub is_turn : Edge × Edge → Bool
is_turn sides = (is_level sides.0 && is_upright sides.1) || (is_upright sides.0 && is_level sides.1)

level_sound : (side : Edge) → is_level side ≡ true → IsLevel side
level_sound side is =
    let parts = and_parts (side.0.0 == side.1.0) (not (side.0.1 == side.1.1)) is in
    (eqb-true side.0.0 side.1.0 parts.0, λ same. not_true (side.0.1 == side.1.1) parts.1 (eq-eqb side.0.1 side.1.1 same))

upright_sound : (side : Edge) → is_upright side ≡ true → IsUpright side
upright_sound side is =
    let parts = and_parts (side.0.1 == side.1.1) (not (side.0.0 == side.1.0)) is in
    (eqb-true side.0.1 side.1.1 parts.0, λ same. not_true (side.0.0 == side.1.0) parts.1 (eq-eqb side.0.0 side.1.0 same))

turn_sound : (sides : Edge × Edge) → is_turn sides ≡ true → IsTurn sides
turn_sound sides is = elim (or_cases (is_level sides.0 && is_upright sides.1) (is_upright sides.0 && is_level sides.1) is) [
  | inl first ↦
      let parts = and_parts (is_level sides.0) (is_upright sides.1) first in
      inl (level_sound sides.0 parts.0, upright_sound sides.1 parts.1)
  | inr second ↦
      let parts = and_parts (is_upright sides.0) (is_level sides.1) second in
      inr (upright_sound sides.0 parts.0, level_sound sides.1 parts.1)
]

abbrev pub lists_turns : Ring → Bool
lists_turns ring = list_all is_turn (pairs_round (pairs_round ring))

lists_turns_sound : (ring : Ring) → lists_turns ring ≡ true → ListsTurns ring
lists_turns_sound ring is = all_sound IsTurn is_turn turn_sound (pairs_round (pairs_round ring)) is

abbrev pub starts_least : Ring → Bool
starts_least [] = false
starts_least (first ∷ others) = list_all (is_before first) others

starts_least_sound : (ring : Ring) → starts_least ring ≡ true → StartsLeast ring
starts_least_sound [] is = false≢true is
starts_least_sound (first ∷ others) is = all_sound (IsBefore first) (is_before first) (is_before_sound first) others is

abbrev pub starts_before : Ring → Ring → Bool
starts_before [] h = false
starts_before (a ∷ as_) [] = false
starts_before (a ∷ as_) (b ∷ bs) = is_before a b

starts_before_sound : (g h : Ring) → starts_before g h ≡ true → StartsBefore g h
starts_before_sound [] h is = absurd (false≢true is)
starts_before_sound (a ∷ as_) [] is = absurd (false≢true is)
starts_before_sound (a ∷ as_) (b ∷ bs) is = λ p q at_p at_q.
    let same_p : a ≡ p = cc in
    let same_q : b ≡ q = cc in
    rw (← same_p, ← same_q) (is_before_sound a b is)

-- all of it
abbrev pub is_canonical : ℕ → ℕ → List Place → List (List Place) → Polygon → Bool
is_canonical nrows ncols cells hole_cells polygon =
    is_valid nrows ncols cells hole_cells polygon
    && (covers_list nrows ncols polygon cells
    && (list_all (λ e. list_any (λ cell. has same_edge (edges_round cell) e) cells) (all_edges polygon)
    && (list_all lists_turns (rings_of polygon)
    && (list_all starts_least (rings_of polygon) && all_pairs starts_before polygon.holes))))

pub is_canonical_sound : (nrows ncols : ℕ) (cells : List Place) (hole_cells : List (List Place)) (polygon : Polygon) → is_canonical nrows ncols cells hole_cells polygon ≡ true → IsCanonicalPolygon (Contains cells) polygon
is_canonical_sound nrows ncols cells hole_cells polygon is =
    let one = and_parts (is_valid nrows ncols cells hole_cells polygon) _ is in
    let two = and_parts (covers_list nrows ncols polygon cells) _ one.1 in
    let three = and_parts (list_all (λ e. list_any (λ cell. has same_edge (edges_round cell) e) cells) (all_edges polygon)) _ two.1 in
    let four = and_parts (list_all lists_turns (rings_of polygon)) _ three.1 in
    let five = and_parts (list_all starts_least (rings_of polygon)) (all_pairs starts_before polygon.holes) four.1 in
    record {
      valid = is_valid_sound nrows ncols cells hole_cells polygon one.0;
      covers = covers_list_sound nrows ncols polygon cells two.0;
      left = λ e member.
          let found = any_sound (λ cell. has same_edge (edges_round cell) e) cells (each_by (λ f. list_any (λ cell. has same_edge (edges_round cell) f) cells) (all_edges polygon) e three.0 member) in
          (found.0, has_sound same_edge same_edge_sound (edges_round found.0) e found.2, found.1);
      turns = all_sound ListsTurns lists_turns lists_turns_sound (rings_of polygon) four.0;
      starts = all_sound StartsLeast starts_least starts_least_sound (rings_of polygon) five.0;
      order = all_pairs_sound StartsBefore starts_before starts_before_sound polygon.holes five.1;
    }
