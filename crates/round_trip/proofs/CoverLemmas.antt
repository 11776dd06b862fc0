-- The centre rule over the written rings of an edge polygon covers exactly the cells of its set.
use Rattle.std.proofs.Common.{◌≡◌, ℕ, ℤ, zero, suc, ◌+◌, ◌%◌, ◌<◌, ◌↔◌, inl, inr, Bool, true, false, List, [], ◌∷◌, ◌++◌, refl, sym, ap, ◌∙◌, subst, arith}
use Rattle.std.specs.Prelude.{◌==◌, All, map}
use Rattle.std.specs.List.{flat_map}
use Rattle.std.proofs.Math.Bool.{xor}
use Rattle.std.proofs.lemmas.Bool.{eqb-true, eq-eqb}
use Rattle.std.proofs.lemmas.List.Elements.{All-nil, All-cons, All-head, All-tail}
use Rattle.cell_base.specs.Raster.{Place}
use Rattle.geo_transform.specs.Corner.{centre2_of}
use Rattle.geo_transform.specs.Frame.{IsFrame}
use Rattle.geo_transform.specs.declared.frame.Frame.{Frame}
use Rattle.edge_trace.specs.Edge.{Edge, HasOnLeft}
use Rattle.edge_trace.specs.Crossing.{is_crossed, crossing_count}
use Rattle.edge_trace.specs.EdgeTable.{IsEnclosedByBoundary}
use Rattle.edge_trace.proofs.ParityLemmas.{is_odd, odd_count, odd_is_count, xor_false}
use Rattle.ring_faces.specs.Ring.{Ring, cut, edges_of as edges_round_ring, pairs_round}
use Rattle.ring_faces.specs.LatticePolygon.{Polygon, rings_of}
use Rattle.ring_faces.specs.EdgePolygon.{IsEdgePolygon, all_edges as all_unit_edges}
use Rattle.ring_faces.proofs.MemberLemmas.{all_of}
use Rattle.wkt_text.specs.declared.geometry.Geometry.TheVariants as geometry
use Rattle.burn_scanline.specs.Ring.{Edge as Side, all_edges, edges_of}
use Rattle.burn_scanline.specs.Centre.{counts, is_covered}
use Rattle.tool_outcome.specs.Polygonize.{path_of, paths_of, point_of}
use Rattle.round_trip.specs.Layer.{IsInFrame}
use Rattle.round_trip.proofs.SideLemmas.{counts_none}
use Rattle.round_trip.proofs.CutLemmas.{IsGood, side_at, side_odd}
use Rattle.round_trip.proofs.RingLemmas.{edges_written, written_edges}

xor_joined : (a b c : Bool) → xor a (xor b c) ≡ xor (xor a b) c
unfolding xor
xor_joined true true true = refl
xor_joined true true false = refl
xor_joined true false true = refl
xor_joined true false false = refl
xor_joined false true true = refl
xor_joined false true false = refl
xor_joined false false true = refl
xor_joined false false false = refl

odd_append : {A : Type 0} (test : A → Bool) (xs ys : List A) → is_odd test (xs ++ ys) ≡ xor (is_odd test xs) (is_odd test ys)
odd_append test [] ys = sym (xor_false (is_odd test ys))
odd_append test (x ∷ xs) ys = ap (xor (test x)) (odd_append test xs ys) ∙ xor_joined (test x) (is_odd test xs) (is_odd test ys)

all_front : {A : Type 0} (P : A → Type 0) (xs ys : List A) → All P (xs ++ ys) → All P xs
all_front P [] ys all = All-nil P
all_front P (x ∷ xs) ys all = All-cons P x xs (All-head P x (xs ++ ys) all) (all_front P xs ys (All-tail P x (xs ++ ys) all))

all_rest : {A : Type 0} (P : A → Type 0) (xs ys : List A) → All P (xs ++ ys) → All P ys
all_rest P [] ys all = all
all_rest P (x ∷ xs) ys all = all_rest P xs ys (All-tail P x (xs ++ ys) all)

-- sides and their unit edges
odd_sides : (f : Frame) → IsFrame f → (cell : Place) → cell.0 < f.nrows → (sides : List Edge) → All (IsGood f.nrows) (flat_map cut sides)
    → is_odd (counts (centre2_of f cell.0 cell.1)) (map (side_at f) sides) ≡ is_odd (is_crossed cell) (flat_map cut sides)
odd_sides f is cell in_row [] all = refl
odd_sides f is cell in_row (e ∷ es) all =
    let test : Side → Bool = counts (centre2_of f cell.0 cell.1) in
    ap (λ (b : Bool). xor b (is_odd test (map (side_at f) es))) (side_odd f is cell in_row e (all_front (IsGood f.nrows) (cut e) (flat_map cut es) all))
    ∙ ap (xor (is_odd (is_crossed cell) (cut e))) (odd_sides f is cell in_row es (all_rest (IsGood f.nrows) (cut e) (flat_map cut es) all))
    ∙ sym (odd_append (is_crossed cell) (cut e) (flat_map cut es))

-- the edge of no length in front counts nothing
odd_none : (f : Frame) (centre : ℤ × ℤ) (ring : Ring) → is_odd (counts centre) (written_edges f ring) ≡ is_odd (counts centre) (map (side_at f) (pairs_round ring))
odd_none f centre [] = refl
odd_none f centre (x ∷ xs) =
    let rest : Bool = is_odd (counts centre) (map (side_at f) (pairs_round (x ∷ xs))) in
    ap (λ (b : Bool). xor b rest) (counts_none centre (point_of f x)) ∙ xor_false rest

odd_ring : (f : Frame) → IsFrame f → (cell : Place) → cell.0 < f.nrows → (ring : Ring) → All (IsGood f.nrows) (edges_round_ring ring)
    → is_odd (counts (centre2_of f cell.0 cell.1)) (edges_of (path_of f ring)) ≡ is_odd (is_crossed cell) (edges_round_ring ring)
odd_ring f is cell in_row ring all =
    ap (is_odd (counts (centre2_of f cell.0 cell.1))) (edges_written f ring)
    ∙ odd_none f (centre2_of f cell.0 cell.1) ring
    ∙ odd_sides f is cell in_row (pairs_round ring) all

-- all rings
odd_rings : (f : Frame) → IsFrame f → (cell : Place) → cell.0 < f.nrows → (rings : List Ring) → All (IsGood f.nrows) (flat_map edges_round_ring rings)
    → is_odd (counts (centre2_of f cell.0 cell.1)) (flat_map edges_of (map (path_of f) rings)) ≡ is_odd (is_crossed cell) (flat_map edges_round_ring rings)
odd_rings f is cell in_row [] all = refl
odd_rings f is cell in_row (ring ∷ rings) all =
    let test : Side → Bool = counts (centre2_of f cell.0 cell.1) in
    let rest : List Side = flat_map edges_of (map (path_of f) rings) in
    odd_append test (edges_of (path_of f ring)) rest
    ∙ ap (λ (b : Bool). xor b (is_odd test rest)) (odd_ring f is cell in_row ring (all_front (IsGood f.nrows) (edges_round_ring ring) (flat_map edges_round_ring rings) all))
    ∙ ap (xor (is_odd (is_crossed cell) (edges_round_ring ring))) (odd_rings f is cell in_row rings (all_rest (IsGood f.nrows) (edges_round_ring ring) (flat_map edges_round_ring rings) all))
    ∙ sym (odd_append (is_crossed cell) (edges_round_ring ring) (flat_map edges_round_ring rings))

-- the edges round a cell of so many rows
good_round : (nrows r c : ℕ) → r < nrows → (e : Edge) → HasOnLeft e (r, c) → IsGood nrows e
good_round nrows r c in_row e (zero, within, is) = subst (IsGood nrows) is (record { unit = inr (refl, inr refl); start = omega arith; end = omega arith })
good_round nrows r c in_row e (suc zero, within, is) = subst (IsGood nrows) is (record { unit = inl (refl, inr refl); start = omega arith; end = omega arith })
good_round nrows r c in_row e (suc (suc zero), within, is) = subst (IsGood nrows) is (record { unit = inr (refl, inl refl); start = omega arith; end = omega arith })
good_round nrows r c in_row e (suc (suc (suc zero)), within, is) = subst (IsGood nrows) is (record { unit = inl (refl, inl refl); start = omega arith; end = omega arith })
good_round nrows r c in_row e (suc (suc (suc (suc k))), within, is) = absurd (omega arith)

all_good : (f : Frame) (set : Place → Type 0) → ((p : Place) → set p → IsInFrame f p) → (polygon : Polygon) → IsEdgePolygon set polygon
    → All (IsGood f.nrows) (all_unit_edges polygon)
all_good f set inside polygon has = all_of (IsGood f.nrows) (all_unit_edges polygon) (λ e member.
    let left = ((has.edges.all e).0 member).left in
    good_round f.nrows left.0.0 left.0.1 (inside left.0 left.2).0 e left.1)

-- a set that its boundary encloses is what its written polygon covers
pub covers_enclosed : (f : Frame) → IsFrame f → (set : Place → Type 0) → IsEnclosedByBoundary set → ((p : Place) → set p → IsInFrame f p)
    → (polygon : Polygon) → IsEdgePolygon set polygon → (cell : Place) → IsInFrame f cell
    → (is_covered f (geometry.Polygon (paths_of f polygon)) cell ≡ true) ↔ set cell
covers_enclosed f is set enclosed inside polygon has cell at =
    let same : is_covered f (geometry.Polygon (paths_of f polygon)) cell ≡ ((crossing_count (all_unit_edges polygon) cell % 2) == 1) =
    sym (odd_count (counts (centre2_of f cell.0 cell.1)) (all_edges (geometry.Polygon (paths_of f polygon))))
    ∙ odd_rings f is cell at.0 (rings_of polygon) (all_good f set inside polygon has)
    ∙ odd_is_count cell (all_unit_edges polygon) in
    let back = enclosed (all_unit_edges polygon) has.edges cell in (
      λ covered. back.1 (eqb-true (crossing_count (all_unit_edges polygon) cell % 2) 1 (sym same ∙ covered)),
      λ in_set. same ∙ eq-eqb (crossing_count (all_unit_edges polygon) cell % 2) 1 (back.0 in_set),
    )
