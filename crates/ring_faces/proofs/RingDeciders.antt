-- Deciders of rings: their edges, and the cells inside them.
use Rattle.std.proofs.Common.{◌≡◌, ◌≢◌, ℕ, ◌%◌, inl, inr, Bool, true, not, List, [], ◌∷◌, length, subst, arith}
use Rattle.std.specs.Prelude.{◌==◌, ◌&&◌, ◌||◌, nat_le, Contains}
use Rattle.std.specs.List.{list_all, list_any}
use Rattle.std.proofs.lemmas.Bool.{leb-true, eqb-true, eq-eqb, and_parts, and_from, or_left, or_right}
use Rattle.cell_base.specs.Raster.{Place}
use Rattle.cell_base.specs.Steps.{four}
use Rattle.cell_base.specs.Walk.{IsConnected, IsJoined}
use Rattle.cell_base.proofs.WalkLemmas.{joined_itself, joined_more, joined_sym, joined_trans}
use Rattle.edge_trace.specs.Edge.{Edge, IsUnitEdge, turned}
use Rattle.edge_trace.specs.Crossing.{crossing_count}
use Rattle.ring_faces.specs.Ring.{Ring, edges_of, corners_of, RunsAlong, IsInsideRing, IsSimpleRing}
use Rattle.ring_faces.specs.LatticePolygon.{Polygon, IsCovered, SharesNoEdge, SharesNoCell}
use Rattle.cell_base.proofs.ListDeciders.{all_sound, all_complete, all_pairs, any_sound, box_by, contains_cases, each_by, has, has_complete, implied, implies, in_box, not_true, all_pairs_sound, not_true_from}
use Rattle.edge_trace.proofs.EdgeDeciders.{is_unit, is_unit_sound, same_edge, same_edge_complete}
use Rattle.cell_base.proofs.PlaceDeciders.{same_place, same_place_complete}
use Rattle.cell_base.proofs.StepDeciders.{shares_side, shares_side_sound}
use Rattle.ring_faces.proofs.BoxLemmas.{enclosed_within, is_boxed}

-- simple rings

abbrev pub is_simple : Ring → Bool
is_simple ring = (list_all is_unit (edges_of ring) && nat_le 4 (length (edges_of ring))) && all_pairs (λ a b. not (same_place a b)) (corners_of ring)

pub is_simple_sound : (ring : Ring) → is_simple ring ≡ true → IsSimpleRing ring
is_simple_sound ring is =
    let parts = and_parts (list_all is_unit (edges_of ring) && nat_le 4 (length (edges_of ring))) (all_pairs (λ a b. not (same_place a b)) (corners_of ring)) is in
    let walk = and_parts (list_all is_unit (edges_of ring)) (nat_le 4 (length (edges_of ring))) parts.0 in
    record {
      closed = record {
        units = all_sound IsUnitEdge is_unit is_unit_sound (edges_of ring) walk.0;
        long = leb-true 4 (length (edges_of ring)) walk.1;
      };
      simple = all_pairs_sound (λ a b. a ≢ b) (λ a b. not (same_place a b)) (λ a b other same. not_true (same_place a b) other (same_place_complete a b same)) (corners_of ring) parts.1;
    }

-- edges of rings

abbrev pub runs_along : Ring → Edge → Bool
runs_along ring e = has same_edge (edges_of ring) e || has same_edge (edges_of ring) (turned e)

pub runs_complete : (ring : Ring) (e : Edge) → RunsAlong ring e → runs_along ring e ≡ true
runs_complete ring e (inl forth) = or_left (has same_edge (edges_of ring) e) (has same_edge (edges_of ring) (turned e)) (has_complete same_edge same_edge_complete (edges_of ring) e forth)
runs_complete ring e (inr back) = or_right (has same_edge (edges_of ring) e) (has same_edge (edges_of ring) (turned e)) (has_complete same_edge same_edge_complete (edges_of ring) (turned e) back)

abbrev pub shares_no_edge : Ring → Ring → Bool
shares_no_edge g h = list_all (λ e. not (runs_along h e)) (edges_of g)

runs_back : (ring : Ring) (e : Edge) → RunsAlong ring e → RunsAlong ring (turned e)
runs_back ring e (inl forth) = inr forth
runs_back ring e (inr back) = inl back

pub shares_no_edge_sound : (g h : Ring) → shares_no_edge g h ≡ true → SharesNoEdge g h
shares_no_edge_sound g h none e (inl forth) along =
    not_true (runs_along h e) (each_by (λ f. not (runs_along h f)) (edges_of g) e none forth) (runs_complete h e along)
shares_no_edge_sound g h none e (inr back) along =
    not_true (runs_along h (turned e)) (each_by (λ f. not (runs_along h f)) (edges_of g) (turned e) none back) (runs_complete h (turned e) (runs_back h e along))

-- cells of rings

abbrev pub is_inside : Ring → Place → Bool
is_inside ring cell = (crossing_count (edges_of ring) cell % 2) == 1

pub is_inside_sound : (ring : Ring) (cell : Place) → is_inside ring cell ≡ true → IsInsideRing ring cell
is_inside_sound ring cell is = eqb-true (crossing_count (edges_of ring) cell % 2) 1 is

pub is_inside_complete : (ring : Ring) (cell : Place) → IsInsideRing ring cell → is_inside ring cell ≡ true
is_inside_complete ring cell is = eq-eqb (crossing_count (edges_of ring) cell % 2) 1 is

abbrev pub is_ring_boxed : ℕ → ℕ → Ring → Bool
is_ring_boxed nrows ncols ring = is_boxed nrows ncols (edges_of ring)

-- a test of all cells of the box holds of each cell inside the ring
pub inside_by : (nrows ncols : ℕ) (ring : Ring) (test : Place → Bool) (cell : Place) → is_ring_boxed nrows ncols ring ≡ true → in_box nrows ncols test ≡ true → IsInsideRing ring cell → test cell ≡ true
inside_by nrows ncols ring test cell boxed all inside =
    let within = enclosed_within nrows ncols (edges_of ring) cell boxed inside in
    box_by nrows ncols test cell all within.0 within.1

abbrev pub is_hole_in : ℕ → ℕ → Ring → Ring → Bool
is_hole_in nrows ncols shell hole = is_ring_boxed nrows ncols hole && in_box nrows ncols (λ cell. implies (is_inside hole cell) (is_inside shell cell))

pub is_hole_in_sound : (nrows ncols : ℕ) (shell hole : Ring) → is_hole_in nrows ncols shell hole ≡ true → (cell : Place) → IsInsideRing hole cell → IsInsideRing shell cell
is_hole_in_sound nrows ncols shell hole is cell inside =
    let parts = and_parts (is_ring_boxed nrows ncols hole) (in_box nrows ncols (λ c. implies (is_inside hole c) (is_inside shell c))) is in
    is_inside_sound shell cell (implied (is_inside hole cell) (is_inside shell cell) (inside_by nrows ncols hole (λ c. implies (is_inside hole c) (is_inside shell c)) cell parts.0 parts.1 inside) (is_inside_complete hole cell inside))

abbrev pub shares_no_cell : ℕ → ℕ → Ring → Ring → Bool
shares_no_cell nrows ncols g h = is_ring_boxed nrows ncols g && in_box nrows ncols (λ cell. not (is_inside g cell && is_inside h cell))

pub shares_no_cell_sound : (nrows ncols : ℕ) (g h : Ring) → shares_no_cell nrows ncols g h ≡ true → SharesNoCell g h
shares_no_cell_sound nrows ncols g h is cell in_g in_h =
    let parts = and_parts (is_ring_boxed nrows ncols g) (in_box nrows ncols (λ c. not (is_inside g c && is_inside h c))) is in
    not_true (is_inside g cell && is_inside h cell) (inside_by nrows ncols g (λ c. not (is_inside g c && is_inside h c)) cell parts.0 parts.1 in_g) (and_from (is_inside g cell) (is_inside h cell) (is_inside_complete g cell in_g) (is_inside_complete h cell in_h))

abbrev pub is_covered : Polygon → Place → Bool
is_covered polygon cell = is_inside polygon.shell cell && list_all (λ hole. not (is_inside hole cell)) polygon.holes

pub is_covered_sound : (polygon : Polygon) (cell : Place) → is_covered polygon cell ≡ true → IsCovered polygon cell
is_covered_sound polygon cell is =
    let parts = and_parts (is_inside polygon.shell cell) (list_all (λ hole. not (is_inside hole cell)) polygon.holes) is in
    record {
      shell = is_inside_sound polygon.shell cell parts.0;
      holes = all_sound (λ hole. ¬ IsInsideRing hole cell) (λ hole. not (is_inside hole cell)) (λ hole out inside. not_true (is_inside hole cell) out (is_inside_complete hole cell inside)) polygon.holes parts.1;
    }

pub is_covered_complete : (polygon : Polygon) (cell : Place) → IsCovered polygon cell → is_covered polygon cell ≡ true
is_covered_complete polygon cell is = and_from (is_inside polygon.shell cell) (list_all (λ hole. not (is_inside hole cell)) polygon.holes) (is_inside_complete polygon.shell cell is.shell) (all_complete (λ hole. ¬ IsInsideRing hole cell) (λ hole. not (is_inside hole cell)) (λ hole out. not_true_from (is_inside hole cell) (λ inside. out (is_inside_sound hole cell inside))) polygon.holes is.holes)

-- connected sets, by a list in which each cell but the first has a side neighbour before it

abbrev pub spans : List Place → List Place → Bool
spans seen [] = true
spans seen (c ∷ cs) = list_any (λ s. shares_side s c) seen && spans (c ∷ seen) cs

spanned : (set : Place → Type 0) (test : Place → Bool) (sound : (p : Place) → test p ≡ true → set p) (root : Place) (seen ahead : List Place) → ((p : Place) → Contains seen p → IsJoined four set root p) → list_all test ahead ≡ true → spans seen ahead ≡ true → (p : Place) → Contains ahead p → IsJoined four set root p
spanned set test sound root seen [] joined all spanning p member = absurd (omega (arith, member.1))
spanned set test sound root seen (c ∷ cs) joined all spanning p member =
    let parts = and_parts (list_any (λ s. shares_side s c) seen) (spans (c ∷ seen) cs) spanning in
    let cells = and_parts (test c) (list_all test cs) all in
    let near = any_sound (λ s. shares_side s c) seen parts.0 in
    let to_c : IsJoined four set root c = joined_more four set root near.0 c (joined near.0 near.1) (shares_side_sound near.0 c near.2) (sound c cells.0) in
    elim (contains_cases c cs p member) [
      | inl here ↦ subst (λ (q : Place). IsJoined four set root q) here to_c
      | inr there ↦ spanned set test sound root (c ∷ seen) cs (λ q seen_q. elim (contains_cases c seen q seen_q) [ inl same ↦ subst (λ (s : Place). IsJoined four set root s) same to_c | inr old ↦ joined q old ]) cells.1 parts.1 p there
    ]

abbrev pub is_spanned : (Place → Bool) → List Place → Bool
is_spanned test [] = true
is_spanned test (root ∷ rest) = list_all test (root ∷ rest) && spans (root ∷ []) rest

pub is_spanned_sound : (set : Place → Type 0) (test : Place → Bool) → ((p : Place) → test p ≡ true → set p) → (cells : List Place) → is_spanned test cells ≡ true → ((p : Place) → set p → Contains cells p) → IsConnected four set
is_spanned_sound set test sound [] is complete a b in_a in_b = absurd (omega (arith, (complete a in_a).1))
is_spanned_sound set test sound (root ∷ rest) is complete a b in_a in_b =
    let parts = and_parts (list_all test (root ∷ rest)) (spans (root ∷ []) rest) is in
    let cells = and_parts (test root) (list_all test rest) parts.0 in
    let itself : IsJoined four set root root = joined_itself four set root (sound root cells.0) in
    let first : (p : Place) → Contains (root ∷ []) p → IsJoined four set root p = λ p member. elim (contains_cases root [] p member) [ inl here ↦ subst (λ (q : Place). IsJoined four set root q) here itself | inr there ↦ absurd (omega (arith, there.1)) ] in
    let reached : (p : Place) → set p → IsJoined four set root p = λ p in_p. elim (contains_cases root rest p (complete p in_p)) [
      | inl here ↦ subst (λ (q : Place). IsJoined four set root q) here itself
      | inr there ↦ spanned set test sound root (root ∷ []) rest first cells.1 parts.1 p there
    ] in
    joined_trans four set a root b (joined_sym four set root a (reached a in_a)) (reached b in_b)
