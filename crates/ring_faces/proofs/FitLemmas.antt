-- The canonical polygon of a component in the loose form, and how long and wide its rings are.
use Rattle.std.proofs.Common.{ℕ, zero, suc, ◌+◌, ◌*◌, ◌<◌, ◌≤◌, Bool, true, false, [], ◌∷◌, Some, length, sym, ap, subst, arith, refl, ◌∙◌}
use Rattle.std.specs.Prelude.{All, Contains}
use Rattle.std.proofs.lemmas.List.Elements.{All-contains}
use Rattle.std.proofs.Math.Nat.{mul-le-mul, mul-le-mul_left}
use Rattle.cell_base.specs.Raster.{Place, IsRaster}
use Rattle.cell_base.proofs.PlaceLemmas.{element_at, inside_from_value}
use Rattle.region_label.specs.Labelling.{RegionTable, IsInRegion}
use Rattle.region_label.proofs.RegionDeciders.{is_in_region}
use Rattle.edge_trace.specs.Edge.{Corner, Edge, HasOnLeft}
use Rattle.edge_trace.specs.EdgeTable.{EdgeTable, HoldsBoundaries}
use Rattle.ring_faces.specs.Ring.{Ring, edges_of}
use Rattle.ring_faces.specs.LatticePolygon.{Polygon, rings_of}
use Rattle.ring_faces.specs.EdgePolygon.{IsEdgePolygon}
use Rattle.ring_faces.specs.CanonicalPolygon.{IsCanonicalPolygon, ListsTurns, StartsLeast}
use Rattle.ring_faces.specs.Faces.{AreJoinedBySides, IsCornerOf, FitsGrid}
use Rattle.ring_faces.specs.Inner.Lattice.{HasNumber, HaveNumbers, IsWidth}
use Rattle.ring_faces.specs.Inner.Tables.{edge_at}
use Rattle.ring_faces.proofs.MemberLemmas.{all_of, in_flat}
use Rattle.ring_faces.proofs.TurnLemmas.{HasWay, Turning, ring_way, turns_back}
use Rattle.ring_faces.proofs.StartLemmas.{start_of_turn}
use Rattle.ring_faces.proofs.TracedLemmas.{canonical_edges}
use Rattle.ring_faces.proofs.RegionLemmas.{region_first, region_tests}
use Rattle.ring_faces.proofs.TableLemmas.{edge_is_at}

-- each component that has a canonical polygon has a first cell
pub edge_polygon : (regions : RegionTable) (k : ℕ) (polygon : Polygon) → AreJoinedBySides regions → IsCanonicalPolygon (IsInRegion regions k) polygon
    → IsEdgePolygon (IsInRegion regions k) polygon
edge_polygon regions k polygon by_sides canonical =
    let some = canonical.valid.connected.0 in
    let in_k = (canonical.covers some.0).0 some.1 in
    let first = element_at regions.firsts k (by_sides.known k some.0 in_k) in
    canonical_edges (IsInRegion regions k) (is_in_region regions k) first.0 (region_tests regions k) (by_sides.joined k)
    (region_first regions by_sides k first.0 first.1) polygon canonical

-- fewer than four sides can't turn from one to the next and come back

one_side : (way : Bool) (x : Corner) → ¬ HasWay way (x, x)
one_side true x is = is.1 refl
one_side false x is = is.1 refl

two_sides : (way : Bool) (x y : Corner) → ¬ Turning way ((x, y) ∷ (y, x) ∷ [])
two_sides true x y turning = turning.0.1 (sym turning.1.0.0)
two_sides false x y turning = turning.0.1 (sym turning.1.0.0)

three_sides : (way : Bool) (x y z : Corner) → ¬ Turning way ((x, y) ∷ (y, z) ∷ (z, x) ∷ [])
three_sides true x y z turning = turning.1.0.1 (sym turning.0.0 ∙ sym turning.1.1.0.0)
three_sides false x y z turning = turning.1.0.1 (sym turning.0.0 ∙ sym turning.1.1.0.0)

at_least_four : (ring : Ring) → ListsTurns ring → StartsLeast ring → 4 ≤ length ring
at_least_four [] turns least = absurd least
at_least_four (x ∷ []) turns least =
    let way = ring_way x [] turns in
    absurd (one_side way.0 x way.1.0)
at_least_four (x ∷ y ∷ []) turns least =
    let way = ring_way x (y ∷ []) turns in
    absurd (two_sides way.0 x y way.1)
at_least_four (x ∷ y ∷ z ∷ []) turns least =
    let way = ring_way x (y ∷ z ∷ []) turns in
    absurd (three_sides way.0 x y z way.1)
at_least_four (x ∷ y ∷ z ∷ w ∷ ps) turns least = omega arith

-- an edge round a cell begins at a corner of the cell
start_by_cell : (e : Edge) (cell : Place) → HasOnLeft e cell → (e.0.0 ≤ cell.0 + 1) × (e.0.1 ≤ cell.1 + 1)
start_by_cell e cell (zero, within, is) = (omega (arith, ap (λ (f : Edge). f.0.0) is), omega (arith, ap (λ (f : Edge). f.0.1) is))
start_by_cell e cell (suc zero, within, is) = (omega (arith, ap (λ (f : Edge). f.0.0) is), omega (arith, ap (λ (f : Edge). f.0.1) is))
start_by_cell e cell (suc (suc zero), within, is) = (omega (arith, ap (λ (f : Edge). f.0.0) is), omega (arith, ap (λ (f : Edge). f.0.1) is))
start_by_cell e cell (suc (suc (suc zero)), within, is) = (omega (arith, ap (λ (f : Edge). f.0.0) is), omega (arith, ap (λ (f : Edge). f.0.1) is))
start_by_cell e cell (suc (suc (suc (suc k))), within, is) = absurd (omega arith)

corner_of_grid : (regions : RegionTable) (k : ℕ) (polygon : Polygon) → IsRaster regions.numbers → IsCanonicalPolygon (IsInRegion regions k) polygon
    → (ring : Ring) → Contains (rings_of polygon) ring → (p : Corner) → Contains ring p → IsCornerOf regions.numbers.nrows regions.numbers.ncols p
corner_of_grid regions k polygon shape canonical ring member p on =
    let turns = All-contains ListsTurns (rings_of polygon) ring canonical.turns member in
    let found = start_of_turn (edges_of ring) p (subst (λ (r : Ring). Contains r p) (sym (turns_back ring turns)) on) in
    let left = canonical.left found.0 (in_flat edges_of (rings_of polygon) ring found.0 member found.1) in
    let inside = inside_from_value regions.numbers left.0 (Some k) shape left.2 in
    let start = start_by_cell found.0 left.0 left.1 in
    subst (λ (q : Corner). IsCornerOf regions.numbers.nrows regions.numbers.ncols q) found.2
    (record { row = omega (arith, inside.0, start.0); col = omega (arith, inside.1, start.1) })

pub fits_grid : (regions : RegionTable) (k : ℕ) (polygon : Polygon) → IsRaster regions.numbers → IsCanonicalPolygon (IsInRegion regions k) polygon
    → FitsGrid regions.numbers.nrows regions.numbers.ncols polygon
fits_grid regions k polygon shape canonical =
    let rings = rings_of polygon in
    record {
      long = all_of (λ ring. 4 ≤ length ring) rings
          (λ ring member. at_least_four ring (All-contains ListsTurns rings ring canonical.turns member)
          (All-contains StartsLeast rings ring canonical.starts member));
      corners = all_of (All (IsCornerOf regions.numbers.nrows regions.numbers.ncols)) rings
          (λ ring member. all_of (IsCornerOf regions.numbers.nrows regions.numbers.ncols) ring (corner_of_grid regions k polygon shape canonical ring member));
    }

-- the corners where edges begin have numbers

corner_number : (nrows ncols width : ℕ) (corner : Corner) → 0 < nrows → ncols * nrows ≤ 16777216 → IsWidth ncols width → IsCornerOf nrows ncols corner
    → HasNumber width corner
corner_number nrows ncols width corner some few is fits =
    let row : corner.0 * width ≤ nrows * (2 * ncols) = mul-le-mul fits.row is.narrow in
    let col : ncols * 1 ≤ ncols * nrows = mul-le-mul_left ncols some in
    record { narrow = omega (arith, fits.col, is.wide); short = omega (arith, row, col, fits.col, few) }

pub have_numbers : (regions : RegionTable) (table : EdgeTable) (width : ℕ) → IsRaster regions.numbers → HoldsBoundaries regions table
    → IsWidth regions.numbers.ncols width → HaveNumbers width table
have_numbers regions table width shape holds is = λ i less.
    let e = edge_at table i in
    let cell = element_at table.cells i (omega (arith, less, holds.cells)) in
    let known = holds.known i cell.0 cell.1 in
    let inside = inside_from_value regions.numbers cell.0 (Some known.0) shape known.1 in
    let start = start_by_cell e cell.0 (holds.left i e cell.0 (edge_is_at table i less) cell.1) in
    corner_number regions.numbers.nrows regions.numbers.ncols width e.0 shape.some_rows shape.small is
    (record { row = omega (arith, inside.0, start.0); col = omega (arith, inside.1, start.1) })
