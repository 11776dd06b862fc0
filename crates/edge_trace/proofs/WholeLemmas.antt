-- All sides of components, linked, are a table of edges.
use Rattle.std.proofs.Common.{◌≡◌, ◌≢◌, ℕ, zero, suc, ◌+◌, ◌*◌, ◌/◌, ◌%◌, ◌<◌, ◌≤◌, inl, inr, List, Some, length, map, refl, ap, sym, ◌∙◌, subst, arith}
use Rattle.std.specs.Prelude.{option_map, slice_get}
use Rattle.std.proofs.lemmas.Bool.{cases_lt}
use Rattle.std.proofs.lemmas.List.{length-map}
use Rattle.std.proofs.lemmas.Option.{same_Some, slice_get-map, slice_get_within}
use Rattle.cell_base.specs.Raster.{Place}
use Rattle.cell_base.specs.Order.{IsBefore}
use Rattle.cell_base.proofs.PlaceLemmas.{element_at}
use Rattle.region_label.specs.Labelling.{RegionTable, IsInRegion}
use Rattle.edge_trace.specs.Edge.{Corner, Edge, HasOnLeft, HasOnRight, IsBoundaryEdge, edges_round}
use Rattle.edge_trace.specs.EdgeTable.{EdgeTable, HasLinks, HoldsBoundaries, IsCellAt, IsEdgeAt, IsEdgeOf, IsEdgeTable}
use Rattle.edge_trace.specs.EdgeOrder.{AreInOrder}
use Rattle.edge_trace.specs.Inner.Sides.{AreRising, IsBeside, IsSide, cell_of, edge_at, edge_of, side_number}
use Rattle.edge_trace.specs.Inner.Links.{AreFollowed, IsThere}
use Rattle.edge_trace.specs.Inner.Table.{LeadsOn, next_of, table_of}
use Rattle.edge_trace.proofs.BoundaryLemmas.{table_encloses}
use Rattle.edge_trace.proofs.CornerLemmas.{EndsAt, IsAt, StartsAt, beside_across, ends_at, has_at, in_side, out_side, side_in, side_out, starts_at, starts_from, number_at, out_number}
use Rattle.edge_trace.proofs.FollowLemmas.{AreAllSides, LeadsTo, follower_leads, out_at}
use Rattle.edge_trace.proofs.NumberLemmas.{before_number, number_cell, number_side}
use Rattle.edge_trace.proofs.SideLemmas.{boundary_of_side, edge_is, on_left, on_right, right_is, side_of_boundary}
use Rattle.edge_trace.proofs.TurnLemmas.{IsIn, IsOut, Leads, across, leads_across, leads_apart}

edge_of_number : (stride : ℕ) (cell : Place) (side : ℕ) → side < 4 → cell.1 + 1 < stride → edge_of stride (side_number stride cell side) ≡ edge_at cell side
edge_of_number stride cell side few narrow = ap (λ (c : Place). edge_at c (side_number stride cell side % 4)) (number_cell stride cell side few narrow) ∙ ap (edge_at cell) (number_side ((cell.0 + 1) * stride + (cell.1 + 1)) side few)

-- an edge of the table
record Entry (regions : RegionTable) (stride : ℕ) (numbers owners ways : List ℕ) (i : ℕ) : Type 0 where
  owner : ℕ
  cell : Place
  side : ℕ
  at : slice_get numbers i ≡ Some (side_number stride cell side)
  is : IsSide regions owner cell side
  owner_at : slice_get owners i ≡ Some owner
  edge_there : IsEdgeAt (table_of stride numbers ways) i (edge_at cell side)
  cell_there : IsCellAt (table_of stride numbers ways) i cell

edge_shown : (stride : ℕ) (numbers ways : List ℕ) (i : ℕ) (cell : Place) (side : ℕ) → side < 4 → cell.1 + 1 < stride → slice_get numbers i ≡ Some (side_number stride cell side) → IsEdgeAt (table_of stride numbers ways) i (edge_at cell side)
edge_shown stride numbers ways i cell side few narrow at = slice_get-map (edge_of stride) numbers i ∙ ap (option_map (edge_of stride)) at ∙ ap (λ (e : Edge). Some e) (edge_of_number stride cell side few narrow)

cell_shown : (stride : ℕ) (numbers ways : List ℕ) (i : ℕ) (cell : Place) (side : ℕ) → side < 4 → cell.1 + 1 < stride → slice_get numbers i ≡ Some (side_number stride cell side) → IsCellAt (table_of stride numbers ways) i cell
cell_shown stride numbers ways i cell side few narrow at = slice_get-map (cell_of stride) numbers i ∙ ap (option_map (cell_of stride)) at ∙ ap (λ (p : Place). Some p) (number_cell stride cell side few narrow)

entry : (regions : RegionTable) (stride : ℕ) (numbers owners ways : List ℕ) (i : ℕ) → AreAllSides regions stride numbers owners → i < length numbers → Entry regions stride numbers owners ways i
entry regions stride numbers owners ways i whole within =
    let here = element_at numbers i within in
    let each = whole.sides.each i here.0 here.1 in
    let narrow : each.cell.1 + 1 < stride = omega (arith, whole.narrow each.owner each.cell each.is.inside) in
    let at : slice_get numbers i ≡ Some (side_number stride each.cell each.side) = here.1 ∙ ap (λ (n : ℕ). Some n) each.number_is in
    record {
      owner = each.owner;
      cell = each.cell;
      side = each.side;
      at = at;
      is = each.is;
      owner_at = each.owner_at;
      edge_there = edge_shown stride numbers ways i each.cell each.side each.is.few narrow at;
      cell_there = cell_shown stride numbers ways i each.cell each.side each.is.few narrow at;
    }

edge_within : (stride : ℕ) (numbers ways : List ℕ) (i : ℕ) (e : Edge) → IsEdgeAt (table_of stride numbers ways) i e → i < length numbers
edge_within stride numbers ways i e at = omega (arith, slice_get_within (map (edge_of stride) numbers) i e at, length-map numbers (edge_of stride))

cell_within : (stride : ℕ) (numbers ways : List ℕ) (i : ℕ) (cell : Place) → IsCellAt (table_of stride numbers ways) i cell → i < length numbers
cell_within stride numbers ways i cell at = omega (arith, slice_get_within (map (cell_of stride) numbers) i cell at, length-map numbers (cell_of stride))

region_is : (regions : RegionTable) (k m : ℕ) (p : Place) → IsInRegion regions k p → IsInRegion regions m p → k ≡ m
region_is regions k m p in_k in_m = same_Some k m (same_Some (Some k) (Some m) (sym in_k ∙ in_m))

same_place_number : (numbers : List ℕ) (i j x : ℕ) → AreRising numbers → slice_get numbers i ≡ Some x → slice_get numbers j ≡ Some x → i ≡ j
same_place_number numbers i j x rising at_i at_j = elim (cases_lt i j) [
  | inl less ↦ absurd (omega (arith, rising i j x x less at_i at_j))
  | inr not_less ↦ elim (cases_lt j i) [
    | inl more ↦ absurd (omega (arith, rising j i x x more at_j at_i))
    | inr not_more ↦ omega (arith, not_less, not_more)
  ]
]

-- the entry's component is that of the edge
owner_of : (regions : RegionTable) (stride : ℕ) (numbers owners ways : List ℕ) (i k : ℕ) (a : Entry regions stride numbers owners ways i) → IsEdgeOf regions (table_of stride numbers ways) k i → a.owner ≡ k
owner_of regions stride numbers owners ways i k a own =
    let cell : own.0 ≡ a.cell = same_Some own.0 a.cell (sym own.1 ∙ a.cell_there) in
    region_is regions a.owner k a.cell a.is.inside (subst (IsInRegion regions k) cell own.2)

-- the table holds each boundary edge
pub holds : (regions : RegionTable) (stride : ℕ) (numbers owners ways : List ℕ) → AreAllSides regions stride numbers owners → HoldsBoundaries regions (table_of stride numbers ways)
holds regions stride numbers owners ways whole =
    let table : EdgeTable = table_of stride numbers ways in
    record {
      cells = length-map numbers (cell_of stride) ∙ sym (length-map numbers (edge_of stride));
      left = λ i e cell at_e at_cell.
          let a = entry regions stride numbers owners ways i whole (edge_within stride numbers ways i e at_e) in
          let edge : edge_at a.cell a.side ≡ e = same_Some (edge_at a.cell a.side) e (sym a.edge_there ∙ at_e) in
          let place : a.cell ≡ cell = same_Some a.cell cell (sym a.cell_there ∙ at_cell) in
          subst (λ (p : Place). HasOnLeft e p) place (subst (λ (f : Edge). HasOnLeft f a.cell) edge (on_left a.cell a.side a.is.few));
      known = λ i cell at_cell.
          let a = entry regions stride numbers owners ways i whole (cell_within stride numbers ways i cell at_cell) in
          let place : a.cell ≡ cell = same_Some a.cell cell (sym a.cell_there ∙ at_cell) in
          (a.owner, subst (IsInRegion regions a.owner) place a.is.inside);
      boundary = λ k i e at_e own.
          let a = entry regions stride numbers owners ways i whole (edge_within stride numbers ways i e at_e) in
          let edge : edge_at a.cell a.side ≡ e = same_Some (edge_at a.cell a.side) e (sym a.edge_there ∙ at_e) in
          let owner : a.owner ≡ k = owner_of regions stride numbers owners ways i k a own in
          subst (λ (n : ℕ). IsBoundaryEdge (IsInRegion regions n) e) owner (subst (λ (f : Edge). IsBoundaryEdge (IsInRegion regions a.owner) f) edge (boundary_of_side regions a.owner a.cell a.side a.is));
      every = λ k e boundary.
          let side = side_of_boundary regions k e boundary in
          let at = whole.sides.every k side.1 side.0 side.2 (whole.all k side.1 side.0 side.2) in
          let narrow : side.0.1 + 1 < stride = omega (arith, whole.narrow k side.0 side.2.inside) in
          (at.0, subst (λ (f : Edge). IsEdgeAt table at.0 f) side.3 (edge_shown stride numbers ways at.0 side.0 side.1 side.2.few narrow at.1), (side.0, cell_shown stride numbers ways at.0 side.0 side.1 side.2.few narrow at.1, side.2.inside));
      once = λ k i j e at_i at_j own_i own_j.
          let a = entry regions stride numbers owners ways i whole (edge_within stride numbers ways i e at_i) in
          let b = entry regions stride numbers owners ways j whole (edge_within stride numbers ways j e at_j) in
          let edges : edge_at a.cell a.side ≡ edge_at b.cell b.side = same_Some (edge_at a.cell a.side) e (sym a.edge_there ∙ at_i) ∙ sym (same_Some (edge_at b.cell b.side) e (sym b.edge_there ∙ at_j)) in
          let same = edge_is a.cell b.cell a.side b.side a.is.few b.is.few edges in
          let number : side_number stride b.cell b.side ≡ side_number stride a.cell a.side = ap (λ (p : Place). side_number stride p b.side) (sym same.0) ∙ ap (side_number stride a.cell) (sym same.1) in
          same_place_number numbers i j (side_number stride a.cell a.side) whole.sides.rising a.at (b.at ∙ ap (λ (n : ℕ). Some n) number);
    }

corner_narrow : (cell : Place) (side : ℕ) → (edge_at cell side).1.1 ≤ cell.1 + 1
corner_narrow cell zero = omega arith
corner_narrow cell (suc zero) = omega arith
corner_narrow cell (suc (suc zero)) = omega arith
corner_narrow cell (suc (suc (suc side))) = omega arith

-- a step from an edge to the one that follows it
record Step (regions : RegionTable) (stride : ℕ) (numbers owners ways : List ℕ) (i n : ℕ) (a : Entry regions stride numbers owners ways i) (b : Entry regions stride numbers owners ways n) : Type 0 where
  owner : b.owner ≡ a.owner
  from : ℕ
  to : ℕ
  ends : EndsAt (edge_at a.cell a.side).1 from a.cell a.side
  starts : StartsAt (edge_at a.cell a.side).1 to b.cell b.side
  leads : Leads (has_at regions a.owner (edge_at a.cell a.side).1) from to

-- the way by which an edge is followed
way_at : (ways : List ℕ) (i n : ℕ) → slice_get (next_of ways) i ≡ Some n → (way : ℕ) × (slice_get ways i ≡ Some way) × (way / 4 ≡ n)
way_at ways i n to =
    let within : i < length ways = omega (arith, slice_get_within (next_of ways) i n to, length-map ways (λ (way : ℕ). way / 4)) in
    let here = element_at ways i within in
    let led : slice_get (next_of ways) i ≡ Some (here.0 / 4) = slice_get-map (λ (way : ℕ). way / 4) ways i ∙ ap (option_map (λ (way : ℕ). way / 4)) here.1 in
    (here.0, here.1, same_Some (here.0 / 4) n (sym led ∙ to))

end_narrow : (regions : RegionTable) (stride : ℕ) (numbers owners ways : List ℕ) (i : ℕ) (a : Entry regions stride numbers owners ways i) → AreAllSides regions stride numbers owners → (edge_at a.cell a.side).1.1 + 1 < stride
end_narrow regions stride numbers owners ways i a whole = omega (arith, corner_narrow a.cell a.side, whole.narrow a.owner a.cell a.is.inside)

leads : (regions : RegionTable) (stride : ℕ) (numbers owners ways : List ℕ) (i way : ℕ) (a : Entry regions stride numbers owners ways i) → AreAllSides regions stride numbers owners → AreFollowed stride numbers owners ways → slice_get ways i ≡ Some way → LeadsTo regions stride numbers owners a.owner (edge_at a.cell a.side).1 (ends_at a.cell a.side a.is.few).0 way
leads regions stride numbers owners ways i way a whole followed to =
    let ends = ends_at a.cell a.side a.is.few in
    let follows = followed.follows i way to (side_number stride a.cell a.side) a.owner a.at a.owner_at in
    follower_leads regions stride numbers owners a.owner (edge_at a.cell a.side).1 ends.0 a.cell a.side way follows.0 whole ends.1 a.is (end_narrow regions stride numbers owners ways i a whole) follows.1 follows.2

-- what follows an edge is an edge
pub followed_within : (regions : RegionTable) (stride : ℕ) (numbers owners ways : List ℕ) (i n : ℕ) → AreAllSides regions stride numbers owners → AreFollowed stride numbers owners ways → slice_get (next_of ways) i ≡ Some n → n < length numbers
followed_within regions stride numbers owners ways i n whole followed to =
    let way = way_at ways i n to in
    let a = entry regions stride numbers owners ways i whole (omega (arith, slice_get_within ways i way.0 way.1, followed.within)) in
    let there = (leads regions stride numbers owners ways i way.0 a whole followed way.1).there in
    omega (arith, slice_get_within numbers (way.0 / 4) _ there.0, way.2)

step : (regions : RegionTable) (stride : ℕ) (numbers owners ways : List ℕ) (i n : ℕ) (a : Entry regions stride numbers owners ways i) (b : Entry regions stride numbers owners ways n) → AreAllSides regions stride numbers owners → AreFollowed stride numbers owners ways → slice_get (next_of ways) i ≡ Some n → Step regions stride numbers owners ways i n a b
step regions stride numbers owners ways i n a b whole followed to =
    let corner : Corner = (edge_at a.cell a.side).1 in
    let way = way_at ways i n to in
    let goes = leads regions stride numbers owners ways i way.0 a whole followed way.1 in
    let there : IsThere numbers owners a.owner (out_number stride corner goes.place) n = subst (λ (m : ℕ). IsThere numbers owners a.owner (out_number stride corner goes.place) m) way.2 goes.there in
    let out = out_at regions stride numbers owners n a.owner corner goes.place whole (end_narrow regions stride numbers owners ways i a whole) there in
    let out_narrow : out.cell.1 + 1 < stride = omega (arith, whole.narrow a.owner out.cell out.is.inside) in
    let number : out_number stride corner goes.place ≡ side_number stride out.cell (out_side goes.place) = sym (number_at stride corner goes.place out.cell (out_side goes.place) out.at) in
    let edge : edge_at out.cell (out_side goes.place) ≡ edge_at b.cell b.side = same_Some _ _ (sym (edge_shown stride numbers ways n out.cell (out_side goes.place) out.is.few out_narrow (there.0 ∙ ap (λ (x : ℕ). Some x) number)) ∙ b.edge_there) in
    let same = edge_is out.cell b.cell (out_side goes.place) b.side out.is.few b.is.few edge in
    record {
      owner = same_Some b.owner a.owner (sym b.owner_at ∙ there.1);
      from = (ends_at a.cell a.side a.is.few).0;
      to = goes.place;
      ends = (ends_at a.cell a.side a.is.few).1;
      starts = record { few = goes.few; at = subst (IsAt corner goes.place) same.0 out.at; side_is = sym same.1 };
      leads = goes.leads;
    }

-- each way leads on from its edge
pub leads_on : (regions : RegionTable) (stride : ℕ) (numbers owners ways : List ℕ) (i x way : ℕ) → AreAllSides regions stride numbers owners → AreFollowed stride numbers owners ways → slice_get numbers i ≡ Some x → slice_get ways i ≡ Some way → LeadsOn stride numbers x way
leads_on regions stride numbers owners ways i x way whole followed at to =
    let a = entry regions stride numbers owners ways i whole (slice_get_within numbers i x at) in
    let corner : Corner = (edge_at a.cell a.side).1 in
    let goes = leads regions stride numbers owners ways i way a whole followed to in
    let out = out_at regions stride numbers owners (way / 4) a.owner corner goes.place whole (end_narrow regions stride numbers owners ways i a whole) goes.there in
    let number : out_number stride corner goes.place ≡ side_number stride out.cell (out_side goes.place) = sym (number_at stride corner goes.place out.cell (out_side goes.place) out.at) in
    let follower : edge_of stride (out_number stride corner goes.place) ≡ edge_at out.cell (out_side goes.place) = ap (edge_of stride) number ∙ edge_of_number stride out.cell (out_side goes.place) out.is.few (omega (arith, whole.narrow a.owner out.cell out.is.inside)) in
    let same : x ≡ side_number stride a.cell a.side = same_Some x (side_number stride a.cell a.side) (sym at ∙ a.at) in
    let edge : edge_of stride x ≡ edge_at a.cell a.side = ap (edge_of stride) same ∙ edge_of_number stride a.cell a.side a.is.few (omega (arith, whole.narrow a.owner a.cell a.is.inside)) in
    record {
      number = out_number stride corner goes.place;
      there = goes.there.0;
      side = sym goes.side;
      begins = ap (λ (e : Edge). e.0) follower ∙ starts_from corner goes.place out.cell goes.few out.at ∙ sym (ap (λ (e : Edge). e.1) edge);
    }

few_out : (j : ℕ) → j < 4 → out_side (out_side j) ≡ j
few_out zero few = refl
few_out (suc zero) few = refl
few_out (suc (suc zero)) few = refl
few_out (suc (suc (suc zero))) few = refl
few_out (suc (suc (suc (suc j)))) few = absurd (omega (arith, few))

place_at : (corner : Corner) (j : ℕ) (a b : Place) → IsAt corner j a → IsAt corner j b → a ≡ b
place_at corner j a b at_a at_b =
    let row : a.0 ≡ b.0 = omega (arith, at_a.row, at_b.row) in
    let col : a.1 ≡ b.1 = omega (arith, at_a.col, at_b.col) in
    let same : (a.0, a.1) ≡ (b.0, b.1) = cc in
    same

-- where two edges begin at one corner, at one place, they are the same
same_entry : (regions : RegionTable) (stride : ℕ) (numbers owners ways : List ℕ) (i j m : ℕ) (corner : Corner) (s : ℕ) (a : Entry regions stride numbers owners ways i) (b : Entry regions stride numbers owners ways j) → AreAllSides regions stride numbers owners → IsAt corner m a.cell → IsAt corner m b.cell → a.side ≡ s → b.side ≡ s → i ≡ j
same_entry regions stride numbers owners ways i j m corner s a b whole at_a at_b side_a side_b =
    let cell : b.cell ≡ a.cell = place_at corner m b.cell a.cell at_b at_a in
    let number : side_number stride b.cell b.side ≡ side_number stride a.cell a.side = ap (λ (p : Place). side_number stride p b.side) cell ∙ ap (side_number stride a.cell) (side_b ∙ sym side_a) in
    same_place_number numbers i j (side_number stride a.cell a.side) whole.sides.rising a.at (b.at ∙ ap (λ (n : ℕ). Some n) number)

step_in : (regions : RegionTable) (stride : ℕ) (numbers owners ways : List ℕ) (i n : ℕ) (a : Entry regions stride numbers owners ways i) (b : Entry regions stride numbers owners ways n) (s : Step regions stride numbers owners ways i n a b) → IsIn (has_at regions a.owner (edge_at a.cell a.side).1) s.from
step_in regions stride numbers owners ways i n a b s = side_in regions a.owner (edge_at a.cell a.side).1 s.from a.cell s.ends.few s.ends.at (subst (λ (t : ℕ). IsSide regions a.owner a.cell t) s.ends.side_is a.is)

-- two edges that are followed by the same are the same
apart : (regions : RegionTable) (stride : ℕ) (numbers owners ways : List ℕ) (i j n : ℕ) (a : Entry regions stride numbers owners ways i) (c : Entry regions stride numbers owners ways j) (b : Entry regions stride numbers owners ways n) → AreAllSides regions stride numbers owners → Step regions stride numbers owners ways i n a b → Step regions stride numbers owners ways j n c b → i ≡ j
apart regions stride numbers owners ways i j n a c b whole first second =
    let corner : Corner = (edge_at a.cell a.side).1 in
    let begins_first : (edge_at b.cell b.side).0 ≡ corner = ap (λ (s : ℕ). (edge_at b.cell s).0) first.starts.side_is ∙ starts_from corner first.to b.cell first.starts.few first.starts.at in
    let begins_second : (edge_at b.cell b.side).0 ≡ (edge_at c.cell c.side).1 = ap (λ (s : ℕ). (edge_at b.cell s).0) second.starts.side_is ∙ starts_from (edge_at c.cell c.side).1 second.to b.cell second.starts.few second.starts.at in
    let corners : (edge_at c.cell c.side).1 ≡ corner = sym begins_second ∙ begins_first in
    let places : second.to ≡ first.to = sym (few_out second.to second.starts.few) ∙ ap out_side (sym second.starts.side_is ∙ first.starts.side_is) ∙ few_out first.to first.starts.few in
    let owner : c.owner ≡ a.owner = sym second.owner ∙ first.owner in
    let in_second : IsIn (has_at regions a.owner corner) second.from = subst (λ (o : ℕ). IsIn (has_at regions o corner) second.from) owner (subst (λ (k : Corner). IsIn (has_at regions c.owner k) second.from) corners (step_in regions stride numbers owners ways j n c b second)) in
    let leads_second : Leads (has_at regions a.owner corner) second.from first.to = subst (λ (m : ℕ). Leads (has_at regions a.owner corner) second.from m) places (subst (λ (o : ℕ). Leads (has_at regions o corner) second.from second.to) owner (subst (λ (k : Corner). Leads (has_at regions c.owner k) second.from second.to) corners second.leads)) in
    let from : second.from ≡ first.from = leads_apart (has_at regions a.owner corner) second.from first.from first.to second.ends.few first.ends.few in_second (step_in regions stride numbers owners ways i n a b first) leads_second first.leads in
    let at : IsAt corner first.from c.cell = subst (λ (m : ℕ). IsAt corner m c.cell) from (subst (λ (k : Corner). IsAt k second.from c.cell) corners second.ends.at) in
    same_entry regions stride numbers owners ways i j first.from corner (in_side first.from) a c whole first.ends.at at first.ends.side_is (second.ends.side_is ∙ ap in_side from)

-- where another edge of the component begins there, the same cell is on the right
turns : (regions : RegionTable) (stride : ℕ) (numbers owners ways : List ℕ) (i j m : ℕ) (cell : Place) (a : Entry regions stride numbers owners ways i) (b : Entry regions stride numbers owners ways j) (c : Entry regions stride numbers owners ways m) → AreAllSides regions stride numbers owners → Step regions stride numbers owners ways i j a b → m ≢ j → (edge_at c.cell c.side).0 ≡ (edge_at a.cell a.side).1 → c.owner ≡ a.owner → HasOnRight (edge_at a.cell a.side) cell → HasOnRight (edge_at b.cell b.side) cell
turns regions stride numbers owners ways i j m cell a b c whole goes other begins owner on =
    let corner : Corner = (edge_at a.cell a.side).1 in
    let starts = starts_at c.cell c.side c.is.few in
    let at : IsAt corner starts.0 c.cell = subst (λ (k : Corner). IsAt k starts.0 c.cell) begins starts.1.at in
    let side : IsSide regions a.owner c.cell (out_side starts.0) = subst (λ (s : ℕ). IsSide regions a.owner c.cell s) starts.1.side_is (subst (λ (o : ℕ). IsSide regions o c.cell c.side) owner c.is) in
    let out : IsOut (has_at regions a.owner corner) starts.0 = side_out regions a.owner corner starts.0 c.cell starts.1.few at side in
    let differ : starts.0 ≢ goes.to = λ same. other (same_entry regions stride numbers owners ways m j goes.to corner (out_side goes.to) c b whole (subst (λ (n : ℕ). IsAt corner n c.cell) same at) goes.starts.at (starts.1.side_is ∙ ap out_side same) goes.starts.side_is) in
    let to : goes.to ≡ across goes.from = leads_across (has_at regions a.owner corner) goes.from goes.to starts.0 goes.ends.few starts.1.few (step_in regions stride numbers owners ways i j a b goes) goes.leads out differ in
    let beside = subst (λ (s : ℕ). IsBeside s a.cell cell) goes.ends.side_is (right_is a.cell cell a.side a.is.few on) in
    let there : IsAt corner (across goes.from) b.cell = subst (λ (n : ℕ). IsAt corner n b.cell) to goes.starts.at in
    let beyond = beside_across corner goes.from a.cell b.cell cell goes.ends.few goes.ends.at there beside in
    on_right b.cell cell b.side b.is.few (subst (λ (s : ℕ). IsBeside s b.cell cell) (sym (goes.starts.side_is ∙ ap out_side to)) beyond)

-- the edges are linked
pub linked : (regions : RegionTable) (stride : ℕ) (numbers owners ways : List ℕ) → AreAllSides regions stride numbers owners → AreFollowed stride numbers owners ways → length ways ≡ length numbers → HasLinks regions (table_of stride numbers ways)
linked regions stride numbers owners ways whole followed all =
    let table : EdgeTable = table_of stride numbers ways in
    let here = λ (i : ℕ) (within : i < length numbers). entry regions stride numbers owners ways i whole within in
    let inside : (i j : ℕ) → slice_get (next_of ways) i ≡ Some j → j < length numbers = λ i j to. followed_within regions stride numbers owners ways i j whole followed to in
    let from : (i j : ℕ) → slice_get (next_of ways) i ≡ Some j → i < length numbers = λ i j to. omega (arith, slice_get_within ways i (way_at ways i j to).0 (way_at ways i j to).1, followed.within) in
    record {
      next = length-map ways (λ (way : ℕ). way / 4) ∙ all ∙ sym (length-map numbers (edge_of stride));
      begins = λ i j e to at_e.
          let a = here i (from i j to) in
          let b = here j (inside i j to) in
          let goes = step regions stride numbers owners ways i j a b whole followed to in
          let edge : edge_at a.cell a.side ≡ e = same_Some (edge_at a.cell a.side) e (sym a.edge_there ∙ at_e) in
          (edge_at b.cell b.side, b.edge_there, ap (λ (s : ℕ). (edge_at b.cell s).0) goes.starts.side_is ∙ starts_from (edge_at a.cell a.side).1 goes.to b.cell goes.starts.few goes.starts.at ∙ ap (λ (f : Edge). f.1) edge);
      stays = λ k i j to own.
          let a = here i (from i j to) in
          let b = here j (inside i j to) in
          let goes = step regions stride numbers owners ways i j a b whole followed to in
          (b.cell, b.cell_there, subst (λ (n : ℕ). IsInRegion regions n b.cell) (goes.owner ∙ owner_of regions stride numbers owners ways i k a own) b.is.inside);
      apart = λ i j n to_i to_j.
          let a = here i (from i n to_i) in
          let c = here j (from j n to_j) in
          let b = here n (inside i n to_i) in
          apart regions stride numbers owners ways i j n a c b whole (step regions stride numbers owners ways i n a b whole followed to_i) (step regions stride numbers owners ways j n c b whole followed to_j);
      turns = λ k i j m e f g cell to at_e at_f at_g other begins own_i own_m on.
          let a = here i (from i j to) in
          let b = here j (inside i j to) in
          let c = here m (edge_within stride numbers ways m g at_g) in
          let edge : edge_at a.cell a.side ≡ e = same_Some (edge_at a.cell a.side) e (sym a.edge_there ∙ at_e) in
          let follower : edge_at b.cell b.side ≡ f = same_Some (edge_at b.cell b.side) f (sym b.edge_there ∙ at_f) in
          let third : edge_at c.cell c.side ≡ g = same_Some (edge_at c.cell c.side) g (sym c.edge_there ∙ at_g) in
          let owner : c.owner ≡ a.owner = owner_of regions stride numbers owners ways m k c own_m ∙ sym (owner_of regions stride numbers owners ways i k a own_i) in
          let starts : (edge_at c.cell c.side).0 ≡ (edge_at a.cell a.side).1 = ap (λ (h : Edge). h.0) third ∙ begins ∙ sym (ap (λ (h : Edge). h.1) edge) in
          subst (λ (h : Edge). HasOnRight h cell) follower (turns regions stride numbers owners ways i j m cell a b c whole (step regions stride numbers owners ways i j a b whole followed to) other starts owner (subst (λ (h : Edge). HasOnRight h cell) (sym edge) on));
    }

side_in_round : (cell : Place) (side : ℕ) (e : Edge) → slice_get (edges_round cell) side ≡ Some e → (side < 4) × (edge_at cell side ≡ e)
side_in_round cell zero e at = (omega arith, same_Some (edge_at cell 0) e at)
side_in_round cell (suc zero) e at = (omega arith, same_Some (edge_at cell 1) e at)
side_in_round cell (suc (suc zero)) e at = (omega arith, same_Some (edge_at cell 2) e at)
side_in_round cell (suc (suc (suc zero))) e at = (omega arith, same_Some (edge_at cell 3) e at)
side_in_round cell (suc (suc (suc (suc k)))) e at = absurd (omega (arith, slice_get_within (edges_round cell) (suc (suc (suc (suc k)))) e at))

-- and in order
pub in_order : (regions : RegionTable) (stride : ℕ) (numbers owners ways : List ℕ) → AreAllSides regions stride numbers owners → AreInOrder (table_of stride numbers ways)
in_order regions stride numbers owners ways whole i j a b s t less at_a at_b =
    let first = entry regions stride numbers owners ways i whole (cell_within stride numbers ways i a at_a.0) in
    let second = entry regions stride numbers owners ways j whole (cell_within stride numbers ways j b at_b.0) in
    let cell_a : first.cell ≡ a = same_Some first.cell a (sym first.cell_there ∙ at_a.0) in
    let cell_b : second.cell ≡ b = same_Some second.cell b (sym second.cell_there ∙ at_b.0) in
    let round_a = side_in_round a s at_a.1 at_a.3 in
    let round_b = side_in_round b t at_b.1 at_b.3 in
    let side_a = edge_is first.cell a first.side s first.is.few round_a.0 (same_Some _ _ (sym first.edge_there ∙ at_a.2) ∙ sym round_a.1) in
    let side_b = edge_is second.cell b second.side t second.is.few round_b.0 (same_Some _ _ (sym second.edge_there ∙ at_b.2) ∙ sym round_b.1) in
    let number = whole.sides.rising i j (side_number stride first.cell first.side) (side_number stride second.cell second.side) less first.at second.at in
    elim (before_number stride first.cell second.cell first.side second.side first.is.few second.is.few (omega (arith, whole.narrow first.owner first.cell first.is.inside)) (omega (arith, whole.narrow second.owner second.cell second.is.inside)) number) [
      | inl before ↦ inl (subst (λ (p : Place). IsBefore a p) cell_b (subst (λ (p : Place). IsBefore p second.cell) cell_a before))
      | inr same ↦ inr (sym cell_a ∙ same.0 ∙ cell_b, omega (arith, same.1, side_a.1, side_b.1))
    ]

-- the table of all sides, linked
pub edge_table : (regions : RegionTable) (stride : ℕ) (numbers owners ways : List ℕ) → AreAllSides regions stride numbers owners → AreFollowed stride numbers owners ways → length ways ≡ length numbers → IsEdgeTable regions (table_of stride numbers ways)
edge_table regions stride numbers owners ways whole followed all =
    let held = holds regions stride numbers owners ways whole in
    record {
      holds = held;
      links = linked regions stride numbers owners ways whole followed all;
      encloses = table_encloses regions (table_of stride numbers ways) held;
    }
