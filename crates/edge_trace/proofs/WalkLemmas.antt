-- What a walk knows of the edge that it comes to.
use Rattle.std.proofs.Common.{◌≡◌, ℕ, ◌/◌, ◌%◌, ◌<◌, List, Some, length, ap, sym, ◌∙◌, arith}
use Rattle.std.specs.Prelude.{option_map, slice_get}
use Rattle.std.proofs.Math.Nat.{div-le_self, mod-le}
use Rattle.std.proofs.lemmas.List.{length-map}
use Rattle.std.proofs.lemmas.Option.{same_Some, slice_get-map, slice_get_within}
use Rattle.cell_base.specs.Raster.{Place}
use Rattle.cell_base.proofs.PlaceLemmas.{element_at}
use Rattle.edge_trace.specs.Edge.{Edge}
use Rattle.edge_trace.specs.Walk.{StandsIn, edge_between}
use Rattle.edge_trace.specs.Inner.Sides.{cell_of, edge_at, edge_of}
use Rattle.edge_trace.specs.Inner.Table.{BeginsAt, IsTable, next_of, table_of}
use Rattle.edge_trace.specs.declared.walk_edge.WalkEdge.{WalkEdge}

-- an edge that stands in the table has a number of it
pub stands_within : (stride : ℕ) (numbers ways : List ℕ) (edge : WalkEdge) → StandsIn (table_of stride numbers ways) edge → edge.number < length numbers
stands_within stride numbers ways edge stands = omega (arith, slice_get_within (table_of stride numbers ways).edges edge.number (edge_between edge) stands, length-map numbers (edge_of stride))

-- the edge to which the way leads is a side that begins where the edge ends
pub record WalksOn (stride : ℕ) (numbers : List ℕ) (edge : WalkEdge) (way : ℕ) : Type 0 where
  pub number : ℕ
  pub there : slice_get numbers (way / 4) ≡ Some number
  pub edge_is : edge_of stride number ≡ edge_at (cell_of stride number) (way % 4)
  pub begins : (edge_at (cell_of stride number) (way % 4)).0 ≡ (edge.end.row, edge.end.col)

pub walks_on : (shift stride : ℕ) (numbers ways : List ℕ) (edge : WalkEdge) (way : ℕ) → IsTable shift stride numbers ways → StandsIn (table_of stride numbers ways) edge → slice_get ways edge.number ≡ Some way → WalksOn stride numbers edge way
walks_on shift stride numbers ways edge way is stands to =
    let here = element_at numbers edge.number (stands_within stride numbers ways edge stands) in
    let at : slice_get (table_of stride numbers ways).edges edge.number ≡ Some (edge_of stride here.0) = slice_get-map (edge_of stride) numbers edge.number ∙ ap (option_map (edge_of stride)) here.1 in
    let before : edge_of stride here.0 ≡ edge_between edge = same_Some (edge_of stride here.0) (edge_between edge) (sym at ∙ stands) in
    let leads = is.leads edge.number here.0 way here.1 to in
    let side : edge_of stride leads.number ≡ edge_at (cell_of stride leads.number) (way % 4) = ap (edge_at (cell_of stride leads.number)) leads.side in
    record {
      number = leads.number;
      there = leads.there;
      edge_is = side;
      begins = ap (λ (e : Edge). e.0) (sym side) ∙ leads.begins ∙ ap (λ (e : Edge). e.1) before;
    }

-- there is room to go along it
pub begins_at : (shift stride : ℕ) (numbers ways : List ℕ) (edge : WalkEdge) (way : ℕ) → IsTable shift stride numbers ways → WalksOn stride numbers edge way → BeginsAt (way % 4) (edge.end.row, edge.end.col)
begins_at shift stride numbers ways edge way is on =
    let low = is.sides.low (way / 4) on.number on.there in
    record {
      cell = cell_of stride on.number;
      few = omega arith;
      row = omega (arith, low, div-le_self (on.number / 4) stride);
      col = omega (arith, low, mod-le (on.number / 4) stride);
      begins = on.begins;
    }

-- and it stands in the table
pub stands_after : (stride : ℕ) (numbers ways : List ℕ) (edge after : WalkEdge) (way : ℕ) → WalksOn stride numbers edge way → after.number ≡ way / 4 → ((cell : Place) → (edge_at cell (way % 4)).0 ≡ (edge.end.row, edge.end.col) → (edge_at cell (way % 4)).1 ≡ (after.end.row, after.end.col)) → after.start ≡ edge.end → StandsIn (table_of stride numbers ways) after
stands_after stride numbers ways edge after way on number ends start =
    let cell = cell_of stride on.number in
    let begins : (edge_at cell (way % 4)).0 ≡ (after.start.row, after.start.col) = rw start on.begins in
    let corners : ((edge_at cell (way % 4)).0, (edge_at cell (way % 4)).1) ≡ edge_between after = cc (begins, ends cell on.begins) in
    let is : edge_of stride on.number ≡ edge_between after = on.edge_is ∙ corners in
    rw number (slice_get-map (edge_of stride) numbers (way / 4) ∙ ap (option_map (edge_of stride)) on.there ∙ ap (λ (e : Edge). Some e) is)

-- as the edge that follows
pub followed_by : (ways : List ℕ) (i way : ℕ) → slice_get ways i ≡ Some way → slice_get (next_of ways) i ≡ Some (way / 4)
followed_by ways i way to = slice_get-map (λ (w : ℕ). w / 4) ways i ∙ ap (option_map (λ (w : ℕ). w / 4)) to
