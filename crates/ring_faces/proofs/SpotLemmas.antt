-- Unit edges and the spots round their ends.
use Rattle.std.proofs.Common.{◌≡◌, ℕ, zero, suc, ◌+◌, ◌⊎◌, inl, inr, Option, Some, None, refl, sym, ap, ◌∙◌, subst, arith, lit<}
use Rattle.std.specs.Prelude.{◌%◌, ◌==◌, nat_lt, Bool, true, false, List, if◌then◌else◌}
use Rattle.std.proofs.lemmas.Bool.Decides.{nat_tests}
use Rattle.cell_base.specs.Raster.{Place}
use Rattle.cell_base.specs.Steps.{SharesSide}
use Rattle.edge_trace.specs.Edge.{Corner, Edge, IsUnitEdge, turned, HasOnLeft}
use Rattle.edge_trace.specs.Crossing.{crossing_count}

-- the cell up and to the left of a corner, if there is one
abbrev pub spot : ℕ → ℕ → Option Place
spot zero c = None
spot (suc r) zero = None
spot (suc r) (suc c) = Some (r, c)

-- the quarters round a corner: up and left, up and right, down and right, down and left
pub data Quarter : Type 0 where
  nw : Quarter
  ne : Quarter
  se : Quarter
  sw : Quarter

-- the next quarter, clockwise
abbrev pub turn : Quarter → Quarter
turn nw = ne
turn ne = se
turn se = sw
turn sw = nw

-- what lies in a quarter of a corner
abbrev pub spot_at : Corner → Quarter → Option Place
spot_at p nw = spot p.0 p.1
spot_at p ne = spot p.0 (suc p.1)
spot_at p se = spot (suc p.0) (suc p.1)
spot_at p sw = spot (suc p.0) p.1

-- the quarter to the left of a unit edge, seen from where it begins
unfoldable pub quarter : Edge → Quarter
quarter e = if (e.0.1 == e.1.1) then (if (nat_lt e.0.0 e.1.0) then se else nw) else (if (nat_lt e.0.1 e.1.1) then ne else sw)

-- what lies to the left and to the right of a unit edge
unfoldable pub left_spot : Edge → Option Place
left_spot e = spot_at e.0 (quarter e)

unfoldable pub right_spot : Edge → Option Place
right_spot e = spot_at e.0 (turn (quarter e))

-- whether edges enclose a spot
unfoldable pub side : List Edge → Option Place → Bool
side edges None = false
side edges (Some cell) = (crossing_count edges cell % 2) == 1

-- whether a spot is in a set
abbrev pub in_set : (Place → Bool) → Option Place → Bool
in_set test None = false
in_set test (Some cell) = test cell

-- two spots beside each other: some unit edge lies between them
pub record IsBeside (a b : Option Place) : Type 0 where
  pub edge : Edge
  pub unit : IsUnitEdge edge
  pub left : left_spot edge ≡ a
  pub right : right_spot edge ≡ b

-- a boundary edge of a set that can be tested
pub record IsBorder (test : Place → Bool) (e : Edge) : Type 0 where
  pub unit : IsUnitEdge e
  pub left : in_set test (left_spot e) ≡ true
  pub right : in_set test (right_spot e) ≡ false

pub pair_is : (p : Corner) (r c : ℕ) → p.0 ≡ r → p.1 ≡ c → p ≡ (r, c)
pair_is p r c row col =
    let same : (p.0, p.1) ≡ (r, c) = cc in
    same

pub edge_is : (e : Edge) (p q : Corner) → e.0 ≡ p → e.1 ≡ q → e ≡ (p, q)
edge_is e p q starts ends =
    let same : (e.0, e.1) ≡ (p, q) = cc in
    same

quarter_left : (e : Edge) → e.0.0 ≡ e.1.0 → e.0.1 ≡ e.1.1 + 1 → quarter e ≡ sw
unfolding quarter
quarter_left e row col = grind (arith, nat_tests)

quarter_right : (e : Edge) → e.0.0 ≡ e.1.0 → e.1.1 ≡ e.0.1 + 1 → quarter e ≡ ne
unfolding quarter
quarter_right e row col = grind (arith, nat_tests)

quarter_up : (e : Edge) → e.0.1 ≡ e.1.1 → e.0.0 ≡ e.1.0 + 1 → quarter e ≡ nw
unfolding quarter
quarter_up e col row = grind (arith, nat_tests)

quarter_down : (e : Edge) → e.0.1 ≡ e.1.1 → e.1.0 ≡ e.0.0 + 1 → quarter e ≡ se
unfolding quarter
quarter_down e col row = grind (arith, nat_tests)

-- where a unit edge ends, by its start and its quarter
abbrev pub Ends : Quarter → Corner → Corner → Type 0
Ends nw p q = (p.1 ≡ q.1) × (p.0 ≡ q.0 + 1)
Ends ne p q = (p.0 ≡ q.0) × (q.1 ≡ p.1 + 1)
Ends se p q = (p.1 ≡ q.1) × (q.0 ≡ p.0 + 1)
Ends sw p q = (p.0 ≡ q.0) × (p.1 ≡ q.1 + 1)

pub unit_ends : (e : Edge) → IsUnitEdge e → Ends (quarter e) e.0 e.1
unit_ends e (inl (row, inl col)) = rw (quarter_left e row col) (row, col)
unit_ends e (inl (row, inr col)) = rw (quarter_right e row col) (row, col)
unit_ends e (inr (col, inl row)) = rw (quarter_up e col row) (col, row)
unit_ends e (inr (col, inr row)) = rw (quarter_down e col row) (col, row)

-- and back
pub ends_unit : (k : Quarter) (e : Edge) → Ends k e.0 e.1 → IsUnitEdge e × (quarter e ≡ k)
ends_unit nw e is = (inr (is.0, inl is.1), quarter_up e is.0 is.1)
ends_unit ne e is = (inl (is.0, inr is.1), quarter_right e is.0 is.1)
ends_unit se e is = (inr (is.0, inr is.1), quarter_down e is.0 is.1)
ends_unit sw e is = (inl (is.0, inl is.1), quarter_left e is.0 is.1)

spot_same : (r i c j : ℕ) → r ≡ i → c ≡ j → spot r c ≡ spot i j
spot_same r i c j row col = cc

-- the spots at the start, seen from the end
abbrev pub SeenFrom : Corner → Corner → Quarter → Type 0
SeenFrom p q k = (spot_at p k ≡ spot_at q (turn (turn (turn k)))) × (spot_at p (turn k) ≡ spot_at q (turn (turn k)))

seen_from_end : (k : Quarter) (p q : Corner) → Ends k p q → SeenFrom p q k
seen_from_end nw p q is = (spot_same p.0 (suc q.0) p.1 q.1 (omega arith) (omega arith), spot_same p.0 (suc q.0) (suc p.1) (suc q.1) (omega arith) (omega arith))
seen_from_end ne p q is = (spot_same p.0 q.0 (suc p.1) q.1 (omega arith) (omega arith), spot_same (suc p.0) (suc q.0) (suc p.1) q.1 (omega arith) (omega arith))
seen_from_end se p q is = (spot_same (suc p.0) q.0 (suc p.1) (suc q.1) (omega arith) (omega arith), spot_same (suc p.0) q.0 p.1 q.1 (omega arith) (omega arith))
seen_from_end sw p q is = (spot_same (suc p.0) (suc q.0) p.1 (suc q.1) (omega arith) (omega arith), spot_same p.0 q.0 p.1 (suc q.1) (omega arith) (omega arith))

-- the spots of an edge, by the quarter in which it begins
pub left_at_start : (e : Edge) → left_spot e ≡ spot_at e.0 (quarter e)
unfolding left_spot
left_at_start e = refl

pub right_at_start : (e : Edge) → right_spot e ≡ spot_at e.0 (turn (quarter e))
unfolding right_spot
right_at_start e = refl

pub left_at_end : (e : Edge) → IsUnitEdge e → left_spot e ≡ spot_at e.1 (turn (turn (turn (quarter e))))
left_at_end e unit = left_at_start e ∙ (seen_from_end (quarter e) e.0 e.1 (unit_ends e unit)).0

pub right_at_end : (e : Edge) → IsUnitEdge e → right_spot e ≡ spot_at e.1 (turn (turn (quarter e)))
right_at_end e unit = right_at_start e ∙ (seen_from_end (quarter e) e.0 e.1 (unit_ends e unit)).1

ends_turned : (k : Quarter) (p q : Corner) → Ends k p q → Ends (turn (turn k)) q p
ends_turned nw p q is = (sym is.0, is.1)
ends_turned ne p q is = (sym is.0, is.1)
ends_turned se p q is = (sym is.0, is.1)
ends_turned sw p q is = (sym is.0, is.1)

pub turned_unit : (e : Edge) → IsUnitEdge e → IsUnitEdge (turned e)
turned_unit e unit = (ends_unit (turn (turn (quarter e))) (turned e) (ends_turned (quarter e) e.0 e.1 (unit_ends e unit))).0

pub turned_quarter : (e : Edge) → IsUnitEdge e → quarter (turned e) ≡ turn (turn (quarter e))
turned_quarter e unit = (ends_unit (turn (turn (quarter e))) (turned e) (ends_turned (quarter e) e.0 e.1 (unit_ends e unit))).1

pub turned_left : (e : Edge) → IsUnitEdge e → left_spot (turned e) ≡ right_spot e
turned_left e unit = left_at_start (turned e) ∙ ap (spot_at e.1) (turned_quarter e unit) ∙ sym (right_at_end e unit)

pub turned_right : (e : Edge) → IsUnitEdge e → right_spot (turned e) ≡ left_spot e
turned_right e unit = right_at_start (turned e) ∙ ap (λ (k : Quarter). spot_at e.1 (turn k)) (turned_quarter e unit) ∙ sym (left_at_end e unit)

pub beside_back : (a b : Option Place) → IsBeside a b → IsBeside b a
beside_back a b is = record {
  edge = turned is.edge;
  unit = turned_unit is.edge is.unit;
  left = turned_left is.edge is.unit
      ∙ is.right;
  right = turned_right is.edge is.unit ∙ is.left;
}

pub spot_first : (r : ℕ) → spot r 0 ≡ None
spot_first zero = refl
spot_first (suc r) = refl

-- an edge that begins at a corner, in a quarter
pub record Leaving (p : Corner) (k : Quarter) : Type 0 where
  pub edge : Edge
  pub unit : IsUnitEdge edge
  pub start : edge.0 ≡ p
  pub quarter : quarter edge ≡ k
  pub left : left_spot edge ≡ spot_at p k
  pub right : right_spot edge ≡ spot_at p (turn k)

leaving_by : (p q : Corner) (k : Quarter) → Ends k p q → Leaving p k
leaving_by p q k is =
    let found = ends_unit k (p, q) is in
    record {
      edge = (p, q);
      unit = found.0;
      start = refl;
      quarter = found.1;
      left = left_at_start (p, q) ∙ ap (spot_at p) found.1;
      right = right_at_start (p, q) ∙ ap (λ (j : Quarter). spot_at p (turn j)) found.1;
    }

-- each quarter has such an edge, or is one spot with the next quarter
pub leaving : (r c : ℕ) (k : Quarter) → (spot_at (r, c) k ≡ spot_at (r, c) (turn k)) ⊎ Leaving (r, c) k
leaving zero c nw = inl refl
leaving (suc r) c nw = inr (leaving_by (suc r, c) (r, c) nw (refl, omega arith))
leaving r c ne = inr (leaving_by (r, c) (r, c + 1) ne (refl, refl))
leaving r c se = inr (leaving_by (r, c) (r + 1, c) se (refl, refl))
leaving r zero sw = inl (sym (spot_first r))
leaving r (suc c) sw = inr (leaving_by (r, suc c) (r, c) sw (refl, omega arith))

pub leaving_beside : (p : Corner) (k : Quarter) → Leaving p k → IsBeside (spot_at p k) (spot_at p (turn k))
leaving_beside p k is = record { edge = is.edge; unit = is.unit; left = is.left; right = is.right }

ends_same : (k : Quarter) (p q t : Corner) → Ends k p q → Ends k p t → q ≡ t
ends_same nw p q t one two = pair_is q t.0 t.1 (omega arith) (omega arith)
ends_same ne p q t one two = pair_is q t.0 t.1 (omega arith) (omega arith)
ends_same se p q t one two = pair_is q t.0 t.1 (omega arith) (omega arith)
ends_same sw p q t one two = pair_is q t.0 t.1 (omega arith) (omega arith)

-- a unit edge is known by where it begins and its quarter
pub same_leaving : (e f : Edge) → IsUnitEdge e → IsUnitEdge f → e.0 ≡ f.0 → quarter e ≡ quarter f → e ≡ f
same_leaving e f unit_e unit_f starts quarters =
    let ends_e : Ends (quarter f) f.0 e.1 = subst (λ (p : Corner). Ends (quarter f) p e.1) starts
    (subst (λ (k : Quarter). Ends k e.0 e.1) quarters (unit_ends e unit_e)) in
    let ends : e.1 ≡ f.1 = ends_same (quarter f) f.0 e.1 f.1 ends_e (unit_ends f unit_f) in
    edge_is e f.0 f.1 starts ends

pub spot_some : (r c : ℕ) (cell : Place) → spot r c ≡ Some cell → (r ≡ suc cell.0) × (c ≡ suc cell.1)
spot_some zero c cell is = absurd (none_some cell is)
  where
    none_some : (p : Place) → None ≡ Some p → ⊥
    none_some p same = cc
spot_some (suc r) zero cell is = absurd (none_some cell is)
  where
    none_some : (p : Place) → None ≡ Some p → ⊥
    none_some p same = cc
spot_some (suc r) (suc c) cell is =
    let same : (r, c) ≡ cell = cc in
    (ap (λ (p : Place). suc p.0) same, ap (λ (p : Place). suc p.1) same)

pub some_spot : (r c : ℕ) (cell : Place) → r ≡ suc cell.0 → c ≡ suc cell.1 → spot r c ≡ Some cell
some_spot r c cell row col = spot_same r (suc cell.0) c (suc cell.1) row col

left_by : (e : Edge) (k : Quarter) (cell : Place) → Ends k e.0 e.1 → spot_at e.0 k ≡ Some cell → IsUnitEdge e × (left_spot e ≡ Some cell)
left_by e k cell ends is =
    let found = ends_unit k e ends in
    (found.0, left_at_start e ∙ ap (spot_at e.0) found.1 ∙ is)

-- what has a cell on its left
pub on_left_tells : (e : Edge) (cell : Place) → HasOnLeft e cell → IsUnitEdge e × (left_spot e ≡ Some cell)
on_left_tells e cell (zero, within, is) =
    let a = ap (λ (f : Edge). f.0.0) is in
    let b = ap (λ (f : Edge). f.0.1) is in
    let c = ap (λ (f : Edge). f.1.0) is in
    let d = ap (λ (f : Edge). f.1.1) is in
    left_by e se cell (omega (arith, b, d), omega (arith, a, c)) (some_spot (suc e.0.0) (suc e.0.1) cell (omega (arith, a)) (omega (arith, b)))
on_left_tells e cell (suc zero, within, is) =
    let a = ap (λ (f : Edge). f.0.0) is in
    let b = ap (λ (f : Edge). f.0.1) is in
    let c = ap (λ (f : Edge). f.1.0) is in
    let d = ap (λ (f : Edge). f.1.1) is in
    left_by e ne cell (omega (arith, a, c), omega (arith, b, d)) (some_spot e.0.0 (suc e.0.1) cell (omega (arith, a)) (omega (arith, b)))
on_left_tells e cell (suc (suc zero), within, is) =
    let a = ap (λ (f : Edge). f.0.0) is in
    let b = ap (λ (f : Edge). f.0.1) is in
    let c = ap (λ (f : Edge). f.1.0) is in
    let d = ap (λ (f : Edge). f.1.1) is in
    left_by e nw cell (omega (arith, b, d), omega (arith, a, c)) (some_spot e.0.0 e.0.1 cell (omega (arith, a)) (omega (arith, b)))
on_left_tells e cell (suc (suc (suc zero)), within, is) =
    let a = ap (λ (f : Edge). f.0.0) is in
    let b = ap (λ (f : Edge). f.0.1) is in
    let c = ap (λ (f : Edge). f.1.0) is in
    let d = ap (λ (f : Edge). f.1.1) is in
    left_by e sw cell (omega (arith, a, c), omega (arith, b, d)) (some_spot (suc e.0.0) e.0.1 cell (omega (arith, a)) (omega (arith, b)))
on_left_tells e cell (suc (suc (suc (suc k))), within, is) = absurd (omega arith)

on_left_by : (k : Quarter) (p q : Corner) (cell : Place) → Ends k p q → spot_at p k ≡ Some cell → HasOnLeft (p, q) cell
on_left_by nw p q cell is at =
    let found = spot_some p.0 p.1 cell at in (
      2,
      lit< tt,
      sym (edge_is (p, q) _ _ (pair_is p (cell.0 + 1) (cell.1 + 1) (omega arith) (omega arith))
          (pair_is q cell.0 (cell.1 + 1) (omega arith) (omega arith))),
    )
on_left_by ne p q cell is at =
    let found = spot_some p.0 (suc p.1) cell at in (
      1,
      lit< tt,
      sym (edge_is (p, q) _ _ (pair_is p (cell.0 + 1) cell.1 (omega arith) (omega arith))
          (pair_is q (cell.0 + 1) (cell.1 + 1) (omega arith) (omega arith))),
    )
on_left_by se p q cell is at =
    let found = spot_some (suc p.0) (suc p.1) cell at in
    (0, lit< tt, sym (edge_is (p, q) _ _ (pair_is p cell.0 cell.1 (omega arith) (omega arith)) (pair_is q (cell.0 + 1) cell.1 (omega arith) (omega arith))))
on_left_by sw p q cell is at =
    let found = spot_some (suc p.0) p.1 cell at in
    (3, lit< tt, sym (edge_is (p, q) _ _ (pair_is p cell.0 (cell.1 + 1) (omega arith) (omega arith)) (pair_is q cell.0 cell.1 (omega arith) (omega arith))))

pub on_left_told : (e : Edge) (cell : Place) → IsUnitEdge e → left_spot e ≡ Some cell → HasOnLeft e cell
on_left_told e cell unit is = on_left_by (quarter e) e.0 e.1 cell (unit_ends e unit) (sym (left_at_start e) ∙ is)

shares_by : (k : Quarter) (p : Corner) (a b : Place) → spot_at p k ≡ Some a → spot_at p (turn k) ≡ Some b → SharesSide a b
shares_by nw p a b at_a at_b =
    let x = spot_some p.0 p.1 a at_a in
    let y = spot_some p.0 (suc p.1) b at_b in
    inl (omega arith, inr (omega arith))
shares_by ne p a b at_a at_b =
    let x = spot_some p.0 (suc p.1) a at_a in
    let y = spot_some (suc p.0) (suc p.1) b at_b in
    inr (omega arith, inr (omega arith))
shares_by se p a b at_a at_b =
    let x = spot_some (suc p.0) (suc p.1) a at_a in
    let y = spot_some (suc p.0) p.1 b at_b in
    inl (omega arith, inl (omega arith))
shares_by sw p a b at_a at_b =
    let x = spot_some (suc p.0) p.1 a at_a in
    let y = spot_some p.0 p.1 b at_b in
    inr (omega arith, inl (omega arith))

-- cells beside each other share a side
pub beside_shares : (a b : Place) → IsBeside (Some a) (Some b) → SharesSide a b
beside_shares a b is = shares_by (quarter is.edge) is.edge.0 a b (sym (left_at_start is.edge) ∙ is.left) (sym (right_at_start is.edge) ∙ is.right)

beside_by : (p q : Corner) (k : Quarter) (a b : Option Place) → Ends k p q → spot_at p k ≡ a → spot_at p (turn k) ≡ b → IsBeside a b
beside_by p q k a b ends at_a at_b =
    let found = ends_unit k (p, q) ends in
    record {
      edge = (p, q);
      unit = found.0;
      left = left_at_start (p, q) ∙ ap (spot_at p) found.1 ∙ at_a;
      right = right_at_start (p, q) ∙ ap (λ (j : Quarter). spot_at p (turn j)) found.1 ∙ at_b;
    }

-- a spot and the one to the left of it; a spot and the one above it
pub beside_left : (r c : ℕ) → IsBeside (spot (suc r) (suc c)) (spot (suc r) c)
beside_left r c = beside_by (r, c) (r + 1, c) se _ _ (refl, refl) refl refl

pub beside_above : (r c : ℕ) → IsBeside (spot r (suc c)) (spot (suc r) (suc c))
beside_above r c = beside_by (r, c) (r, c + 1) ne _ _ (refl, refl) refl refl

pub shares_beside : (a b : Place) → SharesSide a b → IsBeside (Some a) (Some b)
shares_beside a b (inl (row, inl left)) = subst (λ (o : Option Place). IsBeside (Some a) o) (some_spot (suc a.0) a.1 b (omega arith) (omega arith))
    (beside_left a.0 a.1)
shares_beside a b (inl (row, inr right)) = beside_back (Some b) (Some a)
    (subst (λ (o : Option Place). IsBeside (Some b) o) (some_spot (suc b.0) b.1 a (omega arith) (omega arith)) (beside_left b.0 b.1))
shares_beside a b (inr (col, inl up)) = beside_back (Some b) (Some a)
    (subst (λ (o : Option Place). IsBeside o (Some a)) (some_spot a.0 (suc a.1) b (omega arith) (omega arith)) (beside_above a.0 a.1))
shares_beside a b (inr (col, inr down)) = subst (λ (o : Option Place). IsBeside o (Some b)) (some_spot b.0 (suc b.1) a (omega arith) (omega arith))
    (beside_above b.0 b.1)

-- an edge that leads down
pub down_spots : (r c : ℕ) → IsUnitEdge ((r, c), (r + 1, c)) × (left_spot ((r, c), (r + 1, c)) ≡ Some (r, c)) ×
    (right_spot ((r, c), (r + 1, c)) ≡ spot (suc r) c)
down_spots r c =
    let found = ends_unit se ((r, c), (r + 1, c)) (refl, refl) in (
      found.0,
      left_at_start ((r, c), (r + 1, c)) ∙ ap (spot_at (r, c)) found.1,
      right_at_start ((r, c), (r + 1, c))
          ∙ ap (λ (j : Quarter). spot_at (r, c) (turn j)) found.1,
    )

-- the spots of an edge, by where it ends
pub ends_spots : (k : Quarter) (e : Edge) → Ends k e.0 e.1 → IsUnitEdge e × (left_spot e ≡ spot_at e.0 k) × (right_spot e ≡ spot_at e.0 (turn k))
ends_spots k e ends =
    let found = ends_unit k e ends in
    (found.0, left_at_start e ∙ ap (spot_at e.0) found.1, right_at_start e ∙ ap (λ (j : Quarter). spot_at e.0 (turn j)) found.1)
