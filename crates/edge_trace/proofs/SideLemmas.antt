-- Sides of cells as boundary edges.
use Rattle.std.proofs.Common.{◌≡◌, ℕ, zero, suc, ◌+◌, ◌<◌, refl, ap, sym, ◌∙◌, subst, arith, lit<}
use Rattle.std.specs.Prelude.{◌%◌, ◌==◌}
use Rattle.std.proofs.lemmas.Bool.{eq-eqb, ne_eqb}
use Rattle.cell_base.specs.Raster.{Place}
use Rattle.region_label.specs.Labelling.{RegionTable, IsInRegion}
use Rattle.edge_trace.specs.Edge.{Edge, HasOnLeft, HasOnRight, IsBoundaryEdge, is_level}
use Rattle.edge_trace.specs.Inner.Sides.{IsBeside, IsSide, cell_of, edge_at, edge_of}
use Rattle.edge_trace.proofs.BoundaryLemmas.{left_of_down, left_of_up, place_is}

abbrev right : ℕ → ℕ → Edge
right r j = ((r, j), (r, j + 1))

abbrev left : ℕ → ℕ → Edge
left r j = ((r, j + 1), (r, j))

-- the cell on the left of an edge that leads to the right
left_of_right : (r j : ℕ) (cell : Place) → HasOnLeft (right r j) cell → (cell.0 + 1 ≡ r) × (cell.1 ≡ j)
left_of_right r j cell (zero, within, is) = absurd (omega (arith, ap (λ (e : Edge). e.0.0) is, ap (λ (e : Edge). e.1.0) is))
left_of_right r j cell (suc zero, within, is) = (ap (λ (e : Edge). e.0.0) is, ap (λ (e : Edge). e.0.1) is)
left_of_right r j cell (suc (suc zero), within, is) = absurd (omega (arith, ap (λ (e : Edge). e.0.0) is, ap (λ (e : Edge). e.1.0) is))
left_of_right r j cell (suc (suc (suc zero)), within, is) = absurd (omega (arith, ap (λ (e : Edge). e.0.1) is, ap (λ (e : Edge). e.1.1) is))
left_of_right r j cell (suc (suc (suc (suc k))), within, is) = absurd (omega arith)

-- the cell on the left of an edge that leads to the left
left_of_left : (r j : ℕ) (cell : Place) → HasOnLeft (left r j) cell → (cell.0 ≡ r) × (cell.1 ≡ j)
left_of_left r j cell (zero, within, is) = absurd (omega (arith, ap (λ (e : Edge). e.0.0) is, ap (λ (e : Edge). e.1.0) is))
left_of_left r j cell (suc zero, within, is) = absurd (omega (arith, ap (λ (e : Edge). e.0.1) is, ap (λ (e : Edge). e.1.1) is))
left_of_left r j cell (suc (suc zero), within, is) = absurd (omega (arith, ap (λ (e : Edge). e.0.0) is, ap (λ (e : Edge). e.1.0) is))
left_of_left r j cell (suc (suc (suc zero)), within, is) = (ap (λ (e : Edge). e.1.0) is, ap (λ (e : Edge). e.1.1) is)
left_of_left r j cell (suc (suc (suc (suc k))), within, is) = absurd (omega arith)

-- a cell is on the left of its sides
pub on_left : (cell : Place) (side : ℕ) → side < 4 → HasOnLeft (edge_at cell side) cell
on_left cell zero few = (0, lit< tt, refl)
on_left cell (suc zero) few = (1, lit< tt, refl)
on_left cell (suc (suc zero)) few = (2, lit< tt, refl)
on_left cell (suc (suc (suc zero))) few = (3, lit< tt, refl)
on_left cell (suc (suc (suc (suc k)))) few = absurd (omega arith)

-- and no other
pub left_is : (cell other : Place) (side : ℕ) → side < 4 → HasOnLeft (edge_at cell side) other → other ≡ cell
left_is cell other zero few on =
    let is = left_of_down cell.0 cell.1 other on in
    place_is other cell.0 cell.1 is.0 is.1
left_is cell other (suc zero) few on =
    let is = left_of_right (cell.0 + 1) cell.1 other on in
    place_is other cell.0 cell.1 (omega (arith, is.0)) is.1
left_is cell other (suc (suc zero)) few on =
    let is = left_of_up cell.0 (cell.1 + 1) other on in
    place_is other cell.0 cell.1 is.0 (omega (arith, is.1))
left_is cell other (suc (suc (suc zero))) few on =
    let is = left_of_left cell.0 cell.1 other on in
    place_is other cell.0 cell.1 is.0 is.1
left_is cell other (suc (suc (suc (suc k)))) few on = absurd (omega (arith, few))

-- the cell on the right of a side is the one beyond
pub right_is : (cell other : Place) (side : ℕ) → side < 4 → HasOnRight (edge_at cell side) other → IsBeside side cell other
right_is cell other zero few on = left_of_up cell.0 cell.1 other on
right_is cell other (suc zero) few on = left_of_left (cell.0 + 1) cell.1 other on
right_is cell other (suc (suc zero)) few on = left_of_down cell.0 (cell.1 + 1) other on
right_is cell other (suc (suc (suc zero))) few on = left_of_right cell.0 cell.1 other on
right_is cell other (suc (suc (suc (suc k)))) few on = absurd (omega (arith, few))

pub on_right : (cell other : Place) (side : ℕ) → side < 4 → IsBeside side cell other → HasOnRight (edge_at cell side) other
on_right cell other zero few beside =
    let same : ((other.0 + 1, other.1 + 1), (other.0, other.1 + 1)) ≡ ((cell.0 + 1, cell.1), (cell.0, cell.1)) = cc (beside.0, beside.1) in
    (2, lit< tt, same)
on_right cell other (suc zero) few beside =
    let same : ((other.0, other.1 + 1), (other.0, other.1)) ≡ ((cell.0 + 1, cell.1 + 1), (cell.0 + 1, cell.1)) = cc (beside.0, beside.1) in
    (3, lit< tt, same)
on_right cell other (suc (suc zero)) few beside =
    let same : ((other.0, other.1), (other.0 + 1, other.1)) ≡ ((cell.0, cell.1 + 1), (cell.0 + 1, cell.1 + 1)) = cc (beside.0, beside.1) in
    (0, lit< tt, same)
on_right cell other (suc (suc (suc zero))) few beside =
    let same : ((other.0 + 1, other.1), (other.0 + 1, other.1 + 1)) ≡ ((cell.0, cell.1), (cell.0, cell.1 + 1)) = cc (beside.0, beside.1) in
    (1, lit< tt, same)
on_right cell other (suc (suc (suc (suc k)))) few beside = absurd (omega (arith, few))

-- a side of a component is one of its boundary edges
pub boundary_of_side : (regions : RegionTable) (k : ℕ) (cell : Place) (side : ℕ) → IsSide regions k cell side → IsBoundaryEdge (IsInRegion regions k) (edge_at cell side)
boundary_of_side regions k cell side is = record {
  left = (cell, on_left cell side is.few, is.inside);
  right = λ other on. is.beyond other (right_is cell other side is.few on);
}

-- an edge round a cell is one of its sides
pub side_of_left : (e : Edge) (cell : Place) → HasOnLeft e cell → (side : ℕ) × (side < 4) × (edge_at cell side ≡ e)
side_of_left e cell (zero, within, is) = (0, lit< tt, is)
side_of_left e cell (suc zero, within, is) = (1, lit< tt, is)
side_of_left e cell (suc (suc zero), within, is) = (2, lit< tt, is)
side_of_left e cell (suc (suc (suc zero)), within, is) = (3, lit< tt, is)
side_of_left e cell (suc (suc (suc (suc k))), within, is) = absurd (omega arith)

-- and the boundary edges are sides
pub side_of_boundary : (regions : RegionTable) (k : ℕ) (e : Edge) → IsBoundaryEdge (IsInRegion regions k) e → (cell : Place) × (side : ℕ) × IsSide regions k cell side × (edge_at cell side ≡ e)
side_of_boundary regions k e boundary =
    let cell = boundary.left.0 in
    let found = side_of_left e cell boundary.left.1 in (
      cell,
      found.0,
      record {
        few = found.1;
        inside = boundary.left.2;
        beyond = λ other beside. boundary.right other (subst (λ (f : Edge). HasOnRight f other) found.2 (on_right cell other found.0 found.1 beside));
      },
      found.2,
    )

-- the sides of a cell differ
same_side : (cell : Place) (s t : ℕ) → s < 4 → t < 4 → edge_at cell s ≡ edge_at cell t → s ≡ t
same_side cell zero zero few_s few_t is = refl
same_side cell zero (suc zero) few_s few_t is = absurd (omega (arith, ap (λ (e : Edge). e.0.0) is))
same_side cell zero (suc (suc zero)) few_s few_t is = absurd (omega (arith, ap (λ (e : Edge). e.0.0) is))
same_side cell zero (suc (suc (suc zero))) few_s few_t is = absurd (omega (arith, ap (λ (e : Edge). e.0.1) is))
same_side cell (suc zero) zero few_s few_t is = absurd (omega (arith, ap (λ (e : Edge). e.0.0) is))
same_side cell (suc zero) (suc zero) few_s few_t is = refl
same_side cell (suc zero) (suc (suc zero)) few_s few_t is = absurd (omega (arith, ap (λ (e : Edge). e.0.1) is))
same_side cell (suc zero) (suc (suc (suc zero))) few_s few_t is = absurd (omega (arith, ap (λ (e : Edge). e.0.0) is))
same_side cell (suc (suc zero)) zero few_s few_t is = absurd (omega (arith, ap (λ (e : Edge). e.0.0) is))
same_side cell (suc (suc zero)) (suc zero) few_s few_t is = absurd (omega (arith, ap (λ (e : Edge). e.0.1) is))
same_side cell (suc (suc zero)) (suc (suc zero)) few_s few_t is = refl
same_side cell (suc (suc zero)) (suc (suc (suc zero))) few_s few_t is = absurd (omega (arith, ap (λ (e : Edge). e.0.0) is))
same_side cell (suc (suc (suc zero))) zero few_s few_t is = absurd (omega (arith, ap (λ (e : Edge). e.0.1) is))
same_side cell (suc (suc (suc zero))) (suc zero) few_s few_t is = absurd (omega (arith, ap (λ (e : Edge). e.0.0) is))
same_side cell (suc (suc (suc zero))) (suc (suc zero)) few_s few_t is = absurd (omega (arith, ap (λ (e : Edge). e.0.0) is))
same_side cell (suc (suc (suc zero))) (suc (suc (suc zero))) few_s few_t is = refl
same_side cell s (suc (suc (suc (suc t)))) few_s few_t is = absurd (omega (arith, few_t))
same_side cell (suc (suc (suc (suc s)))) t few_s few_t is = absurd (omega (arith, few_s))

-- an edge is one side of one cell
pub edge_is : (a b : Place) (s t : ℕ) → s < 4 → t < 4 → edge_at a s ≡ edge_at b t → (a ≡ b) × (s ≡ t)
edge_is a b s t few_s few_t same =
    let cells : a ≡ b = left_is b a t few_t (subst (λ (e : Edge). HasOnLeft e a) same (on_left a s few_s)) in
    (cells, same_side b s t few_s few_t (sym (ap (λ (p : Place). edge_at p s) cells) ∙ same))

-- the lower and the upper side are level
level_side : (cell : Place) (side : ℕ) → side < 4 → is_level (edge_at cell side) ≡ (side % 2 == 1)
level_side cell zero few = ne_eqb cell.0 (cell.0 + 1) (λ same. omega (arith, same))
level_side cell (suc zero) few = eq-eqb (cell.0 + 1) (cell.0 + 1) refl
level_side cell (suc (suc zero)) few = ne_eqb (cell.0 + 1) cell.0 (λ same. omega (arith, same))
level_side cell (suc (suc (suc zero))) few = eq-eqb cell.0 cell.0 refl
level_side cell (suc (suc (suc (suc k)))) few = absurd (omega (arith, few))

pub level_number : (stride number : ℕ) → is_level (edge_of stride number) ≡ (number % 2 == 1)
level_number stride number = level_side (cell_of stride number) (number % 4) (omega arith)
    ∙ ap (λ (n : ℕ). n == 1) (omega arith)
