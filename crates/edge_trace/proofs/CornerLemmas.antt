-- The cells round a corner, and the sides that end or begin there. Places are counted clockwise from the upper left.
use Rattle.std.proofs.Common.{◌≡◌, ℕ, zero, suc, ◌+◌, ◌<◌, Bool, true, false, refl, ap, sym, ◌∙◌, arith, lit<}
use Rattle.std.proofs.lemmas.Bool.{false≢true, false_from_ne_true}
use Rattle.cell_base.specs.Raster.{Place}
use Rattle.region_label.specs.Labelling.{RegionTable, IsInRegion}
use Rattle.region_label.proofs.RegionDeciders.{is_in_region, is_in_region_sound, is_in_region_complete}
use Rattle.edge_trace.specs.Edge.{Corner}
use Rattle.edge_trace.specs.Inner.Sides.{IsBeside, IsSide, edge_at, side_number}
use Rattle.edge_trace.specs.Inner.Links.{IsLeft, IsRight, IsStraight}
use Rattle.edge_trace.proofs.NumberLemmas.{place_number}
use Rattle.edge_trace.proofs.TurnLemmas.{IsIn, IsOut, across, back, onward}

-- row and column of the cell at a place round a corner, both counted from 1

abbrev pub row_at : Corner → ℕ → ℕ
row_at corner zero = corner.0
row_at corner (suc zero) = corner.0
row_at corner (suc (suc zero)) = corner.0 + 1
row_at corner (suc (suc (suc n))) = corner.0 + 1

abbrev pub col_at : Corner → ℕ → ℕ
col_at corner zero = corner.1
col_at corner (suc zero) = corner.1 + 1
col_at corner (suc (suc zero)) = corner.1 + 1
col_at corner (suc (suc (suc n))) = corner.1

-- the side of that cell that ends at the corner, and the one that begins there

abbrev pub in_side : ℕ → ℕ
in_side zero = 1
in_side (suc zero) = 0
in_side (suc (suc zero)) = 3
in_side (suc (suc (suc n))) = 2

abbrev pub out_side : ℕ → ℕ
out_side zero = 2
out_side (suc zero) = 1
out_side (suc (suc zero)) = 0
out_side (suc (suc (suc n))) = 3

-- the cell is at this place round the corner
pub record IsAt (corner : Corner) (j : ℕ) (cell : Place) : Type 0 where
  pub row : cell.0 + 1 ≡ row_at corner j
  pub col : cell.1 + 1 ≡ col_at corner j

-- a side ends at a corner
pub record EndsAt (corner : Corner) (j : ℕ) (cell : Place) (side : ℕ) : Type 0 where
  pub few : j < 4
  pub at : IsAt corner j cell
  pub side_is : side ≡ in_side j

pub record StartsAt (corner : Corner) (j : ℕ) (cell : Place) (side : ℕ) : Type 0 where
  pub few : j < 4
  pub at : IsAt corner j cell
  pub side_is : side ≡ out_side j

pub ends_at : (cell : Place) (side : ℕ) → side < 4 → (j : ℕ) × EndsAt (edge_at cell side).1 j cell side
ends_at cell zero few = (1, record { few = lit< tt; at = record { row = refl; col = refl }; side_is = refl })
ends_at cell (suc zero) few = (0, record { few = lit< tt; at = record { row = refl; col = refl }; side_is = refl })
ends_at cell (suc (suc zero)) few = (3, record { few = lit< tt; at = record { row = refl; col = refl }; side_is = refl })
ends_at cell (suc (suc (suc zero))) few = (2, record { few = lit< tt; at = record { row = refl; col = refl }; side_is = refl })
ends_at cell (suc (suc (suc (suc k)))) few = absurd (omega arith)

pub starts_at : (cell : Place) (side : ℕ) → side < 4 → (j : ℕ) × StartsAt (edge_at cell side).0 j cell side
starts_at cell zero few = (2, record { few = lit< tt; at = record { row = refl; col = refl }; side_is = refl })
starts_at cell (suc zero) few = (1, record { few = lit< tt; at = record { row = refl; col = refl }; side_is = refl })
starts_at cell (suc (suc zero)) few = (0, record { few = lit< tt; at = record { row = refl; col = refl }; side_is = refl })
starts_at cell (suc (suc (suc zero))) few = (3, record { few = lit< tt; at = record { row = refl; col = refl }; side_is = refl })
starts_at cell (suc (suc (suc (suc k)))) few = absurd (omega arith)

corner_is : (corner : Corner) (r c : ℕ) → r ≡ corner.0 → c ≡ corner.1 → (r, c) ≡ corner
corner_is corner r c row col =
    let same : (r, c) ≡ (corner.0, corner.1) = cc in
    same

-- the other way round
pub starts_from : (corner : Corner) (j : ℕ) (cell : Place) → j < 4 → IsAt corner j cell → (edge_at cell (out_side j)).0 ≡ corner
starts_from corner zero cell few at = corner_is corner (cell.0 + 1) (cell.1 + 1) at.row at.col
starts_from corner (suc zero) cell few at = corner_is corner (cell.0 + 1) cell.1 at.row (omega (arith, at.col))
starts_from corner (suc (suc zero)) cell few at = corner_is corner cell.0 cell.1 (omega (arith, at.row)) (omega (arith, at.col))
starts_from corner (suc (suc (suc zero))) cell few at = corner_is corner cell.0 (cell.1 + 1) (omega (arith, at.row)) at.col
starts_from corner (suc (suc (suc (suc j)))) cell few at = absurd (omega (arith, few))

-- what the number before one has; nothing has a number before 0
abbrev before : ℕ → (ℕ → Bool) → Bool
before zero f = false
before (suc n) f = f n

before_is : (m n : ℕ) (f : ℕ → Bool) → n + 1 ≡ m → before m f ≡ f n
before_is zero n f next = absurd (omega arith)
before_is (suc m) n f next =
    let same : m ≡ n = omega (arith, next) in
    ap f same

before_has : (m : ℕ) (f : ℕ → Bool) → before m f ≡ true → (n : ℕ) × (n + 1 ≡ m) × (f n ≡ true)
before_has zero f is = absurd (false≢true is)
before_has (suc m) f is = (m, omega arith, is)

-- whether the cell at a place round a corner is in the component
abbrev pub has_at : RegionTable → ℕ → Corner → ℕ → Bool
has_at regions k corner j = before (row_at corner j) (λ r. before (col_at corner j) (λ c. is_in_region regions k (r, c)))

pub has_at_is : (regions : RegionTable) (k : ℕ) (corner : Corner) (j : ℕ) (cell : Place) → IsAt corner j cell → has_at regions k corner j ≡ is_in_region regions k cell
has_at_is regions k corner j cell at = before_is (row_at corner j) cell.0 (λ r. before (col_at corner j) (λ c. is_in_region regions k (r, c))) at.row ∙ before_is (col_at corner j) cell.1 (λ c. is_in_region regions k (cell.0, c)) at.col

pub has_at_cell : (regions : RegionTable) (k : ℕ) (corner : Corner) (j : ℕ) → has_at regions k corner j ≡ true → (cell : Place) × IsAt corner j cell × IsInRegion regions k cell
has_at_cell regions k corner j is =
    let row = before_has (row_at corner j) (λ r. before (col_at corner j) (λ c. is_in_region regions k (r, c))) is in
    let col = before_has (col_at corner j) (λ c. is_in_region regions k (row.0, c)) row.2 in
    ((row.0, col.0), record { row = row.1; col = col.1 }, is_in_region_sound regions k (row.0, col.0) col.2)

-- the cell beyond a side that ends at a corner is at the place before, and beyond one that begins there at the next

beside_back : (corner : Corner) (j : ℕ) (cell other : Place) → j < 4 → IsAt corner j cell → IsAt corner (back j) other → IsBeside (in_side j) cell other
beside_back corner zero cell other few at next = (omega (arith, at.row, next.row), omega (arith, at.col, next.col))
beside_back corner (suc zero) cell other few at next = (omega (arith, at.row, next.row), omega (arith, at.col, next.col))
beside_back corner (suc (suc zero)) cell other few at next = (omega (arith, at.row, next.row), omega (arith, at.col, next.col))
beside_back corner (suc (suc (suc zero))) cell other few at next = (omega (arith, at.row, next.row), omega (arith, at.col, next.col))
beside_back corner (suc (suc (suc (suc j)))) cell other few at next = absurd (omega (arith, few))

beside_onward : (corner : Corner) (j : ℕ) (cell other : Place) → j < 4 → IsAt corner j cell → IsAt corner (onward j) other → IsBeside (out_side j) cell other
beside_onward corner zero cell other few at next = (omega (arith, at.row, next.row), omega (arith, at.col, next.col))
beside_onward corner (suc zero) cell other few at next = (omega (arith, at.row, next.row), omega (arith, at.col, next.col))
beside_onward corner (suc (suc zero)) cell other few at next = (omega (arith, at.row, next.row), omega (arith, at.col, next.col))
beside_onward corner (suc (suc (suc zero))) cell other few at next = (omega (arith, at.row, next.row), omega (arith, at.col, next.col))
beside_onward corner (suc (suc (suc (suc j)))) cell other few at next = absurd (omega (arith, few))

at_onward : (corner : Corner) (j : ℕ) (cell other : Place) → j < 4 → IsAt corner j cell → IsBeside (out_side j) cell other → IsAt corner (onward j) other
at_onward corner zero cell other few at beside = record { row = omega (arith, at.row, beside.0); col = omega (arith, at.col, beside.1) }
at_onward corner (suc zero) cell other few at beside = record { row = omega (arith, at.row, beside.0); col = omega (arith, at.col, beside.1) }
at_onward corner (suc (suc zero)) cell other few at beside = record { row = omega (arith, at.row, beside.0); col = omega (arith, at.col, beside.1) }
at_onward corner (suc (suc (suc zero))) cell other few at beside = record { row = omega (arith, at.row, beside.0); col = omega (arith, at.col, beside.1) }
at_onward corner (suc (suc (suc (suc j)))) cell other few at beside = absurd (omega (arith, few))

at_back : (corner : Corner) (j : ℕ) (cell other : Place) → j < 4 → IsAt corner j cell → IsBeside (in_side j) cell other → IsAt corner (back j) other
at_back corner zero cell other few at beside = record { row = omega (arith, at.row, beside.0); col = omega (arith, at.col, beside.1) }
at_back corner (suc zero) cell other few at beside = record { row = omega (arith, at.row, beside.0); col = omega (arith, at.col, beside.1) }
at_back corner (suc (suc zero)) cell other few at beside = record { row = omega (arith, at.row, beside.0); col = omega (arith, at.col, beside.1) }
at_back corner (suc (suc (suc zero))) cell other few at beside = record { row = omega (arith, at.row, beside.0); col = omega (arith, at.col, beside.1) }
at_back corner (suc (suc (suc (suc j)))) cell other few at beside = absurd (omega (arith, few))

-- where a side turns right, the cell beyond stays the same
pub beside_across : (corner : Corner) (j : ℕ) (cell next other : Place) → j < 4 → IsAt corner j cell → IsAt corner (across j) next → IsBeside (in_side j) cell other → IsBeside (out_side (across j)) next other
beside_across corner zero cell next other few at there beside = beside_onward corner 2 next other (lit< tt) there (at_back corner 0 cell other few at beside)
beside_across corner (suc zero) cell next other few at there beside = beside_onward corner 3 next other (lit< tt) there (at_back corner 1 cell other few at beside)
beside_across corner (suc (suc zero)) cell next other few at there beside = beside_onward corner 0 next other (lit< tt) there (at_back corner 2 cell other few at beside)
beside_across corner (suc (suc (suc zero))) cell next other few at there beside = beside_onward corner 1 next other (lit< tt) there (at_back corner 3 cell other few at beside)
beside_across corner (suc (suc (suc (suc j)))) cell next other few at there beside = absurd (omega (arith, few))

-- a side of a component that ends at a corner
pub side_in : (regions : RegionTable) (k : ℕ) (corner : Corner) (j : ℕ) (cell : Place) → j < 4 → IsAt corner j cell → IsSide regions k cell (in_side j) → IsIn (has_at regions k corner) j
side_in regions k corner j cell few at is = (
  has_at_is regions k corner j cell at ∙ is_in_region_complete regions k cell is.inside,
  false_from_ne_true (has_at regions k corner (back j)) (λ there.
      let found = has_at_cell regions k corner (back j) there in
      is.beyond found.0 (beside_back corner j cell found.0 few at found.1) found.2),
)

pub side_out : (regions : RegionTable) (k : ℕ) (corner : Corner) (j : ℕ) (cell : Place) → j < 4 → IsAt corner j cell → IsSide regions k cell (out_side j) → IsOut (has_at regions k corner) j
side_out regions k corner j cell few at is = (
  has_at_is regions k corner j cell at ∙ is_in_region_complete regions k cell is.inside,
  false_from_ne_true (has_at regions k corner (onward j)) (λ there.
      let found = has_at_cell regions k corner (onward j) there in
      is.beyond found.0 (beside_onward corner j cell found.0 few at found.1) found.2),
)

few_out : (j : ℕ) → out_side j < 4
few_out zero = lit< tt
few_out (suc zero) = lit< tt
few_out (suc (suc zero)) = lit< tt
few_out (suc (suc (suc j))) = lit< tt

-- and where a side would begin, there is one
pub out_side_of : (regions : RegionTable) (k : ℕ) (corner : Corner) (j : ℕ) → j < 4 → IsOut (has_at regions k corner) j → (cell : Place) × IsAt corner j cell × IsSide regions k cell (out_side j)
out_side_of regions k corner j few out =
    let found = has_at_cell regions k corner j out.0 in (
      found.0,
      found.1,
      record {
        few = few_out j;
        inside = found.2;
        beyond = λ other beside in_region. false≢true (sym out.1 ∙ has_at_is regions k corner (onward j) other (at_onward corner j found.0 other few found.1 beside) ∙ is_in_region_complete regions k other in_region);
      },
    )

-- the numbers of the sides that end and begin at a corner

abbrev pub in_number : ℕ → Corner → ℕ → ℕ
in_number stride corner j = place_number stride (row_at corner j) (col_at corner j) (in_side j)

abbrev pub out_number : ℕ → Corner → ℕ → ℕ
out_number stride corner j = place_number stride (row_at corner j) (col_at corner j) (out_side j)

pub number_at : (stride : ℕ) (corner : Corner) (j : ℕ) (cell : Place) (side : ℕ) → IsAt corner j cell → side_number stride cell side ≡ place_number stride (row_at corner j) (col_at corner j) side
number_at stride corner j cell side at = ap (λ (n : ℕ). place_number stride n (cell.1 + 1) side) at.row ∙ ap (λ (n : ℕ). place_number stride (row_at corner j) n side) at.col

pub right_number : (stride : ℕ) (corner : Corner) (j t : ℕ) → j < 4 → IsRight stride (in_side j) (in_number stride corner j) t → t ≡ out_number stride corner (across j)
right_number stride corner zero t few is = omega (arith, is)
right_number stride corner (suc zero) t few is = omega (arith, is)
right_number stride corner (suc (suc zero)) t few is = omega (arith, is)
right_number stride corner (suc (suc (suc zero))) t few is = omega (arith, is)
right_number stride corner (suc (suc (suc (suc j)))) t few is = absurd (omega (arith, few))

pub straight_number : (stride : ℕ) (corner : Corner) (j t : ℕ) → j < 4 → IsStraight stride (in_side j) (in_number stride corner j) t → t ≡ out_number stride corner (onward j)
straight_number stride corner zero t few is = omega (arith, is)
straight_number stride corner (suc zero) t few is = omega (arith, is)
straight_number stride corner (suc (suc zero)) t few is = omega (arith, is)
straight_number stride corner (suc (suc (suc zero))) t few is = omega (arith, is)
straight_number stride corner (suc (suc (suc (suc j)))) t few is = absurd (omega (arith, few))

pub left_number : (stride : ℕ) (corner : Corner) (j t : ℕ) → j < 4 → IsLeft (in_side j) (in_number stride corner j) t → t ≡ out_number stride corner j
left_number stride corner zero t few is = omega (arith, is)
left_number stride corner (suc zero) t few is = omega (arith, is)
left_number stride corner (suc (suc zero)) t few is = omega (arith, is)
left_number stride corner (suc (suc (suc zero))) t few is = omega (arith, is)
left_number stride corner (suc (suc (suc (suc j)))) t few is = absurd (omega (arith, few))
