-- The cells round a cell, and the steps of the two connectivities.
use Rattle.std.specs.Prelude.{◌≡◌, ℕ, ◌+◌, ◌⊎◌, Bool, true, false, List, [], ◌∷◌, ◌++◌, IsSomeAnd, slice_get, if◌then◌else◌}
use Rattle.cell_base.specs.Raster.{Place}

-- one of the two numbers is one more than the other
abbrev pub AreNext : ℕ → ℕ → Type 0
AreNext m n = (m ≡ n + 1) ⊎ (n ≡ m + 1)

-- the two cells share a side: one row and neighbouring columns, or one column and neighbouring rows
abbrev pub SharesSide : Place → Place → Type 0
SharesSide a b = ((a.0 ≡ b.0) × AreNext a.1 b.1) ⊎ ((a.1 ≡ b.1) × AreNext a.0 b.0)

-- the two cells share a corner and no side
abbrev pub SharesCorner : Place → Place → Type 0
SharesCorner a b = AreNext a.0 b.0 × AreNext a.1 b.1

-- the two connectivities, as the manuals' options -4 and -8 name them: whether a shared corner joins, too
abbrev pub four : Bool
four = false

abbrev pub eight : Bool
eight = true

-- one step of a connectivity: under four (false) to a cell that shares a side, under eight (true) to one that shares
-- a side or a corner
abbrev pub IsStep : Bool → Place → Place → Type 0
IsStep false a b = SharesSide a b
IsStep true a b = SharesSide a b ⊎ SharesCorner a b

-- the number of steps from a cell, those that leave the grid included
abbrev pub step_count : Bool → ℕ
step_count connectivity = if connectivity then 8 else 4

-- how many columns a step to another row may lead sideways
abbrev pub step_reach : Bool → ℕ
step_reach connectivity = if connectivity then 1 else 0

-- how a number changes
pub data Change : Type 0 where
  less : Change
  same : Change
  more : Change

-- the second number is one less than the first, the same, or one more
abbrev pub Changes : Change → ℕ → ℕ → Type 0
Changes less m n = m ≡ n + 1
Changes same m n = n ≡ m
Changes more m n = n ≡ m + 1

-- the changes of row and column: up, left, right and down
abbrev pub side_ways : List (Change × Change)
side_ways = (less, same) ∷ (same, less) ∷ (same, more) ∷ (more, same) ∷ []

-- up-left, up-right, down-left and down-right
abbrev pub corner_ways : List (Change × Change)
corner_ways = (less, less) ∷ (less, more) ∷ (more, less) ∷ (more, more) ∷ []

-- all of them, in this order
abbrev pub ways : List (Change × Change)
ways = side_ways ++ corner_ways

-- the second cell is the neighbour of the first in the way of this number
abbrev pub IsNeighbour : ℕ → Place → Place → Type 0
IsNeighbour k a b = IsSomeAnd (slice_get ways k) (λ way. Changes way.0 a.0 b.0 × Changes way.1 a.1 b.1)
