use Rattle.std.proofs.Common.{◌≡◌, ℕ, zero, suc, ◌+◌, ◌<◌, inl, inr, Bool, true, false, Option, Some, None, sym, arith, lit<}
use Rattle.std.specs.Prelude.{IsSomeAnd, slice_get}
use Rattle.cell_base.specs.Raster.{Place}
use Rattle.cell_base.specs.Steps.{AreNext, SharesSide, SharesCorner, IsStep, step_count, Change, less, same, more, Changes, ways, IsNeighbour}

next_back : (m n : ℕ) → AreNext m n → AreNext n m
next_back m n (inl up) = inr up
next_back m n (inr down) = inl down

side_back : (a b : Place) → SharesSide a b → SharesSide b a
side_back a b (inl (row, next)) = inl (sym row, next_back a.1 b.1 next)
side_back a b (inr (col, next)) = inr (sym col, next_back a.0 b.0 next)

-- a step leads back
pub step_back : (connectivity : Bool) (a b : Place) → IsStep connectivity a b → IsStep connectivity b a
step_back false a b step = side_back a b step
step_back true a b (inl side) = inl (side_back a b side)
step_back true a b (inr corner) = inr (next_back a.0 b.0 corner.0, next_back a.1 b.1 corner.1)

changes_once : (change : Change) (m n o : ℕ) → Changes change m n → Changes change m o → n ≡ o
changes_once less m n o first second = omega arith
changes_once same m n o first second = omega arith
changes_once more m n o first second = omega arith

same_way : (way : Option (Change × Change)) (a b c : Place) → IsSomeAnd way (λ w. Changes w.0 a.0 b.0 × Changes w.1 a.1 b.1) → IsSomeAnd way (λ w. Changes w.0 a.0 c.0 × Changes w.1 a.1 c.1) → b ≡ c
same_way None a b c first second = absurd first
same_way (Some w) a b c first second =
    let rows : b.0 ≡ c.0 = changes_once w.0 a.0 b.0 c.0 first.0 second.0 in
    let cols : b.1 ≡ c.1 = changes_once w.1 a.1 b.1 c.1 first.1 second.1 in
    let both : (b.0, b.1) ≡ (c.0, c.1) = cc in
    both

-- there is one neighbour of a number
pub same_neighbour : (k : ℕ) (a b c : Place) → IsNeighbour k a b → IsNeighbour k a c → b ≡ c
same_neighbour k a b c first second = same_way (slice_get ways k) a b c first second

next_of_less : (m n : ℕ) → m ≡ n + 1 → AreNext m n
next_of_less m n is = inl is

-- each of the neighbours is a step away
pub neighbour_is_step : (connectivity : Bool) (k : ℕ) (a b : Place) → k < step_count connectivity → IsNeighbour k a b → IsStep connectivity a b
neighbour_is_step false zero a b in_count is = inr (sym is.1, inl is.0)
neighbour_is_step false (suc zero) a b in_count is = inl (sym is.0, inl is.1)
neighbour_is_step false (suc (suc zero)) a b in_count is = inl (sym is.0, inr is.1)
neighbour_is_step false (suc (suc (suc zero))) a b in_count is = inr (sym is.1, inr is.0)
neighbour_is_step false (suc (suc (suc (suc k)))) a b in_count is = absurd (omega arith)
neighbour_is_step true zero a b in_count is = inl (inr (sym is.1, inl is.0))
neighbour_is_step true (suc zero) a b in_count is = inl (inl (sym is.0, inl is.1))
neighbour_is_step true (suc (suc zero)) a b in_count is = inl (inl (sym is.0, inr is.1))
neighbour_is_step true (suc (suc (suc zero))) a b in_count is = inl (inr (sym is.1, inr is.0))
neighbour_is_step true (suc (suc (suc (suc zero)))) a b in_count is = inr (inl is.0, inl is.1)
neighbour_is_step true (suc (suc (suc (suc (suc zero))))) a b in_count is = inr (inl is.0, inr is.1)
neighbour_is_step true (suc (suc (suc (suc (suc (suc zero)))))) a b in_count is = inr (inr is.0, inl is.1)
neighbour_is_step true (suc (suc (suc (suc (suc (suc (suc zero))))))) a b in_count is = inr (inr is.0, inr is.1)
neighbour_is_step true (suc (suc (suc (suc (suc (suc (suc (suc k)))))))) a b in_count is = absurd (omega arith)

side_is_neighbour : (a b : Place) → SharesSide a b → (k : ℕ) × (k < 4) × IsNeighbour k a b
side_is_neighbour a b (inl (row, inl left)) = (1, lit< tt, (sym row, left))
side_is_neighbour a b (inl (row, inr right)) = (2, lit< tt, (sym row, right))
side_is_neighbour a b (inr (col, inl up)) = (0, lit< tt, (up, sym col))
side_is_neighbour a b (inr (col, inr down)) = (3, lit< tt, (down, sym col))

corner_is_neighbour : (a b : Place) → SharesCorner a b → (k : ℕ) × (k < 8) × IsNeighbour k a b
corner_is_neighbour a b (inl up, inl left) = (4, lit< tt, (up, left))
corner_is_neighbour a b (inl up, inr right) = (5, lit< tt, (up, right))
corner_is_neighbour a b (inr down, inl left) = (6, lit< tt, (down, left))
corner_is_neighbour a b (inr down, inr right) = (7, lit< tt, (down, right))

-- each step leads to one of the neighbours
pub step_is_neighbour : (connectivity : Bool) (a b : Place) → IsStep connectivity a b → (k : ℕ) × (k < step_count connectivity) × IsNeighbour k a b
step_is_neighbour false a b side = side_is_neighbour a b side
step_is_neighbour true a b (inl side) =
    let found = side_is_neighbour a b side in
    (found.0, omega (arith, found.1), found.2)
step_is_neighbour true a b (inr corner) = corner_is_neighbour a b corner
