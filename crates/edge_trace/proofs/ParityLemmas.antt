-- Odd and even counts of edges.
use Rattle.std.proofs.Common.{◌≡◌, ℕ, ◌+◌, ◌%◌, Bool, true, false, cond, List, [], ◌∷◌, refl, sym, ap, ◌∙◌, arith}
use Rattle.std.specs.Prelude.{◌==◌, ◌&&◌, ◌||◌, count_by}
use Rattle.std.proofs.lemmas.Bool.Decides.{nat_tests}
use Rattle.std.proofs.lemmas.List.Sums.{sum_by-cons}
use Rattle.cell_base.specs.Raster.{Place}
use Rattle.std.proofs.Math.Bool.{xor}
use Rattle.edge_trace.specs.Edge.{Edge}
use Rattle.edge_trace.specs.Crossing.{is_crossed, crossing_count}

-- whether an odd number of them pass
abbrev pub is_odd : {A : Type 0} → (A → Bool) → List A → Bool
is_odd test [] = false
is_odd test (x ∷ xs) = xor (test x) (is_odd test xs)

-- the edge joins the corners (row, col) and (row, col + 1), so it lies between a cell and the one below
abbrev pub is_level_at : ℕ → ℕ → Edge → Bool
is_level_at row col e = ((e.0.0 == row) && (e.1.0 == row)) && (((e.0.1 == col) && (e.1.1 == (col + 1))) || ((e.1.1 == col) && (e.0.1 == (col + 1))))

-- the edge joins the corners (row, col) and (row + 1, col), so it lies between a cell and the one to the right
abbrev pub is_upright_at : ℕ → ℕ → Edge → Bool
is_upright_at row col e = ((e.0.1 == col) && (e.1.1 == col)) && (((e.0.0 == row) && (e.1.0 == (row + 1))) || ((e.1.0 == row) && (e.0.0 == (row + 1))))

pub xor_self : (a : Bool) → xor a a ≡ false
unfolding xor
xor_self true = refl
xor_self false = refl

pub xor_false : (a : Bool) → xor false a ≡ a
unfolding xor
xor_false true = refl
xor_false false = refl

pub xor_joins : (a b c : Bool) → xor (xor a b) (xor b c) ≡ xor a c
unfolding xor
xor_joins true true true = refl
xor_joins true true false = refl
xor_joins true false true = refl
xor_joins true false false = refl
xor_joins false true true = refl
xor_joins false true false = refl
xor_joins false false true = refl
xor_joins false false false = refl

xor_swaps : (a b c d : Bool) → xor (xor a b) (xor c d) ≡ xor (xor a c) (xor b d)
unfolding xor
xor_swaps true true true true = refl
xor_swaps true true true false = refl
xor_swaps true true false true = refl
xor_swaps true true false false = refl
xor_swaps true false true true = refl
xor_swaps true false true false = refl
xor_swaps true false false true = refl
xor_swaps true false false false = refl
xor_swaps false true true true = refl
xor_swaps false true true false = refl
xor_swaps false true false true = refl
xor_swaps false true false false = refl
xor_swaps false false true true = refl
xor_swaps false false true false = refl
xor_swaps false false false true = refl
xor_swaps false false false false = refl

pub odd_xor : (p q : Edge → Bool) (edges : List Edge) → is_odd (λ e. xor (p e) (q e)) edges ≡ xor (is_odd p edges) (is_odd q edges)
unfolding xor
odd_xor p q [] = refl
odd_xor p q (e ∷ es) = ap (xor (xor (p e) (q e))) (odd_xor p q es) ∙ xor_swaps (p e) (q e) (is_odd p es) (is_odd q es)

-- what one column more adds
pub change_beside : (row col : ℕ) (e : Edge) → is_crossed (row, col + 1) e ≡ xor (is_crossed (row, col) e) (is_upright_at row (col + 1) e)
unfolding xor
change_beside row col e = grind (arith, nat_tests)

odd_step : (b : Bool) (n : ℕ) → xor b ((n % 2) == 1) ≡ (((cond b 1 0 + n) % 2) == 1)
unfolding xor
odd_step true n = grind (arith, nat_tests)
odd_step false n = grind (arith, nat_tests)

-- the parity of those that pass is that of their count
pub odd_count : {A : Type 0} (test : A → Bool) (xs : List A) → is_odd test xs ≡ ((count_by test xs % 2) == 1)
odd_count test [] = refl
odd_count test (x ∷ xs) =
    let bit : Bool → ℕ = λ b. cond b 1 0 in
    let more : count_by test (x ∷ xs) ≡ bit (test x) + count_by test xs = sum_by-cons (λ y. bit (test y)) x xs in
    ap (xor (test x)) (odd_count test xs) ∙ odd_step (test x) (count_by test xs) ∙ ap (λ (n : ℕ). (n % 2) == 1) (sym more)

-- so that of the crossed edges is that of the crossing count
pub odd_is_count : (cell : Place) (edges : List Edge) → is_odd (is_crossed cell) edges ≡ ((crossing_count edges cell % 2) == 1)
odd_is_count cell edges = odd_count (is_crossed cell) edges
