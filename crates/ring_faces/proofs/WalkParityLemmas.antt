-- The inside of two neighbouring cells differs exactly where an odd number of a ring's edges lie between them.
use Rattle.std.proofs.Common.{◌≡◌, ℕ, ◌+◌, Bool, false, List, [], ◌∷◌, refl, sym, ap, ◌∙◌, arith}
use Rattle.std.specs.Prelude.{◌==◌, ◌&&◌, nat_le}
use Rattle.std.proofs.lemmas.Bool.Decides.{nat_tests}
use Rattle.edge_trace.specs.Edge.{Corner, Edge, IsUnitEdge}
use Rattle.edge_trace.specs.Crossing.{is_crossed}
use Rattle.edge_trace.proofs.ParityLemmas.{change_beside, xor_joins, xor_self, is_level_at, is_odd, is_upright_at, odd_xor}
use Rattle.std.proofs.Math.Bool.{xor}
use Rattle.ring_faces.proofs.RingLemmas.{Leads}

-- a walk changes between a set of corners and the rest an odd number of times exactly where its ends differ
pub changes_sides : (side : Corner → Bool) (a b : Corner) (edges : List Edge) → Leads a edges b → is_odd (λ e. xor (side e.0) (side e.1)) edges ≡ xor (side a) (side b)
changes_sides side a b [] leads = rw leads (sym (xor_self (side b)))
changes_sides side a b (e ∷ es) leads = rw (changes_sides side e.1 b es leads.2, leads.0) (xor_joins (side a) (side e.1) (side b))

-- tests that agree at each unit edge have one parity
pub odd_same : (p q : Edge → Bool) → ((e : Edge) → IsUnitEdge e → p e ≡ q e) → (a b : Corner) (edges : List Edge) → Leads a edges b → is_odd p edges ≡ is_odd q edges
odd_same p q same a b [] leads = refl
odd_same p q same a b (e ∷ es) leads = rw (same e leads.1, odd_same p q same e.1 b es leads.2) refl

-- the corners of a row up to a column
abbrev in_front : ℕ → ℕ → Corner → Bool
in_front row col p = (p.0 == row) && nat_le p.1 col

change_of_edge : (row col : ℕ) (e : Edge) → IsUnitEdge e → xor (in_front (row + 1) col e.0) (in_front (row + 1) col e.1) ≡ xor (xor (is_crossed (row, col) e) (is_crossed (row + 1, col) e)) (is_level_at (row + 1) col e)
unfolding xor
change_of_edge row col e unit = grind (arith, nat_tests)

-- a cell and the one below it, by a closed walk
pub odd_below : (a : Corner) (edges : List Edge) (row col : ℕ) → Leads a edges a → xor (xor (is_odd (is_crossed (row, col)) edges) (is_odd (is_crossed (row + 1, col)) edges)) (is_odd (is_level_at (row + 1) col) edges) ≡ false
odd_below a edges row col closed =
    let side = in_front (row + 1) col in
    let even : is_odd (λ e. xor (side e.0) (side e.1)) edges ≡ false = changes_sides side a a edges closed ∙ xor_self (side a) in
    let same = odd_same _ _ (change_of_edge row col) a a edges closed in
    let split = odd_xor (λ e. xor (is_crossed (row, col) e) (is_crossed (row + 1, col) e)) (is_level_at (row + 1) col) edges ∙ ap (λ b. xor b (is_odd (is_level_at (row + 1) col) edges)) (odd_xor (is_crossed (row, col)) (is_crossed (row + 1, col)) edges) in
    sym split ∙ sym same ∙ even

-- a cell and the one to the right of it
pub odd_beside : (a b : Corner) (edges : List Edge) (row col : ℕ) → Leads a edges b → is_odd (is_crossed (row, col + 1)) edges ≡ xor (is_odd (is_crossed (row, col)) edges) (is_odd (is_upright_at row (col + 1)) edges)
odd_beside a b edges row col leads = odd_same _ _ (λ e unit. change_beside row col e) a b edges leads ∙ odd_xor (is_crossed (row, col)) (is_upright_at row (col + 1)) edges
