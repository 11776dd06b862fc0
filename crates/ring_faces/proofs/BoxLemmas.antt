-- What lies inside a ring is within its box.
use Rattle.std.proofs.Common.{◌≡◌, ℕ, ◌+◌, ◌%◌, ◌<◌, ◌≤◌, inl, inr, Bool, true, false, List, [], ◌∷◌, refl, sym, ap, ◌∙◌, cond, arith}
use Rattle.std.specs.Prelude.{◌==◌, ◌&&◌, nat_le}
use Rattle.std.specs.List.{list_all}
use Rattle.std.proofs.lemmas.Bool.{eqb-true, cases_lt, and_parts}
use Rattle.std.proofs.lemmas.List.Sums.{sum_by-cons}
use Rattle.std.proofs.lemmas.Bool.Decides.{nat_tests}
use Rattle.cell_base.specs.Raster.{Place}
use Rattle.edge_trace.specs.Edge.{Edge}
use Rattle.edge_trace.specs.Crossing.{is_crossed, crossing_count, IsEnclosed}
use Rattle.cell_base.proofs.ListDeciders.{all_below, below_by}

abbrev pub is_within : ℕ → ℕ → Edge → Bool
is_within nrows ncols e = (nat_le e.0.0 nrows && nat_le e.1.0 nrows) && (nat_le e.0.1 ncols && nat_le e.1.1 ncols)

-- all edges are within, and right of them each row has been crossed evenly
abbrev pub is_boxed : ℕ → ℕ → List Edge → Bool
is_boxed nrows ncols edges = list_all (is_within nrows ncols) edges && all_below (λ r. (crossing_count edges (r, ncols) % 2) == 0) nrows

far_row : (nrows ncols r c : ℕ) (e : Edge) → is_within nrows ncols e ≡ true → nrows ≤ r → is_crossed (r, c) e ≡ false
far_row nrows ncols r c e within past = grind (arith, nat_tests)

far_col : (nrows ncols r c : ℕ) (e : Edge) → is_within nrows ncols e ≡ true → ncols ≤ c → is_crossed (r, c) e ≡ is_crossed (r, ncols) e
far_col nrows ncols r c e within past = grind (arith, nat_tests)

count_far_row : (nrows ncols r c : ℕ) (edges : List Edge) → list_all (is_within nrows ncols) edges ≡ true → nrows ≤ r → crossing_count edges (r, c) ≡ 0
count_far_row nrows ncols r c [] all past = refl
count_far_row nrows ncols r c (e ∷ es) all past =
    let parts = and_parts (is_within nrows ncols e) (list_all (is_within nrows ncols) es) all in
    rw (far_row nrows ncols r c e parts.0 past) (omega (arith, count_far_row nrows ncols r c es parts.1 past))

abbrev bit : Bool → ℕ
bit b = cond b 1 0

count_cons : (cell : Place) (e : Edge) (es : List Edge) → crossing_count (e ∷ es) cell ≡ bit (is_crossed cell e) + crossing_count es cell
count_cons cell e es = sum_by-cons (λ x. bit (is_crossed cell x)) e es

count_far_col : (nrows ncols r c : ℕ) (edges : List Edge) → list_all (is_within nrows ncols) edges ≡ true → ncols ≤ c → crossing_count edges (r, c) ≡ crossing_count edges (r, ncols)
count_far_col nrows ncols r c [] all past = refl
count_far_col nrows ncols r c (e ∷ es) all past =
    let parts = and_parts (is_within nrows ncols e) (list_all (is_within nrows ncols) es) all in
    count_cons (r, c) e es ∙ ap (λ (b : Bool). bit b + crossing_count es (r, c)) (far_col nrows ncols r c e parts.0 past) ∙ ap (λ (n : ℕ). bit (is_crossed (r, ncols) e) + n) (count_far_col nrows ncols r c es parts.1 past) ∙ sym (count_cons (r, ncols) e es)

pub enclosed_within : (nrows ncols : ℕ) (edges : List Edge) (cell : Place) → is_boxed nrows ncols edges ≡ true → IsEnclosed edges cell → (cell.0 < nrows) × (cell.1 < ncols)
enclosed_within nrows ncols edges cell boxed odd =
    let parts = and_parts (list_all (is_within nrows ncols) edges) (all_below (λ r. (crossing_count edges (r, ncols) % 2) == 0) nrows) boxed in
    elim (cases_lt cell.0 nrows) [
      | inl in_row ↦ elim (cases_lt cell.1 ncols) [
        | inl in_col ↦ (in_row, in_col)
        | inr past ↦
            let even : crossing_count edges (cell.0, ncols) % 2 ≡ 0 = eqb-true (crossing_count edges (cell.0, ncols) % 2) 0 (below_by (λ r. (crossing_count edges (r, ncols) % 2) == 0) nrows cell.0 parts.1 in_row) in
            absurd (omega (arith, odd, even, count_far_col nrows ncols cell.0 cell.1 edges parts.0 past))
      ]
      | inr past ↦ absurd (omega (arith, odd, count_far_row nrows ncols cell.0 cell.1 edges parts.0 past))
    ]
