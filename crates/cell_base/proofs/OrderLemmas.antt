use Rattle.std.proofs.Common.{◌≡◌, ◌≢◌, ℕ, ◌+◌, ◌<◌, ◌⊎◌, inl, inr, ap, arith}
use Rattle.std.proofs.lemmas.Bool.{cases_eq, cases_lt}
use Rattle.cell_base.specs.Raster.{Place}
use Rattle.cell_base.specs.Order.{IsBefore}

pub before_not_itself : (a : Place) → ¬ IsBefore a a
before_not_itself a (inl row) = omega arith
before_not_itself a (inr same) = omega arith

pub before_trans : (a b c : Place) → IsBefore a b → IsBefore b c → IsBefore a c
before_trans a b c (inl ab) (inl bc) = inl (omega arith)
before_trans a b c (inl ab) (inr bc) = inl (omega arith)
before_trans a b c (inr ab) (inl bc) = inl (omega arith)
before_trans a b c (inr ab) (inr bc) = inr (omega arith, omega arith)

next_cases : (m n : ℕ) → m < n + 1 → (m < n) ⊎ (m ≡ n)
next_cases m n less = elim (cases_lt m n) [ inl below ↦ inl below | inr past ↦ inr (omega arith) ]

-- the next place in a row
pub before_next : (a : Place) (row col : ℕ) → IsBefore a (row, col + 1) → IsBefore a (row, col) ⊎ (a ≡ (row, col))
before_next a row col (inl above) = inl (inl above)
before_next a row col (inr same) = elim (next_cases a.1 col same.1) [
  | inl less ↦ inl (inr (same.0, less))
  | inr is ↦
      let both : (a.0, a.1) ≡ (row, col) = let is_row = same.0 in cc in
      inr both
]

pub before_more : (a : Place) (row col : ℕ) → IsBefore a (row, col) → IsBefore a (row, col + 1)
before_more a row col (inl above) = inl above
before_more a row col (inr same) = inr (same.0, omega arith)

pub at_row_end : (p : Place) (row ncols : ℕ) → p.1 < ncols → IsBefore p (row + 1, 0) → IsBefore p (row, ncols)
at_row_end p row ncols in_col (inl above) = elim (next_cases p.0 row above) [ inl less ↦ inl less | inr same ↦ inr (same, in_col) ]
at_row_end p row ncols in_col (inr same) = absurd (omega (arith, same.1))

pub in_next_row : (p : Place) (row ncols : ℕ) → IsBefore p (row, ncols) → IsBefore p (row + 1, 0)
in_next_row p row ncols (inl above) = inl (omega arith)
in_next_row p row ncols (inr same) = inl (omega (arith, same.0))

pub none_before : (p : Place) → IsBefore p (0, 0) → ⊥
none_before p (inl above) = omega arith
none_before p (inr same) = omega (arith, same.1)

-- two places are the same or not
pub same_or_other : (p q : Place) → (p ≡ q) ⊎ (p ≢ q)
same_or_other p q = elim (cases_eq p.0 q.0) [
  | inl row ↦ elim (cases_eq p.1 q.1) [
    | inl col ↦ inl (let both : (p.0, p.1) ≡ (q.0, q.1) = cc in both)
    | inr other ↦ inr (λ same. other (ap (λ (r : Place). r.1) same))
  ]
  | inr other ↦ inr (λ same. other (ap (λ (r : Place). r.0) same))
]
