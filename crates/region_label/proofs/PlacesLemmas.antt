-- The places of a grid stand in a list, row by row.
use Rattle.std.proofs.Common.{◌≡◌, ℕ, zero, suc, ◌+◌, inl, inr, List, [], ◌∷◌, ◌++◌, refl, sym, subst, arith}
use Rattle.std.specs.Prelude.{All, AllPairs, Contains, ◌<◌}
use Rattle.std.proofs.lemmas.List.Elements.{All-push, All-weaker, Contains-append_left, Contains-push}
use Rattle.std.proofs.lemmas.List.Quantifiers.{all_pairs_push}
use Rattle.cell_base.specs.Raster.{Place}
use Rattle.cell_base.specs.Order.{IsBefore}
use Rattle.cell_base.proofs.OrderLemmas.{at_row_end, before_more, before_next, in_next_row, none_before}

-- the places of so many columns that are before a place, in order
record AreBefore (ncols : ℕ) (place : Place) (places : List Place) : Type 0 where
  all : (p : Place) → p.1 < ncols → IsBefore p place → Contains places p
  before : All (λ p. IsBefore p place) places
  order : AllPairs IsBefore places

next_place : (ncols row col : ℕ) (places : List Place) → AreBefore ncols (row, col) places → AreBefore ncols (row, col + 1) (places ++ (row, col) ∷ [])
next_place ncols row col places are = record {
  all = λ p in_col is. elim (before_next p row col is) [
    | inl old ↦ Contains-append_left places ((row, col) ∷ []) p (are.all p in_col old)
    | inr same ↦ subst (λ (q : Place). Contains (places ++ (row, col) ∷ []) q) (sym same) (Contains-push places (row, col))
  ];
  before = All-push (λ p. IsBefore p (row, col + 1)) places (row, col) (All-weaker (λ p. IsBefore p (row, col)) (λ p. IsBefore p (row, col + 1)) (λ p is. before_more p row col is) places are.before) (inr (refl, omega arith));
  order = all_pairs_push IsBefore places (row, col) are.order are.before;
}

next_row : (ncols row : ℕ) (places : List Place) → AreBefore ncols (row, ncols) places → AreBefore ncols (row + 1, 0) places
next_row ncols row places are = record {
  all = λ p in_col is. are.all p in_col (at_row_end p row ncols in_col is);
  before = All-weaker (λ p. IsBefore p (row, ncols)) (λ p. IsBefore p (row + 1, 0)) (λ p is. in_next_row p row ncols is) places are.before;
  order = are.order;
}

in_row : (ncols row col : ℕ) → (places : List Place) × AreBefore ncols (row, 0) places → (places : List Place) × AreBefore ncols (row, col) places
in_row ncols row zero start = start
in_row ncols row (suc col) start =
    let front = in_row ncols row col start in
    let more : col + 1 ≡ suc col = omega arith in
    (front.0 ++ (row, col) ∷ [], subst (λ (n : ℕ). AreBefore ncols (row, n) (front.0 ++ (row, col) ∷ [])) more (next_place ncols row col front.0 front.1))

in_rows : (ncols row : ℕ) → (places : List Place) × AreBefore ncols (row, 0) places
in_rows ncols zero = (
  [],
  record {
    all = λ p in_col is. absurd (none_before p is);
    before = λ k d within. absurd (omega arith);
    order = λ i j d less within. absurd (omega arith);
  },
)
in_rows ncols (suc row) =
    let front = in_row ncols row ncols (in_rows ncols row) in
    let more : row + 1 ≡ suc row = omega arith in
    (front.0, subst (λ (n : ℕ). AreBefore ncols (n, 0) front.0) more (next_row ncols row front.0 front.1))

pub places_of : (nrows ncols : ℕ) → (places : List Place) × AllPairs IsBefore places × ((p : Place) → p.0 < nrows → p.1 < ncols → Contains places p)
places_of nrows ncols =
    let all = in_rows ncols nrows in
    (all.0, all.1.order, λ p in_row in_col. all.1.all p in_col (inl in_row))
