-- Runs of a row by their indices.
use Rattle.std.proofs.Common.{◌≡◌, ℕ, ◌+◌, ◌<◌, ◌≤◌, inl, inr, ℤ, List, Some, get_or, ap, sym, ◌∙◌, arith}
use Rattle.std.specs.Prelude.{slice_get, slice_index}
use Rattle.std.proofs.lemmas.Bool.{cases_eq, cases_lt}
use Rattle.std.proofs.lemmas.Option.{same_Some, slice_get-get_or}
use Rattle.region_label.specs.Run.{Run}
use Rattle.region_label.specs.Inner.Rows.{AreInRows}

no_run : Run
no_run = record { row = 0; from = 0; to = 0 }

-- a row's runs begin before they end
pub starts_rise : (ncols nrows : ℕ) (runs : List Run) (units : List ℤ) (starts : List ℕ) (row : ℕ) → AreInRows ncols nrows runs units starts → row < nrows → slice_index starts row ≤ slice_index starts (row + 1)
starts_rise ncols nrows runs units starts row are within = elim (cases_lt (slice_index starts (row + 1)) (slice_index starts row)) [
  | inr rise ↦ rise
  | inl falls ↦
      let next = slice_index starts (row + 1) in
      let at = slice_get-get_or runs next no_run (omega (arith, falls, are.within row)) in
      let above = (are.below row next (get_or runs next no_run) (omega arith) at).0 falls in
      let too = (are.below (row + 1) next (get_or runs next no_run) (omega arith) at).1 (omega (arith, above)) in
      absurd (omega (arith, too))
]

-- the runs between two starts are those of the row
pub row_between : (ncols nrows : ℕ) (runs : List Run) (units : List ℤ) (starts : List ℕ) (row i : ℕ) (run : Run) → AreInRows ncols nrows runs units starts → row < nrows → slice_get runs i ≡ Some run → slice_index starts row ≤ i → i < slice_index starts (row + 1) → run.row ≡ row
row_between ncols nrows runs units starts row i run are within at from to =
    let below = (are.below (row + 1) i run (omega arith) at).0 to in
    elim (cases_lt run.row row) [
      | inl above ↦ absurd (omega (arith, (are.below row i run (omega arith) at).1 above, from))
      | inr here ↦ omega (arith, below, here)
    ]

pub between_row : (ncols nrows : ℕ) (runs : List Run) (units : List ℤ) (starts : List ℕ) (row i : ℕ) (run : Run) → AreInRows ncols nrows runs units starts → row < nrows → slice_get runs i ≡ Some run → run.row ≡ row → (slice_index starts row ≤ i) × (i < slice_index starts (row + 1))
between_row ncols nrows runs units starts row i run are within at is = (
  elim (cases_lt i (slice_index starts row)) [
    | inl less ↦ absurd (omega (arith, (are.below row i run (omega arith) at).0 less, is))
    | inr past ↦ past
  ],
  (are.below (row + 1) i run (omega arith) at).1 (omega arith),
)

-- in a row an earlier run ends no later
pub ends_no_later : (ncols nrows : ℕ) (runs : List Run) (units : List ℤ) (starts : List ℕ) (i j : ℕ) (a b : Run) → AreInRows ncols nrows runs units starts → slice_get runs i ≡ Some a → slice_get runs j ≡ Some b → a.row ≡ b.row → i ≤ j → a.to ≤ b.to
ends_no_later ncols nrows runs units starts i j a b are at_a at_b same less = elim (cases_eq i j) [
  | inl is ↦
      let same_run : a ≡ b = same_Some a b (sym at_a ∙ ap (slice_get runs) is ∙ at_b) in
      omega (arith, ap (λ (run : Run). run.to) same_run)
  | inr other ↦ elim (are.order i j a b (omega arith) at_a at_b) [
    | inl above ↦ absurd (omega (arith, above, same))
    | inr before ↦ omega (arith, before.1, (are.inside j b at_b).1)
  ]
]

-- in a row a later run begins no earlier
pub begins_no_earlier : (ncols nrows : ℕ) (runs : List Run) (units : List ℤ) (starts : List ℕ) (i j : ℕ) (a b : Run) → AreInRows ncols nrows runs units starts → slice_get runs i ≡ Some a → slice_get runs j ≡ Some b → a.row ≡ b.row → i ≤ j → a.from ≤ b.from
begins_no_earlier ncols nrows runs units starts i j a b are at_a at_b same less = elim (cases_eq i j) [
  | inl is ↦
      let same_run : a ≡ b = same_Some a b (sym at_a ∙ ap (slice_get runs) is ∙ at_b) in
      omega (arith, ap (λ (run : Run). run.from) same_run)
  | inr other ↦ elim (are.order i j a b (omega arith) at_a at_b) [
    | inl above ↦ absurd (omega (arith, above, same))
    | inr before ↦ omega (arith, before.1, (are.inside i a at_a).1)
  ]
]
