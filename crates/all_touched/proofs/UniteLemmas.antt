-- Ordered pieces that are united piece by piece.
use Rattle.std.proofs.Common.{◌≡◌, ℕ, zero, suc, ◌+◌, ◌-◌, ◌*◌, ◌^◌, ◌<◌, ◌≤◌, ◌⊎◌, inl, inr, Bool, true, false, List, [], ◌∷◌, ◌++◌, Some, length, take, get_or, max, refl, sym, ap, ◌∙◌, subst, arith}
use Rattle.std.specs.Prelude.{◌&&◌, ◌||◌, ◌==◌, if◌then◌else◌, nat_le, nat_lt, All, slice_get}
use Rattle.std.specs.List.{list_any}
use Rattle.std.proofs.lemmas.Bool.{cases_eq, cases_lt, eq-eqb, ne_eqb, or_left, or_right}
use Rattle.std.proofs.lemmas.Bool.Decides.{nat_tests}
use Rattle.std.proofs.lemmas.Grind.{common_steps}
use Rattle.std.proofs.lemmas.List.{take_more}
use Rattle.std.proofs.lemmas.List.Folds.{list_any-append}
use Rattle.std.proofs.lemmas.Option.{get_or_from_slice_get, slice_get_within}
use Rattle.cell_base.specs.Raster.{Place}
use Rattle.burn_scanline.specs.Runs.{AddsCells, AreWithin, EndBefore, Run, has_cell, is_in_runs}
use Rattle.all_touched.specs.Inner.Pieces.{AreInside, AreOrdered, AreSmall, AreUnited, Unites, key_of, start_of}

no_run : (i : ℕ) (run : Run) → slice_get {X = Run} [] i ≡ Some run → ⊥
no_run i run at = cc

pub united_none : (pieces runs : List Run) → runs ≡ [] → AreUnited pieces 0 0 0 runs
united_none pieces runs none = subst (λ (rs : List Run). AreUnited pieces 0 0 0 rs) (sym none) (record {
  cells = λ p. refl;
  ends = λ i run at. absurd (no_run i run at);
  later = λ j piece from at. omega arith;
  filled = λ j piece col from at same low high. absurd (omega (arith, high));
  within = λ nrows ncols inside. (λ i run at. absurd (no_run i run at), omega arith);
})

-- where a piece begins that goes on in the row, or in a later one

start_here : (piece : Run) (row end : ℕ) → piece.row ≡ row → start_of piece row end ≡ max piece.from end
start_here piece row end same = ap (λ (b : Bool). if b then max piece.from end else piece.from) (eq-eqb piece.row row same)

start_later : (piece : Run) (row end : ℕ) → (piece.row ≡ row → ⊥) → start_of piece row end ≡ piece.from
start_later piece row end other = ap (λ (b : Bool). if b then max piece.from end else piece.from) (ne_eqb piece.row row other)

further : (row place end : ℕ) (runs : List Run) → place ≤ end → EndBefore (row, place) runs → EndBefore (row, end) runs
further row place end runs more ends = λ i run at. elim (ends i run at) [
  | inl above ↦ inl above
  | inr level ↦ inr (level.0, omega (arith, level.1, more))
]

next_row : (row place next col : ℕ) (runs : List Run) → row < next → EndBefore (row, place) runs → EndBefore (next, col) runs
next_row row place next col runs more ends = λ i run at. elim (ends i run at) [
  | inl above ↦ inl (omega (arith, above, more))
  | inr level ↦ inl (omega (arith, level.0, more))
]

-- the next piece begins no earlier than the runs end
pub may_push : (pieces runs : List Run) (i row end from : ℕ) (piece : Run) → AreUnited pieces i row end runs → slice_get pieces i ≡ Some piece
    → from ≡ start_of piece row end → EndBefore (piece.row, from) runs
may_push pieces runs i row end from piece united at is = elim (cases_eq piece.row row) [
  | inl same ↦
      let start : from ≡ max piece.from end = is ∙ start_here piece row end same in
      subst (λ (r : ℕ). EndBefore (r, from) runs) (sym same) (further row end from runs (omega (arith, start)) united.ends)
  | inr other ↦ next_row row end piece.row from runs (omega (arith, other, united.later i piece (omega arith) at)) united.ends
]

-- of the cells that are not filled yet, a run has those of its piece

or_by : (a x y : Bool) → (a ≡ false → x ≡ y) → (a || x) ≡ (a || y)
or_by true x y same = refl
or_by false x y same = same refl

cells_here : (q c row from to first last end : ℕ) → from ≡ max first end → to ≡ max last from → (q ≡ row → first ≤ c → c < end → ⊥)
    → ((row == q) && (nat_le from c && nat_lt c to)) ≡ ((row == q) && (nat_le first c && nat_lt c last))
cells_here q c row from to first last end is_from is_to not_filled = elim (cases_eq row q) [
  | inl here ↦ grind (arith, nat_tests, is_from, is_to, here, not_filled)
  | inr elsewhere ↦ grind (arith, nat_tests, elsewhere)
]

cells_later : (q c row from to first last : ℕ) → from ≡ first → to ≡ max last from
    → ((row == q) && (nat_le from c && nat_lt c to)) ≡ ((row == q) && (nat_le first c && nat_lt c last))
cells_later q c row from to first last is_from is_to = grind (arith, nat_tests, is_from, is_to)

true_false : (b : Bool) → b ≡ false → b ≡ true → ⊥
true_false b one two = cc

piece_cells : (pieces runs : List Run) (i row end from to : ℕ) (piece : Run) (p : Place) → AreUnited pieces i row end runs → slice_get pieces i ≡ Some piece
    → from ≡ start_of piece row end → to ≡ max piece.to from
    → (is_in_runs runs p || has_cell p (record { row = piece.row; from = from; to = to })) ≡ (is_in_runs runs p || has_cell p piece)
piece_cells pieces runs i row end from to piece p united at is_from is_to = or_by (is_in_runs runs p) _ _ (λ none. elim (cases_eq piece.row row) [
  | inl same ↦ cells_here p.0 p.1 piece.row from to piece.from piece.to end (is_from ∙ start_here piece row end same) is_to (λ here low high.
      let there : (row, p.1) ≡ p = ap (λ (r : ℕ). (r, p.1)) (sym same ∙ sym here) in
      true_false (is_in_runs runs p) none (ap (is_in_runs runs) (sym there) ∙ united.filled i piece p.1 (omega arith) at same low high))
  | inr other ↦ cells_later p.0 p.1 piece.row from to piece.from piece.to (is_from ∙ start_later piece row end other) is_to
])

-- later pieces stand in the same row or below, and in the same row no further left

key_rows : (a b f g : ℕ) → g < 2 ^ 32 → a * 2 ^ 32 + f ≤ b * 2 ^ 32 + g → a ≤ b
key_rows a b f g small less = omega (arith, small, less)

key_cols : (a b f g : ℕ) → a ≡ b → a * 2 ^ 32 + f ≤ b * 2 ^ 32 + g → f ≤ g
key_cols a b f g same less = omega (arith, same, less)

get_is : (pieces : List Run) (j : ℕ) (piece d : Run) → slice_get pieces j ≡ Some piece → get_or pieces j d ≡ piece
get_is pieces j piece d at = get_or_from_slice_get pieces j piece d at

keys : (pieces : List Run) (i j : ℕ) (a b : Run) → AreOrdered pieces → i ≤ j → slice_get pieces i ≡ Some a → slice_get pieces j ≡ Some b → key_of a ≤ key_of b
keys pieces i j a b order less at_a at_b =
    let within : j < length pieces = slice_get_within pieces j b at_b in
    let rise : key_of (get_or pieces i a) ≤ key_of (get_or pieces j a) = order i j a less within in
    omega (arith, rise, ap key_of (get_is pieces i a a at_a), ap key_of (get_is pieces j b a at_b))

small_at : (pieces : List Run) (j : ℕ) (piece : Run) → AreSmall pieces → slice_get pieces j ≡ Some piece → piece.from < 2 ^ 32
small_at pieces j piece small at =
    subst (λ (r : Run). r.from < 2 ^ 32) (get_is pieces j piece piece at) (small j piece (slice_get_within pieces j piece at))

inside_at : (pieces : List Run) (nrows ncols j : ℕ) (piece : Run) → AreInside nrows ncols pieces → slice_get pieces j ≡ Some piece
    → (piece.row < nrows) × (piece.from ≤ ncols) × (piece.to ≤ ncols)
inside_at pieces nrows ncols j piece inside at =
    subst (λ (r : Run). (r.row < nrows) × (r.from ≤ ncols) × (r.to ≤ ncols)) (get_is pieces j piece piece at) (inside j piece (slice_get_within pieces j piece at))

in_run : (row col from to : ℕ) → from ≤ col → col < to → has_cell (row, col) (record { row = row; from = from; to = to }) ≡ true
in_run row col from to low high = grind (arith, nat_tests, low, high)

-- a row filled up to a piece's end is filled from any later piece on
filled_on : (pieces runs new : List Run) (i row end from to : ℕ) (piece later : Run) (j col : ℕ) → AreUnited pieces i row end runs → AreOrdered pieces → slice_get pieces i ≡ Some piece
    → from ≡ start_of piece row end → to ≡ max piece.to from → AddsCells (record { row = piece.row; from = from; to = to }) runs new
    → i + 1 ≤ j → slice_get pieces j ≡ Some later → later.row ≡ piece.row → later.from ≤ col → col < to → is_in_runs new (piece.row, col) ≡ true
filled_on pieces runs new i row end from to piece later j col united order at is_from is_to adds after at_later same low high =
    let run : Run = record { row = piece.row; from = from; to = to } in
    let p : Place = (piece.row, col) in
    let first : piece.from ≤ later.from = key_cols piece.row later.row piece.from later.from (sym same) (keys pieces i j piece later order (omega (arith, after)) at at_later) in
    adds.cells p ∙ elim (cases_lt col from) [
      | inr begun ↦ or_right (is_in_runs runs p) (has_cell p run) (in_run piece.row col from to begun high)
      | inl before ↦ elim (cases_eq piece.row row) [
        | inl here ↦
            let start : from ≡ max piece.from end = is_from ∙ start_here piece row end here in
            or_left (is_in_runs runs p) (has_cell p run) (ap (λ (r : ℕ). is_in_runs runs (r, col)) here
            ∙ united.filled i piece col (omega arith) at here (omega (arith, first, low)) (omega (arith, before, start, first, low)))
        | inr other ↦ absurd (omega (arith, before, is_from ∙ start_later piece row end other, first, low))
      ]
    ]

-- one piece more
pub unites_more : (pieces runs new : List Run) (i row end from to : ℕ) (piece : Run) → AreUnited pieces i row end runs → AreOrdered pieces → AreSmall pieces
    → slice_get pieces i ≡ Some piece → from ≡ start_of piece row end → to ≡ max piece.to from
    → AddsCells (record { row = piece.row; from = from; to = to }) runs new → AreUnited pieces (i + 1) piece.row to new
unites_more pieces runs new i row end from to piece united order small at is_from is_to adds =
    let run : Run = record { row = piece.row; from = from; to = to } in
    let more : take (i + 1) pieces ≡ take i pieces ++ piece ∷ [] =
    take_more pieces i piece (slice_get_within pieces i piece at) ∙ ap (λ (r : Run). take i pieces ++ r ∷ []) (get_is pieces i piece piece at) in
    record {
      cells = λ p.
          adds.cells p ∙ piece_cells pieces runs i row end from to piece p united at is_from is_to
          ∙ ap (λ (b : Bool). b || has_cell p piece) (united.cells p)
          ∙ sym (ap (list_any (has_cell p)) more ∙ list_any-append (has_cell p) (take i pieces) (piece ∷ []) ∙ ap (λ (b : Bool). list_any (has_cell p) (take i pieces) || b) (or_none (has_cell p piece)));
      ends = adds.ends (omega (arith, is_to));
      later = λ j later after at_later.
          key_rows piece.row later.row piece.from later.from (small_at pieces j later small at_later) (keys pieces i j piece later order (omega (arith, after)) at at_later);
      filled = λ j later col after at_later same low high.
          filled_on pieces runs new i row end from to piece later j col united order at is_from is_to adds after at_later same low high;
      within = λ nrows ncols inside.
          let here = inside_at pieces nrows ncols i piece inside at in
          let before = united.within nrows ncols inside in
          let start : from ≤ ncols = start_inside here.1 before.1 in
          let stop : to ≤ ncols = omega (arith, is_to, start, here.2) in
          (adds.within nrows ncols before.0 here.0 stop, stop);
    }
  where
    or_none : (a : Bool) → (a || false) ≡ a
    or_none true = refl
    or_none false = refl

    start_inside : {m : ℕ} → piece.from ≤ m → end ≤ m → from ≤ m
    start_inside {m} one two = elim (cases_eq piece.row row) [
      | inl same ↦ omega (arith, is_from ∙ start_here piece row end same, one, two)
      | inr other ↦ omega (arith, is_from ∙ start_later piece row end other, one)
    ]

pub unites_all : (pieces runs : List Run) (i row end : ℕ) → length pieces ≤ i → AreUnited pieces i row end runs → Unites pieces runs
unites_all pieces runs i row end all united =
    let whole : take i pieces ≡ pieces = grind (arith, common_steps) in
    record {
      cells = λ p. united.cells p ∙ ap (λ (ps : List Run). is_in_runs ps p) whole;
      within = λ nrows ncols inside. (united.within nrows ncols inside).0;
    }
