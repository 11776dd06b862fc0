-- Lists of runs that grow at their end.
use Rattle.std.proofs.Common.{◌≡◌, ◌≢◌, ℕ, zero, suc, ◌+◌, ◌-◌, ◌<◌, ◌≤◌, ◌⊎◌, inl, inr, Bool, true, false, List, [], ◌∷◌, ◌++◌, Some, length, length-append, set, get_or, refl, ap, sym, ◌∙◌, arith}
use Rattle.std.specs.Prelude.{◌||◌, slice_get}
use Rattle.std.specs.List.{list_any}
use Rattle.std.proofs.lemmas.Bool.{cases_eq, cases_lt}
use Rattle.std.proofs.lemmas.Bool.Decides.{nat_tests}
use Rattle.std.proofs.lemmas.List.Folds.{list_any-append}
use Rattle.std.proofs.lemmas.Grind.{common_steps}
use Rattle.std.proofs.lemmas.Option.{gets, get_or_from_slice_get, slice_get_within}
use Rattle.cell_base.specs.Raster.{Place}
use Rattle.cell_base.proofs.PlaceLemmas.{element_at}
use Rattle.burn_scanline.specs.Runs.{Run, AddsCells, AreApart, EndBefore, IsApart, has_cell, is_in_runs}
use Rattle.burn_scanline.specs.Inner.Growing.{GoesOn}

pub or_none : (a : Bool) → (a || false) ≡ a
or_none true = refl
or_none false = refl

or_joined : (a b c : Bool) → ((a || b) || c) ≡ (a || (b || c))
or_joined true b c = refl
or_joined false b c = refl

pub at_push_last : {A : Type 0} (xs : List A) (x : A) → slice_get (xs ++ x ∷ []) (length xs) ≡ Some x
at_push_last xs x = grind (arith, common_steps, gets)

-- what stands in a list with one more is the new one at the end, or an old one
pub at_push : {A : Type 0} (xs : List A) (x : A) (i : ℕ) (y : A) → slice_get (xs ++ x ∷ []) i ≡ Some y → (slice_get xs i ≡ Some y) ⊎ ((i ≡ length xs) × (y ≡ x))
at_push xs x i y at =
    let within : i < length xs + 1 = omega (arith, slice_get_within (xs ++ x ∷ []) i y at, length-append xs (x ∷ [])) in
    elim (cases_lt i (length xs)) [
      | inl old ↦ inl (grind (arith, common_steps, gets, at))
      | inr past ↦
          let end : i ≡ length xs = omega (arith, within, past) in
          inr (end, grind (arith, common_steps, gets, at, end))
    ]

-- what stands in a list with one changed is the changed one, or an old one
pub at_set : {A : Type 0} (xs : List A) (n : ℕ) (x : A) (i : ℕ) (y : A) → slice_get (set xs n x) i ≡ Some y → ((i ≢ n) × (slice_get xs i ≡ Some y)) ⊎ ((i ≡ n) × (y ≡ x))
at_set xs n x i y at = elim (cases_eq i n) [
  | inl same ↦
      let within = slice_get_within (set xs n x) i y at in
      inr (same, grind (arith, common_steps, gets, at, same, within))
  | inr other ↦ inl (other, grind (arith, common_steps, gets, at, other))
]

any_set_last : {A : Type 0} (test : A → Bool) (more : Bool) (x last : A) (xs : List A) (n : ℕ) → n + 1 ≡ length xs → slice_get xs n ≡ Some last → test x ≡ (test last || more) → list_any test (set xs n x) ≡ (list_any test xs || more)
any_set_last test more x last [] n end at is = absurd (omega (arith, end))
any_set_last {A} test more x last (y ∷ []) zero end at is =
    let same : y ≡ last = grind (arith, at) in
    or_none (test x) ∙ is ∙ ap (λ (z : A). test z || more) (sym same) ∙ ap (λ (b : Bool). b || more) (sym (or_none (test y)))
any_set_last test more x last (y ∷ []) (suc n) end at is = absurd (omega (arith, end))
any_set_last test more x last (y ∷ z ∷ xs) zero end at is = absurd (omega (arith, end))
any_set_last test more x last (y ∷ z ∷ xs) (suc n) end at is =
    ap (λ (b : Bool). test y || b) (any_set_last test more x last (z ∷ xs) n (omega (arith, end)) at is) ∙ sym (or_joined (test y) (list_any test (z ∷ xs)) more)

-- a run that is made longer
longer : (p : Place) (row from middle to : ℕ) → from < middle → middle < to → has_cell p (record { row = row; from = from; to = to }) ≡ (has_cell p (record { row = row; from = from; to = middle }) || has_cell p (record { row = row; from = middle; to = to }))
longer p row from middle to some more = grind (arith, nat_tests)

-- a run without cells
pub no_cells : (p : Place) (run : Run) → run.to ≤ run.from → has_cell p run ≡ false
no_cells p run empty = grind (arith, nat_tests)

pub ends_further : (place further : ℕ) (row : ℕ) (runs : List Run) → place ≤ further → EndBefore (row, place) runs → EndBefore (row, further) runs
ends_further place further row runs less ends = λ i run at. elim (ends i run at) [
  | inl above ↦ inl above
  | inr level ↦ inr (level.0, omega (arith, level.1))
]

pub adds_none : (run : Run) (runs : List Run) → run.to ≤ run.from → EndBefore (run.row, run.from) runs → AddsCells run runs runs
adds_none run runs empty ends = record {
  cells = λ p. sym (ap (λ (b : Bool). is_in_runs runs p || b) (no_cells p run empty) ∙ or_none (is_in_runs runs p));
  ends = λ whole. ends_further run.from run.to run.row runs whole ends;
  within = λ nrows ncols old row cols. old;
}

-- one run more
pub adds_one : (run : Run) (runs : List Run) → EndBefore (run.row, run.from) runs → AddsCells run runs (runs ++ run ∷ [])
adds_one run runs ends = record {
  cells = λ p. list_any-append (has_cell p) runs (run ∷ []) ∙ ap (λ (b : Bool). is_in_runs runs p || b) (or_none (has_cell p run));
  ends = λ whole. λ i r at. elim (at_push runs run i r at) [
    | inl old ↦ ends_further run.from run.to run.row runs whole ends i r old
    | inr new ↦ inr (ap (λ (x : Run). x.row) new.1, omega (arith, ap (λ (x : Run). x.to) new.1))
  ];
  within = λ nrows ncols old row cols. λ i r at. elim (at_push runs run i r at) [
    | inl before ↦ old i r before
    | inr new ↦
        let row_is : r.row ≡ run.row = ap (λ (x : Run). x.row) new.1 in
        let to_is : r.to ≡ run.to = ap (λ (x : Run). x.to) new.1 in
        (omega (arith, row_is, row), omega (arith, to_is, cols))
  ];
}

-- a run that ends where another may begin in its row is the last one
not_last : (i : ℕ) (a run : Run) (runs : List Run) → AreApart runs → EndBefore (run.row, run.from) runs → slice_get runs i ≡ Some a → a.row ≡ run.row → run.from ≤ a.to → (i + 1 ≡ length runs → ⊥) → ⊥
not_last i a run runs apart ends at row touch more =
    let within : i + 1 < length runs = omega (arith, slice_get_within runs i a at, more) in
    let next = element_at runs (i + 1) within in
    let some = apart.some (i + 1) next.0 next.1 in
    elim (apart.order i (i + 1) a next.0 (omega arith) at next.1) [
      | inl below ↦ elim (ends (i + 1) next.0 next.1) [
        | inl above ↦ omega (arith, below, above, row)
        | inr level ↦ omega (arith, below, level.0, row)
      ]
      | inr beside ↦ elim (ends (i + 1) next.0 next.1) [
        | inl above ↦ omega (arith, beside.0, above, row)
        | inr level ↦ omega (arith, beside.1, level.1, some, touch)
      ]
    ]

-- it stays apart, unless it goes on where the last one ends
pub apart_one : (run : Run) (runs : List Run) → AreApart runs → run.from < run.to → EndBefore (run.row, run.from) runs → ((last : Run) → slice_get runs (length runs - 1) ≡ Some last → last.row ≡ run.row → last.to ≡ run.from → ⊥) → AreApart (runs ++ run ∷ [])
apart_one run runs apart some ends not_on = record {
  some = λ i r at. elim (at_push runs run i r at) [
    | inl old ↦ apart.some i r old
    | inr new ↦ omega (arith, some, ap (λ (x : Run). x.from) new.1, ap (λ (x : Run). x.to) new.1)
  ];
  order = λ i j a b less at_a at_b. elim (at_push runs run j b at_b) [
    | inl old_b ↦ elim (at_push runs run i a at_a) [
      | inl old_a ↦ apart.order i j a b less old_a old_b
      | inr new ↦ absurd (omega (arith, new.0, less, slice_get_within runs j b old_b))
    ]
    | inr new_b ↦ elim (at_push runs run i a at_a) [
      | inl old_a ↦
          let row_is : b.row ≡ run.row = ap (λ (x : Run). x.row) new_b.1 in
          let from_is : b.from ≡ run.from = ap (λ (x : Run). x.from) new_b.1 in
          elim (ends i a old_a) [
            | inl above ↦ inl (omega (arith, above, row_is))
            | inr level ↦ elim (cases_lt a.to run.from) [
              | inl gap ↦ inr (omega (arith, level.0, row_is), omega (arith, gap, from_is))
              | inr touch ↦ elim (cases_eq (i + 1) (length runs)) [
                | inl at_end ↦
                    let here : i ≡ length runs - 1 = omega (arith, at_end) in
                    absurd (not_on a (ap (slice_get runs) (sym here) ∙ old_a) level.0 (omega (arith, touch, level.1)))
                | inr more ↦ absurd (not_last i a run runs apart ends old_a level.0 (omega (arith, touch)) more)
              ]
            ]
          ]
      | inr new_a ↦ absurd (omega (arith, new_a.0, new_b.0, less))
    ]
  ];
}

-- the last run is made longer by one that goes on where it ends

abbrev pub stretched : Run → Run → Run
stretched last run = record { row = run.row; from = last.from; to = run.to }

pub apart_stretched : (run last : Run) (runs : List Run) (n : ℕ) → AreApart runs → n + 1 ≡ length runs → slice_get runs n ≡ Some last → last.row ≡ run.row → last.to ≡ run.from → run.from < run.to → AreApart (set runs n (stretched last run))
apart_stretched run last runs n apart end at row touch some = record {
  some = λ i r is. elim (at_set runs n (stretched last run) i r is) [
    | inl old ↦ apart.some i r old.1
    | inr new ↦ omega (arith, apart.some n last at, some, touch, ap (λ (x : Run). x.from) new.1, ap (λ (x : Run). x.to) new.1)
  ];
  order = λ i j a b less at_a at_b. elim (at_set runs n (stretched last run) j b at_b) [
    | inl old_b ↦ elim (at_set runs n (stretched last run) i a at_a) [
      | inl old_a ↦ apart.order i j a b less old_a.1 old_b.1
      | inr new_a ↦ absurd (omega (arith, new_a.0, less, end, slice_get_within runs j b old_b.1))
    ]
    | inr new_b ↦ elim (at_set runs n (stretched last run) i a at_a) [
      | inl old_a ↦
          let row_is : b.row ≡ run.row = ap (λ (x : Run). x.row) new_b.1 in
          let from_is : b.from ≡ last.from = ap (λ (x : Run). x.from) new_b.1 in
          elim (apart.order i n a last (omega (arith, less, new_b.0)) old_a.1 at) [
            | inl above ↦ inl (omega (arith, above, row_is, row))
            | inr beside ↦ inr (omega (arith, beside.0, row_is, row), omega (arith, beside.1, from_is))
          ]
      | inr new_a ↦ absurd (omega (arith, new_a.0, new_b.0, less))
    ]
  ];
}

pub adds_stretched : (run last : Run) (runs : List Run) (n : ℕ) → AreApart runs → n + 1 ≡ length runs → slice_get runs n ≡ Some last → last.row ≡ run.row → last.to ≡ run.from → run.from < run.to → EndBefore (run.row, run.from) runs → AddsCells run runs (set runs n (stretched last run))
adds_stretched run last runs n apart end at row touch some ends = record {
  cells = λ p. any_set_last (has_cell p) (has_cell p run) (stretched last run) last runs n end at (grind (arith, nat_tests, longer p run.row last.from run.from run.to, row, touch, apart.some n last at, some));
  ends = λ whole. λ i r is. elim (at_set runs n (stretched last run) i r is) [
    | inl old ↦ ends_further run.from run.to run.row runs whole ends i r old.1
    | inr new ↦ inr (ap (λ (x : Run). x.row) new.1, omega (arith, ap (λ (x : Run). x.to) new.1))
  ];
  within = λ nrows ncols old in_row in_cols. λ i r is. elim (at_set runs n (stretched last run) i r is) [
    | inl before ↦ old i r before.1
    | inr new ↦
        let row_is : r.row ≡ run.row = ap (λ (x : Run). x.row) new.1 in
        let to_is : r.to ≡ run.to = ap (λ (x : Run). x.to) new.1 in
        (omega (arith, row_is, in_row), omega (arith, to_is, in_cols))
  ];
}

-- no cell is in two runs
pub cell_once : (p : Place) (a b : Run) → IsApart a b → has_cell p a ≡ true → has_cell p b ≡ false
cell_once p a b (inl above) is = grind (arith, nat_tests, above, is)
cell_once p a b (inr beside) is = grind (arith, nat_tests, beside.0, beside.1, is)

-- as the code finds the last run

read_last : (run read : Run) (runs : List Run) (n : ℕ) → n ≡ length runs - 1 → read ≡ get_or runs n read → GoesOn run runs → (slice_get runs n ≡ Some read) × (n + 1 ≡ length runs) × (read.row ≡ run.row) × (read.to ≡ run.from)
read_last run read runs n is reads on =
    let at : slice_get runs n ≡ Some on.last = ap (slice_get runs) is ∙ on.at in
    let same : read ≡ on.last = reads ∙ get_or_from_slice_get runs n on.last read at in
    let found : slice_get runs n ≡ Some read = at ∙ ap (λ (r : Run). Some r) (sym same) in
    (found, omega (arith, is, slice_get_within runs n on.last at), ap (λ (r : Run). r.row) same ∙ on.row, ap (λ (r : Run). r.to) same ∙ on.touches)

pub apart_stretched_at : (run read : Run) (runs : List Run) (n : ℕ) → AreApart runs → n ≡ length runs - 1 → read ≡ get_or runs n read → run.from < run.to → GoesOn run runs → AreApart (set runs n (stretched read run))
apart_stretched_at run read runs n apart is reads some on =
    let last = read_last run read runs n is reads on in
    apart_stretched run read runs n apart last.1 last.0 last.2 last.3 some

pub adds_stretched_at : (run read : Run) (runs : List Run) (n : ℕ) → AreApart runs → n ≡ length runs - 1 → read ≡ get_or runs n read → run.from < run.to → GoesOn run runs → EndBefore (run.row, run.from) runs → AddsCells run runs (set runs n (stretched read run))
adds_stretched_at run read runs n apart is reads some on ends =
    let last = read_last run read runs n is reads on in
    adds_stretched run read runs n apart last.1 last.0 last.2 last.3 some ends
