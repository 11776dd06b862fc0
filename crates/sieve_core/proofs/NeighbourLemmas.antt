-- The largest neighbours, by runs that meet.
use Rattle.std.proofs.Common.{◌≡◌, ◌≢◌, ℕ, ◌+◌, ◌-◌, ◌<◌, ◌≤◌, ◌⊎◌, inl, inr, Bool, List, Option, Some, None, length, length-set, replicate, set, get_or, refl, ap, sym, ◌∙◌, subst, arith}
use Rattle.std.specs.Prelude.{slice_get}
use Rattle.std.proofs.lemmas.Bool.{cases_eq, cases_lt}
use Rattle.std.proofs.lemmas.List.{get_or-replicate, length-replicate}
use Rattle.std.proofs.lemmas.Option.{get_or_from_slice_get, same_Some, slice_get-get_or, slice_get_within}
use Rattle.cell_base.specs.Raster.{Place, IsRaster}
use Rattle.cell_base.specs.Steps.{IsStep, step_reach}
use Rattle.cell_base.proofs.PlaceLemmas.{element_at, inside_from_value}
use Rattle.cell_base.proofs.StepsLemmas.{step_back}
use Rattle.region_label.specs.Labelling.{RegionTable, IsInRegion}
use Rattle.region_label.specs.Run.{Run, IsCellOf, first_cell}
use Rattle.region_label.specs.RunTable.{BeginsRow, IsTableOfRegions, TableOfRuns}
use Rattle.region_label.proofs.JoinLemmas.{AreClose, close, side_step, step_cases}
use Rattle.region_label.proofs.ListLemmas.{slice_get-set_other, slice_get-set_same}
use Rattle.sieve_core.specs.Sieve.{IsNextTo, size_of}
use Rattle.sieve_core.specs.Inner.Neighbours.{AreAbove, AreBest, AreLargest, AreNear, AreNeighbours, ComesNext, HasMetAll, HaveMet, Improves, IsCovered, IsFirstTouching, IsNoBetter, RowsHaveMet}

pub no_better_trans : (regions : RegionTable) (i j m : ℕ) → IsNoBetter regions i j → IsNoBetter regions j m → IsNoBetter regions i m
no_better_trans regions i j m (inl a) (inl b) = inl (omega arith)
no_better_trans regions i j m (inl a) (inr b) = inl (omega (arith, b.0))
no_better_trans regions i j m (inr a) (inl b) = inl (omega (arith, a.0))
no_better_trans regions i j m (inr a) (inr b) = inr (a.0 ∙ b.0, omega (arith, a.1, b.1))

pub no_better_itself : (regions : RegionTable) (j : ℕ) → IsNoBetter regions j j
no_better_itself regions j = inr (refl, omega arith)

at_set : (best : List (Option ℕ)) (k other j m : ℕ) → k < length best → slice_get (set best k (Some other)) j ≡ Some (Some m) → ((j ≡ k) × (m ≡ other)) ⊎ (slice_get best j ≡ Some (Some m))
at_set best k other j m within at = elim (cases_eq j k) [
  | inl same ↦
      let there : Some (Some m) ≡ Some (Some other) = sym at ∙ ap (slice_get (set best k (Some other))) same ∙ slice_get-set_same best k (Some other) within in
      inl (same, same_Some m other (same_Some (Some m) (Some other) there))
  | inr other_place ↦ inr (sym (slice_get-set_other best k j (Some other) other_place) ∙ at)
]

-- a better neighbour takes the place
pub improves_set : (connectivity : Bool) (regions : RegionTable) (best : List (Option ℕ)) (k other : ℕ) → k < length best → IsNextTo connectivity regions k other → ((m : ℕ) → slice_get best k ≡ Some (Some m) → IsNoBetter regions m other) → Improves connectivity regions best (set best k (Some other))
improves_set connectivity regions best k other within next better = record {
  long = length-set best k (Some other);
  sound = λ sound j m at. elim (at_set best k other j m within at) [
    | inl is ↦ subst (λ (i : ℕ). IsNextTo connectivity regions i m) (sym is.0) (subst (λ (n : ℕ). IsNextTo connectivity regions k n) (sym is.1) next)
    | inr old ↦ sound j m old
  ];
  kept = λ j i covered. elim (cases_eq j k) [
    | inl same ↦
        let was : slice_get best k ≡ Some (Some covered.0) = ap (slice_get best) (sym same) ∙ covered.1 in
        (other, ap (slice_get (set best k (Some other))) same ∙ slice_get-set_same best k (Some other) within, no_better_trans regions i covered.0 other covered.2 (better covered.0 was))
    | inr apart ↦ (covered.0, slice_get-set_other best k j (Some other) apart ∙ covered.1, covered.2)
  ];
}

pub improves_none : (connectivity : Bool) (regions : RegionTable) (best : List (Option ℕ)) → Improves connectivity regions best best
improves_none connectivity regions best = record { long = refl; sound = λ s. s; kept = λ k j c. c }

pub improves_then : (connectivity : Bool) (regions : RegionTable) (a b c : List (Option ℕ)) → Improves connectivity regions a b → Improves connectivity regions b c → Improves connectivity regions a c
improves_then connectivity regions a b c first second = record {
  long = second.long ∙ first.long;
  sound = λ s. second.sound (first.sound s);
  kept = λ k j covered. second.kept k j (first.kept k j covered);
}

pub best_set : (regions : RegionTable) (best : List (Option ℕ)) (k other : ℕ) → AreBest regions best → k < length best → other < length regions.firsts → AreBest regions (set best k (Some other))
best_set regions best k other is within below = record {
  long = length-set best k (Some other) ∙ is.long;
  below = λ j m at. elim (at_set best k other j m within at) [
    | inl same ↦ omega (arith, same.1, below)
    | inr old ↦ is.below j m old
  ];
}

-- what has met still has
pub met_kept : (connectivity : Bool) (regions : RegionTable) (table : TableOfRuns) (st : ℕ) (old new : List (Option ℕ)) (i j : ℕ) → Improves connectivity regions old new → HaveMet regions table st old i j → HaveMet regions table st new i j
met_kept connectivity regions table st old new i j improves met k m at_i at_j other =
    let had = met k m at_i at_j other in
    (λ small. improves.kept k m (had.0 small), λ small. improves.kept m k (had.1 small))

-- the cells of a run are in the region of its number
pub cells_of_number : (regions : RegionTable) (table : TableOfRuns) (i k : ℕ) (a : Run) (p : Place) → IsTableOfRegions regions table → slice_get table.runs i ≡ Some a → slice_get table.components i ≡ Some (Some k) → IsCellOf a p → IsInRegion regions k p
cells_of_number regions table i k a p lent at is in_run =
    let each = lent.runs.each i a at in
    let first = each.1.cells (first_cell a) (refl, omega arith, each.1.some) in
    let also = (lent.number i k a at).0 is in
    let same : each.0 ≡ k = same_Some each.0 k (same_Some (Some each.0) (Some k) (sym first ∙ also)) in
    subst (λ (n : ℕ). IsInRegion regions n p) same (each.1.cells p in_run)

run_some : (regions : RegionTable) (table : TableOfRuns) (i : ℕ) (a : Run) → IsTableOfRegions regions table → slice_get table.runs i ≡ Some a → a.from < a.to
run_some regions table i a lent at = (lent.runs.each i a at).1.some

near_of_close : (connectivity : Bool) (regions : RegionTable) (table : TableOfRuns) (i j : ℕ) (a b : Run) → IsTableOfRegions regions table → slice_get table.runs i ≡ Some a → slice_get table.runs j ≡ Some b → AreClose connectivity a b → AreNear connectivity regions table i j
near_of_close connectivity regions table i j a b lent at_a at_b near k m is_k is_m other =
    let in_k = cells_of_number regions table i k a near.0 lent at_a is_k near.2 in
    let in_m = cells_of_number regions table j m b near.1 lent at_b is_m near.3 in
    ((other, near.0, near.1, in_k, in_m, near.4), ((λ same. other (sym same)), near.1, near.0, in_m, in_k, step_back connectivity near.0 near.1 near.4))

-- runs of which one comes just before the other are near
pub near_of_next : (connectivity : Bool) (regions : RegionTable) (table : TableOfRuns) (i j : ℕ) (a b : Run) → IsTableOfRegions regions table → slice_get table.runs i ≡ Some a → slice_get table.runs j ≡ Some b → ComesNext connectivity a b → AreNear connectivity regions table i j
near_of_next connectivity regions table i j a b lent at_a at_b (inl side) =
    let some_a = run_some regions table i a lent at_a in
    let some_b = run_some regions table j b lent at_b in
    let step : IsStep connectivity (a.row, a.to - 1) (b.row, b.from) = side_step connectivity (a.row, a.to - 1) (b.row, b.from) (inl (sym side.0, inr (omega (arith, side.1)))) in
    near_of_close connectivity regions table i j a b lent at_a at_b ((a.row, a.to - 1), (b.row, b.from), (refl, omega arith, omega arith), (refl, omega arith, some_b), step)
near_of_next connectivity regions table i j a b lent at_a at_b (inr below) =
    near_of_close connectivity regions table i j a b lent at_a at_b (close connectivity a b (run_some regions table i a lent at_a) (run_some regions table j b lent at_b) (inr below.0, below.1, below.2))

-- of two runs side by side the one has the index after the other's
pub side_index : (regions : RegionTable) (table : TableOfRuns) (i j : ℕ) (a b : Run) → IsTableOfRegions regions table → slice_get table.runs j ≡ Some a → slice_get table.runs i ≡ Some b → b.row ≡ a.row → b.from ≡ a.to → j + 1 ≡ i
side_index regions table i j a b lent at_a at_b row next = elim (cases_lt j i) [
  | inr past ↦ elim (cases_eq j i) [
    | inl same ↦
        let both : a ≡ b = same_Some a b (sym at_a ∙ ap (slice_get table.runs) same ∙ at_b) in
        absurd (omega (arith, ap (λ (r : Run). r.from) both, next, run_some regions table j a lent at_a))
    | inr other ↦ elim (lent.runs.order i j b a (omega arith) at_b at_a) [
      | inl above ↦ absurd (omega (arith, above, row))
      | inr before ↦ absurd (omega (arith, before.1, next, run_some regions table j a lent at_a, run_some regions table i b lent at_b))
    ]
  ]
  | inl less ↦ elim (cases_eq (j + 1) i) [
    | inl is ↦ is
    | inr other ↦
        let within = slice_get_within table.runs i b at_b in
        let between = element_at table.runs (j + 1) (omega arith) in
        let some = run_some regions table (j + 1) between.0 lent between.1 in
        elim (lent.runs.order j (j + 1) a between.0 (omega arith) at_a between.1) [
          | inl above ↦ elim (lent.runs.order (j + 1) i between.0 b (omega arith) between.1 at_b) [
            | inl further ↦ absurd (omega (arith, above, further, row))
            | inr same ↦ absurd (omega (arith, above, same.0, row))
          ]
          | inr after ↦ elim (lent.runs.order (j + 1) i between.0 b (omega arith) between.1 at_b) [
            | inl further ↦ absurd (omega (arith, after.0, further, row))
            | inr before ↦ absurd (omega (arith, after.1, before.1, next, some))
          ]
        ]
  ]
]

-- a run with a cell of a region
pub region_run : (regions : RegionTable) (table : TableOfRuns) (k : ℕ) (p : Place) → IsTableOfRegions regions table → IsInRegion regions k p → (i : ℕ) × (a : Run) × (slice_get table.runs i ≡ Some a) × IsCellOf a p × (slice_get table.components i ≡ Some (Some k))
region_run regions table k p lent in_k =
    let found = lent.runs.every k p in_k in
    let each = lent.runs.each found.0 found.1 found.2 in
    let here = each.1.cells p found.3 in
    let same : each.0 ≡ k = same_Some each.0 k (same_Some (Some each.0) (Some k) (sym here ∙ in_k)) in
    let first = each.1.cells (first_cell found.1) (refl, omega arith, each.1.some) in
    (found.0, found.1, found.2, found.3, (lent.number found.0 k found.1 found.2).1 (subst (λ (n : ℕ). IsInRegion regions n (first_cell found.1)) same first))

-- a cell on the right of a cell of another component begins a run where the other ends
side_next : (connectivity : Bool) (regions : RegionTable) (table : TableOfRuns) (i j k m : ℕ) (a b : Run) (p q : Place) → IsTableOfRegions regions table → slice_get table.runs i ≡ Some a → slice_get table.runs j ≡ Some b → slice_get table.components i ≡ Some (Some k) → slice_get table.components j ≡ Some (Some m) → k ≢ m → IsCellOf a p → IsCellOf b q → p.0 ≡ q.0 → q.1 ≡ p.1 + 1 → ComesNext connectivity a b
side_next connectivity regions table i j k m a b p q lent at_a at_b is_k is_m other in_a in_b row right =
    let not_same : (c : Place) → IsCellOf a c → IsCellOf b c → ⊥ = λ c in_k in_m.
    let k_is = cells_of_number regions table i k a c lent at_a is_k in_k in
    let m_is = cells_of_number regions table j m b c lent at_b is_m in_m in
    other (same_Some k m (same_Some (Some k) (Some m) (sym k_is ∙ m_is))) in
    let a_ends : a.to ≤ q.1 = elim (cases_lt q.1 a.to) [
      | inl inside ↦ absurd (not_same q (omega (arith, in_a.0), omega (arith, in_a.1), inside) in_b)
      | inr ends ↦ ends
    ] in
    let b_begins : q.1 ≤ b.from = elim (cases_lt p.1 b.from) [
      | inl after ↦ omega (arith, after)
      | inr inside ↦ absurd (not_same p in_a (omega (arith, in_b.0), inside, omega (arith, in_b.2)))
    ] in
    inl (omega (arith, in_a.0, in_b.0), omega (arith, a_ends, b_begins, in_a.2, in_b.1))

-- where all runs have met, the small components know all their neighbours
pub all_covered : (connectivity : Bool) (regions : RegionTable) (table : TableOfRuns) (st : ℕ) (best : List (Option ℕ)) (k m : ℕ) → IsTableOfRegions regions table → RowsHaveMet connectivity regions table st best (λ row. Unit {0}) → IsNextTo connectivity regions k m → size_of regions k < st → IsCovered regions best k m
all_covered connectivity regions table st best k m lent met next small =
    let p = next.1 in
    let q = next.2 in
    let first = region_run regions table k p lent next.3 in
    let second = region_run regions table m q lent next.4 in
    let other = next.0 in
    let turned : m ≢ k = λ same. other (sym same) in
    elim (step_cases connectivity p q next.5) [
      | inl row ↦ elim row.1 [
        | inl left ↦
            let comes = side_next connectivity regions table second.0 first.0 m k second.1 first.1 q p lent second.2 first.2 second.4 first.4 turned second.3 first.3 (sym row.0) left in
            (met first.0 second.0 second.1 first.1 second.2 first.2 tt comes m k second.4 first.4 turned).1 small
        | inr right ↦
            let comes = side_next connectivity regions table first.0 second.0 k m first.1 second.1 p q lent first.2 second.2 first.4 second.4 other first.3 second.3 row.0 right in
            (met second.0 first.0 first.1 second.1 first.2 second.2 tt comes k m first.4 second.4 other).0 small
      ]
      | inr rows ↦ elim rows.0 [
        | inl above ↦
            let comes : ComesNext connectivity second.1 first.1 = inr (omega (arith, above, first.3.0, second.3.0), omega (arith, rows.2, second.3.1, first.3.2), omega (arith, rows.1, first.3.1, second.3.2)) in
            (met first.0 second.0 second.1 first.1 second.2 first.2 tt comes m k second.4 first.4 turned).1 small
        | inr below ↦
            let comes : ComesNext connectivity first.1 second.1 = inr (omega (arith, below, first.3.0, second.3.0), omega (arith, rows.1, first.3.1, second.3.2), omega (arith, rows.2, second.3.1, first.3.2)) in
            (met second.0 first.0 first.1 second.1 first.2 second.2 tt comes k m first.4 second.4 other).0 small
      ]
    ]

-- then the best are the largest
pub all_largest : (connectivity : Bool) (regions : RegionTable) (table : TableOfRuns) (st : ℕ) (best : List (Option ℕ)) → IsTableOfRegions regions table → AreBest regions best → AreNeighbours connectivity regions best → RowsHaveMet connectivity regions table st best (λ row. Unit {0}) → AreLargest connectivity regions st best
all_largest connectivity regions table st best lent is sound met = record {
  long = is.long;
  is = λ k m at small.
      let no_better : (j : ℕ) → IsNextTo connectivity regions k j → IsNoBetter regions j m = λ j next.
      let covered = all_covered connectivity regions table st best k j lent met next small in
      let same : covered.0 ≡ m = same_Some covered.0 m (same_Some (Some covered.0) (Some m) (sym covered.1 ∙ at)) in
      subst (λ (n : ℕ). IsNoBetter regions j n) same covered.2 in
      record {
        next_to = sound k m at;
        largest = λ j next. elim (no_better j next) [ inl less ↦ omega (arith, less) | inr same ↦ omega (arith, same.0) ];
        lowest = λ j next equal. elim (no_better j next) [ inl less ↦ absurd (omega (arith, less, equal)) | inr same ↦ same.1 ];
      };
  none = λ k at small j next.
      let covered = all_covered connectivity regions table st best k j lent met next small in
      let both : Some (Some covered.0) ≡ Some None = sym covered.1 ∙ at in
      cc;
}

-- reads of a table's lists

pub read_number : (xs ys : List (Option ℕ)) (i k : ℕ) → xs ≡ ys → i < length ys → get_or xs i None ≡ Some k → slice_get ys i ≡ Some (Some k)
read_number xs ys i k same within is = slice_get-get_or ys i None within ∙ ap (λ (o : Option ℕ). Some o) (ap (λ (zs : List (Option ℕ)). get_or zs i None) (sym same) ∙ is)

pub read_run : (xs ys : List Run) (i : ℕ) → xs ≡ ys → i < length ys → slice_get ys i ≡ Some (get_or xs i (record { row = 0; from = 0; to = 0 }))
read_run xs ys i same within = slice_get-get_or ys i (record { row = 0; from = 0; to = 0 }) within ∙ ap (λ (zs : List Run). Some (get_or zs i (record { row = 0; from = 0; to = 0 }))) (sym same)

-- what two offers leave
pub met_both : (connectivity : Bool) (regions : RegionTable) (table : TableOfRuns) (st : ℕ) (middle new : List (Option ℕ)) (i j k m : ℕ) → slice_get table.components i ≡ Some (Some k) → slice_get table.components j ≡ Some (Some m) → Improves connectivity regions middle new → (size_of regions k < st → IsCovered regions middle k m) → (size_of regions m < st → IsCovered regions new m k) → HaveMet regions table st new i j
met_both connectivity regions table st middle new i j k m at_i at_j improves first second k' m' is_k is_m other =
    let same_k : k ≡ k' = same_Some k k' (same_Some (Some k) (Some k') (sym at_i ∙ is_k)) in
    let same_m : m ≡ m' = same_Some m m' (same_Some (Some m) (Some m') (sym at_j ∙ is_m)) in
    let both : (size_of regions k < st → IsCovered regions new k m) × (size_of regions m < st → IsCovered regions new m k) = (λ small. improves.kept k m (first small), second) in
    subst (λ (n : ℕ). (size_of regions n < st → IsCovered regions new n m') × (size_of regions m' < st → IsCovered regions new m' n)) same_k (subst (λ (n : ℕ). (size_of regions k < st → IsCovered regions new k n) × (size_of regions n < st → IsCovered regions new n k)) same_m both)

-- a run that begins too far right comes next to none, nor does one after it in its row
pub too_late : (connectivity : Bool) (regions : RegionTable) (table : TableOfRuns) (i j m : ℕ) (late a b : Run) → IsTableOfRegions regions table → slice_get table.runs j ≡ Some late → slice_get table.runs m ≡ Some a → slice_get table.runs i ≡ Some b → j ≤ m → late.row ≡ a.row → b.row ≡ a.row + 1 → b.to + step_reach connectivity ≤ late.from → ¬ ComesNext connectivity a b
too_late connectivity regions table i j m late a b lent at_late at_a at_b less row below far next =
    let further : late.from ≤ a.from = elim (cases_eq j m) [
      | inl same ↦
          let is : late ≡ a = same_Some late a (sym at_late ∙ ap (slice_get table.runs) same ∙ at_a) in
          omega (arith, ap (λ (r : Run). r.from) is)
      | inr other ↦ elim (lent.runs.order j m late a (omega arith) at_late at_a) [
        | inl above ↦ absurd (omega (arith, above, row))
        | inr before ↦ omega (arith, before.1, run_some regions table j late lent at_late)
      ]
    ] in
    elim next [
      | inl side ↦ omega (arith, side.0, below)
      | inr touch ↦ omega (arith, touch.1, touch.2, further, far)
    ]

-- a run of the same row that comes just before one
pub side_of : (connectivity : Bool) (regions : RegionTable) (table : TableOfRuns) (i j : ℕ) (a b : Run) → IsTableOfRegions regions table → slice_get table.runs j ≡ Some a → slice_get table.runs i ≡ Some b → b.row ≡ a.row → ComesNext connectivity a b → (j + 1 ≡ i) × (b.from ≡ a.to)
side_of connectivity regions table i j a b lent at_a at_b row (inl side) = (side_index regions table i j a b lent at_a at_b row side.1, side.1)
side_of connectivity regions table i j a b lent at_a at_b row (inr below) = absurd (omega (arith, below.0, row))

-- so it is the one before
pub left_is : (connectivity : Bool) (regions : RegionTable) (table : TableOfRuns) (i j before : ℕ) (a b left run : Run) → IsTableOfRegions regions table → slice_get table.runs j ≡ Some a → slice_get table.runs i ≡ Some b → b.row ≡ a.row → ComesNext connectivity a b → before + 1 ≡ i → slice_get table.runs before ≡ Some left → slice_get table.runs i ≡ Some run → (j ≡ before) × (run.row ≡ left.row) × (run.from ≡ left.to)
left_is connectivity regions table i j before a b left run lent at_a at_b row comes one at_left at_run =
    let side = side_of connectivity regions table i j a b lent at_a at_b row comes in
    let index : j ≡ before = omega (arith, side.0, one) in
    let same_a : a ≡ left = same_Some a left (sym at_a ∙ ap (slice_get table.runs) index ∙ at_left) in
    let same_b : b ≡ run = same_Some b run (sym at_b ∙ at_run) in
    let row_a : a.row ≡ left.row = ap (λ (r : Run). r.row) same_a in
    let to_a : a.to ≡ left.to = ap (λ (r : Run). r.to) same_a in
    let row_b : b.row ≡ run.row = ap (λ (r : Run). r.row) same_b in
    let from_b : b.from ≡ run.from = ap (λ (r : Run). r.from) same_b in
    (index, omega (arith, row, row_a, row_b), omega (arith, side.1, to_a, from_b))

-- the runs of a row before one have met theirs, and those above before another end too far left for the rest
pub record IsMeeting (connectivity : Bool) (regions : RegionTable) (table : TableOfRuns) (st : ℕ) (old new : List (Option ℕ)) (row start above i : ℕ) : Type 0 where
  pub best : AreBest regions new
  pub improves : Improves connectivity regions old new
  pub above_end : above ≤ start
  pub above_start : (j : ℕ) (a : Run) → above ≤ j → j < start → slice_get table.runs j ≡ Some a → row ≡ a.row + 1
  pub early : (j m : ℕ) (a b : Run) → slice_get table.runs j ≡ Some a → slice_get table.runs m ≡ Some b → row ≡ a.row + 1 → j < above → i ≤ m → b.row ≡ row → a.to + step_reach connectivity ≤ b.from
  pub met : (m : ℕ) → m < i → HasMetAll connectivity regions table st new m (λ j a b. b.row ≡ row)

begins_later : (regions : RegionTable) (table : TableOfRuns) (i m : ℕ) (run b : Run) → IsTableOfRegions regions table → slice_get table.runs i ≡ Some run → slice_get table.runs m ≡ Some b → i ≤ m → run.row ≡ b.row → run.from ≤ b.from
begins_later regions table i m run b lent at_run at_b less row = elim (cases_eq i m) [
  | inl same ↦
      let is : run ≡ b = same_Some run b (sym at_run ∙ ap (slice_get table.runs) same ∙ at_b) in
      omega (arith, ap (λ (r : Run). r.from) is)
  | inr other ↦ elim (lent.runs.order i m run b (omega arith) at_run at_b) [
    | inl above ↦ absurd (omega (arith, above, row))
    | inr before ↦ omega (arith, before.1, run_some regions table i run lent at_run)
  ]
]

-- the runs that a run has to meet
pub above_of : (connectivity : Bool) (regions : RegionTable) (table : TableOfRuns) (i first start at : ℕ) (run : Run) → IsTableOfRegions regions table → slice_get table.runs i ≡ Some run → ((j : ℕ) (a : Run) → at ≤ j → j < start → slice_get table.runs j ≡ Some a → run.row ≡ a.row + 1) → IsFirstTouching connectivity table i first start at → AreAbove connectivity table i at start
above_of connectivity regions table i first start at run lent at_run rows touching j a b from to at_a at_b =
    let same : run ≡ b = same_Some run b (sym at_run ∙ at_b) in
    let row = rows j a from to at_a in
    let here = element_at table.runs at (omega (arith, from, slice_get_within table.runs j a at_a)) in
    let row_here = rows at here.0 (omega arith) (omega (arith, from, to)) here.1 in
    let late = touching.late here.0 run (omega (arith, from, to)) here.1 at_run in
    let ends : here.0.to ≤ a.to = elim (cases_eq at j) [
      | inl is ↦
          let both : here.0 ≡ a = same_Some here.0 a (sym here.1 ∙ ap (slice_get table.runs) is ∙ at_a) in
          omega (arith, ap (λ (r : Run). r.to) both)
      | inr other ↦ elim (lent.runs.order at j here.0 a (omega arith) here.1 at_a) [
        | inl above ↦ absurd (omega (arith, above, row, row_here))
        | inr before ↦ omega (arith, before.1, run_some regions table j a lent at_a)
      ]
    ] in
    subst (λ (r : Run). (r.row ≡ a.row + 1) × (r.from < a.to + step_reach connectivity)) same (row, omega (arith, late, ends))

-- one run more
pub meeting_on : (connectivity : Bool) (regions : RegionTable) (table : TableOfRuns) (st : ℕ) (old now left new : List (Option ℕ)) (row start above at i : ℕ) (run : Run) → IsTableOfRegions regions table → IsMeeting connectivity regions table st old now row start above i → slice_get table.runs i ≡ Some run → run.row ≡ row → ((j : ℕ) (a : Run) → start ≤ j → slice_get table.runs j ≡ Some a → row ≤ a.row) → Improves connectivity regions now left → HasMetAll connectivity regions table st left i (λ j a b. b.row ≡ a.row) → IsFirstTouching connectivity table i above start at → AreBest regions new → Improves connectivity regions left new → HasMetAll connectivity regions table st new i (λ j a b. (at ≤ j) × (j < start)) → IsMeeting connectivity regions table st old new row start at (i + 1)
meeting_on connectivity regions table st old now left new row start above at i run lent meeting at_run is_row after first met_left touching best second met_above = record {
  best = best;
  improves = improves_then connectivity regions old left new (improves_then connectivity regions old now left meeting.improves first) second;
  above_end = touching.to;
  above_start = λ j a from to at_a. meeting.above_start j a (omega (arith, touching.from, from)) to at_a;
  early = λ j m a b at_a at_b next less later row_b. elim (cases_lt j above) [
    | inl before ↦ meeting.early j m a b at_a at_b next before (omega arith) row_b
    | inr past ↦
        let ends = touching.early j a run past less at_a at_run in
        omega (arith, ends, begins_later regions table i m run b lent at_run at_b (omega arith) (is_row ∙ sym row_b))
  ];
  met = λ m less j a b at_a at_b row_b comes. elim (cases_eq m i) [
    | inr other ↦ met_kept connectivity regions table st left new j m second (met_kept connectivity regions table st now left j m first (meeting.met m (omega arith) j a b at_a at_b row_b comes))
    | inl same ↦
        let at_i : slice_get table.runs i ≡ Some b = ap (slice_get table.runs) (sym same) ∙ at_b in
        let have : HaveMet regions table st new j i = elim (cases_eq b.row a.row) [
          | inl side ↦ met_kept connectivity regions table st left new j i second (met_left j a b at_a at_i side comes)
          | inr below ↦
              let next : row ≡ a.row + 1 = above_row a b row row_b below comes in
              let in_start : j < start = elim (cases_lt j start) [ inl before ↦ before | inr past ↦ absurd (omega (arith, after j a past at_a, next)) ] in
              let in_from : at ≤ j = elim (cases_lt j at) [
                | inr from ↦ from
                | inl far ↦ absurd (not_far a b below comes (elim (cases_lt j above) [
                  | inl before ↦ meeting.early j i a b at_a at_i next before (omega arith) row_b
                  | inr past ↦
                      let ends = touching.early j a run past far at_a at_run in
                      omega (arith, ends, begins_later regions table i i run b lent at_run at_i (omega arith) (is_row ∙ sym row_b))
                ]))
              ] in
              met_above j a b at_a at_i (in_from, in_start) comes
        ] in
        subst (λ (n : ℕ). HaveMet regions table st new j n) (sym same) have
  ];
}
  where
    above_row : (a b : Run) (row : ℕ) → b.row ≡ row → b.row ≢ a.row → ComesNext connectivity a b → row ≡ a.row + 1
    above_row a b row is other (inl side) = absurd (other side.0)
    above_row a b row is other (inr below) = omega (arith, below.0)

    not_far : (a b : Run) → b.row ≢ a.row → ComesNext connectivity a b → a.to + step_reach connectivity ≤ b.from → ⊥
    not_far a b other (inl side) far = other side.0
    not_far a b other (inr below) far = omega (arith, below.2, far)

-- rows begin in order
begins_rise : (table : TableOfRuns) (r s x y : ℕ) → BeginsRow table r x → BeginsRow table s y → r ≤ s → x ≤ length table.runs → x ≤ y
begins_rise table r s x y first second less within = elim (cases_lt y x) [
  | inr rise ↦ rise
  | inl falls ↦
      let run = element_at table.runs y (omega arith) in
      let early = (first y run.0 run.1).0 falls in
      absurd (omega (arith, (second y run.0 run.1).1 (omega arith)))
]

-- no run of the row has met yet
pub meeting_first : (connectivity : Bool) (regions : RegionTable) (table : TableOfRuns) (st : ℕ) (best : List (Option ℕ)) (row above start : ℕ) → AreBest regions best → BeginsRow table (row - 1) above → BeginsRow table row start → above ≤ length table.runs → IsMeeting connectivity regions table st best best row start above start
meeting_first connectivity regions table st best row above start is before here within = record {
  best = is;
  improves = improves_none connectivity regions best;
  above_end = begins_rise table (row - 1) row above start before here (omega arith) within;
  above_start = λ j a from to at.
      let upper = (here j a at).0 to in
      elim (cases_lt a.row (row - 1)) [
        | inl too_early ↦ absurd (omega (arith, (before j a at).1 too_early, from))
        | inr late ↦ omega (arith, upper, late)
      ];
  early = λ j m a b at_a at_b next less later row_b. absurd (omega (arith, (before j a at_a).0 less, next));
  met = λ m less j a b at_a at_b row_b comes. absurd (omega (arith, (here m b at_b).0 less, row_b));
}

-- the run at an index of the row
pub row_of : (table : TableOfRuns) (row start end i : ℕ) → BeginsRow table row start → BeginsRow table (row + 1) end → end ≤ length table.runs → start ≤ i → i < end → (run : Run) × (slice_get table.runs i ≡ Some run) × (run.row ≡ row)
row_of table row start end i here after within from to =
    let run = element_at table.runs i (omega arith) in
    let upper = (after i run.0 run.1).0 to in
    let lower : row ≤ run.0.row = elim (cases_lt run.0.row row) [ inr late ↦ late | inl early ↦ absurd (omega (arith, (here i run.0 run.1).1 early, from)) ] in
    (run.0, run.1, omega (arith, upper, lower))

pub later_rows : (table : TableOfRuns) (row start : ℕ) → BeginsRow table row start → (j : ℕ) (a : Run) → start ≤ j → slice_get table.runs j ≡ Some a → row ≤ a.row
later_rows table row start here j a from at = elim (cases_lt a.row row) [
  | inr late ↦ late
  | inl early ↦ absurd (omega (arith, (here j a at).1 early, from))
]

-- all runs of the row have met
pub row_met : (connectivity : Bool) (regions : RegionTable) (table : TableOfRuns) (st : ℕ) (old new : List (Option ℕ)) (row start above end i : ℕ) → BeginsRow table (row + 1) end → IsMeeting connectivity regions table st old new row start above i → end ≤ i → RowsHaveMet connectivity regions table st new (λ r. r ≡ row)
row_met connectivity regions table st old new row start above end i after meeting done m j a b at_a at_b row_b comes =
    let in_row = (after m b at_b).1 (omega (arith, row_b)) in
    meeting.met m (omega (arith, in_row, done)) j a b at_a at_b row_b comes

-- rows that have met still have
pub rows_met_on : (connectivity : Bool) (regions : RegionTable) (table : TableOfRuns) (st : ℕ) (old new : List (Option ℕ)) (row : ℕ) → Improves connectivity regions old new → RowsHaveMet connectivity regions table st old (λ r. r < row) → RowsHaveMet connectivity regions table st new (λ r. r ≡ row) → RowsHaveMet connectivity regions table st new (λ r. r < row + 1)
rows_met_on connectivity regions table st old new row improves before here i j a b at_a at_b less comes = elim (cases_eq b.row row) [
  | inl same ↦ here i j a b at_a at_b same comes
  | inr other ↦ met_kept connectivity regions table st old new j i improves (before i j a b at_a at_b (omega arith) comes)
]

-- where the runs of all rows have met, all have
pub all_rows_met : (connectivity : Bool) (regions : RegionTable) (table : TableOfRuns) (st : ℕ) (best : List (Option ℕ)) (rows : ℕ) → IsTableOfRegions regions table → IsRaster regions.numbers → regions.numbers.nrows ≤ rows → RowsHaveMet connectivity regions table st best (λ r. r < rows) → RowsHaveMet connectivity regions table st best (λ r. Unit {0})
all_rows_met connectivity regions table st best rows lent shape all met i j a b at_a at_b in_all comes =
    let each = lent.runs.each i b at_b in
    let inside = inside_from_value regions.numbers (first_cell b) (Some each.0) shape (each.1.cells (first_cell b) (refl, omega arith, each.1.some)) in
    met i j a b at_a at_b (omega (arith, inside.0, all)) comes

no_best : (n k m : ℕ) → slice_get (replicate n None) k ≡ Some (Some m) → ⊥
no_best n k m at =
    let within : k < n = omega (arith, slice_get_within (replicate n None) k (Some m) at, length-replicate {A = Option ℕ} n None) in
    let none : Some m ≡ None = sym (get_or_from_slice_get (replicate n None) k (Some m) None at) ∙ get_or-replicate n k None None within in
    cc

-- nothing is known at the start
pub best_none : (regions : RegionTable) (best : List (Option ℕ)) (n : ℕ) → best ≡ replicate n None → n ≡ length regions.firsts → AreBest regions best
best_none regions best n is long = record {
  long = ap length is ∙ length-replicate n None ∙ long;
  below = λ k m at. absurd (no_best n k m (ap (λ (xs : List (Option ℕ)). slice_get xs k) (sym is) ∙ at));
}

pub neighbours_none : (connectivity : Bool) (regions : RegionTable) (best : List (Option ℕ)) (n : ℕ) → best ≡ replicate n None → AreNeighbours connectivity regions best
neighbours_none connectivity regions best n is k m at = absurd (no_best n k m (ap (λ (xs : List (Option ℕ)). slice_get xs k) (sym is) ∙ at))
