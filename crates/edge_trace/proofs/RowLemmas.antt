-- The sides of the cells of a row, run by run.
use Rattle.std.proofs.Common.{◌≡◌, ℕ, ◌+◌, ◌-◌, ◌<◌, ◌≤◌, ◌⊎◌, inl, inr, Some, length, refl, ap, sym, ◌∙◌, subst, arith}
use Rattle.std.specs.Prelude.{slice_get}
use Rattle.std.proofs.lemmas.Bool.{cases_eq, cases_lt}
use Rattle.std.proofs.lemmas.Option.{same_Some}
use Rattle.cell_base.specs.Raster.{Place}
use Rattle.cell_base.specs.Order.{IsBefore}
use Rattle.cell_base.proofs.PlaceLemmas.{element_at}
use Rattle.region_label.specs.Labelling.{RegionTable, IsInRegion}
use Rattle.region_label.specs.Run.{Run}
use Rattle.region_label.specs.RunTable.{BeginsRow, IsTableOfRegions, TableOfRuns}
use Rattle.edge_trace.specs.Inner.Sides.{side_number}
use Rattle.edge_trace.specs.Inner.Finding.{AreAround, HasRoomFrom, HasSides}
use Rattle.edge_trace.specs.declared.sides.Around.{Around}
use Rattle.edge_trace.specs.declared.sides.Finding.{Finding}
use Rattle.edge_trace.proofs.GrowLemmas.{AreNarrow, cells_skip}
use Rattle.edge_trace.proofs.StretchLemmas.{around_on}

-- the cells of a row before a run have their sides
pub record IsInRow (regions : RegionTable) (table : TableOfRuns) (stride row i : ℕ) (around : Around) (sides : Finding) : Type 0 where
  pub col : ℕ
  pub room : col + 1 < stride
  pub roomy : HasRoomFrom regions.numbers.ncols col sides
  pub around_row : AreAround table row col around
  pub has : HasSides regions stride sides (side_number stride (row, col) 0)
  -- the runs before it end before the column, and those from it on begin at it or later
  pub early : (j : ℕ) (run : Run) → j < i → slice_get table.runs j ≡ Some run → run.row ≡ row → run.to ≤ col
  pub late : (j : ℕ) (run : Run) → i ≤ j → slice_get table.runs j ≡ Some run → run.row ≡ row → col ≤ run.from

pub row_first : (regions : RegionTable) (table : TableOfRuns) (stride row i : ℕ) (around : Around) (sides : Finding) → BeginsRow table row i → AreAround table row 0 around → 2 ≤ stride → HasRoomFrom regions.numbers.ncols 0 sides → HasSides regions stride sides (side_number stride (row, 0) 0) → IsInRow regions table stride row i around sides
row_first regions table stride row i around sides begins are wide roomy has = record {
  col = 0;
  room = omega (arith, wide);
  roomy = roomy;
  around_row = are;
  has = has;
  early = λ j run less at here. absurd (omega (arith, (begins j run at).0 less, here));
  late = λ j run past at here. omega arith;
}

room_on : (ncols from to : ℕ) (sides : Finding) → HasRoomFrom ncols from sides → from ≤ to → HasRoomFrom ncols to sides
room_on ncols from to sides room further = record { numbers = omega (arith, room.numbers, further); owners = omega (arith, room.owners, further) }

-- the columns of runs are narrow
run_narrow : (regions : RegionTable) (table : TableOfRuns) (stride i : ℕ) (run : Run) → AreNarrow regions stride → IsTableOfRegions regions table → slice_get table.runs i ≡ Some run → run.to + 1 < stride
run_narrow regions table stride i run narrow lent at =
    let each = lent.runs.each i run at in
    let last = narrow each.0 (run.row, run.to - 1) (each.1.cells (run.row, run.to - 1) (refl, omega (arith, each.1.some), omega (arith, each.1.some))) in
    omega (arith, last, each.1.some)

-- up to the next run lies no cell of a component
pub row_to_run : (regions : RegionTable) (table : TableOfRuns) (stride row i : ℕ) (around : Around) (sides : Finding) (run : Run) → AreNarrow regions stride → IsTableOfRegions regions table → IsInRow regions table stride row i around sides → slice_get table.runs i ≡ Some run → run.row ≡ row → AreAround table run.row run.from around × HasSides regions stride sides (side_number stride (run.row, run.from) 0) × HasRoomFrom regions.numbers.ncols run.from sides
row_to_run regions table stride row i around sides run narrow lent is at here =
    let further : is.col ≤ run.from = is.late i run (omega arith) at here in
    let some : run.from < run.to = (lent.runs.each i run at).1.some in
    let wide = run_narrow regions table stride i run narrow lent at in
    let moved : AreAround table row run.from around = around_on table row is.col run.from around is.around_row further in
    let order : IsBefore (row, is.col) (row, run.from) ⊎ ((row, is.col) ≡ (row, run.from)) = elim (cases_eq is.col run.from) [
      | inl same ↦ inr (ap (λ (c : ℕ). (row, c)) same)
      | inr other ↦ inl (inr (refl, omega (arith, further, other)))
    ] in
    let has : HasSides regions stride sides (side_number stride (row, run.from) 0) = cells_skip regions stride sides (row, is.col) (row, run.from) narrow is.room (omega (arith, some, wide)) order (λ k p inside not_before before.
    let found = lent.runs.every k p inside in
    elim before [
      | inl above ↦ not_before (inl above)
      | inr left ↦
          let past : is.col ≤ p.1 = elim (cases_lt p.1 is.col) [ inl too_early ↦ absurd (not_before (inr (left.0, too_early))) | inr late ↦ late ] in
          let in_row : found.1.row ≡ row = omega (arith, found.3.0, left.0) in
          elim (cases_lt found.0 i) [
            | inl early ↦ omega (arith, is.early found.0 found.1 early found.2 in_row, found.3.2, past)
            | inr not_early ↦ elim (cases_eq found.0 i) [
              | inl same ↦
                  let itself : found.1 ≡ run = same_Some found.1 run (sym found.2 ∙ ap (slice_get table.runs) same ∙ at) in
                  omega (arith, ap (λ (r : Run). r.from) itself, found.3.1, left.1)
              | inr later ↦ elim (lent.runs.order i found.0 run found.1 (omega (arith, not_early, later)) at found.2) [
                | inl below ↦ omega (arith, below, here, in_row)
                | inr after ↦ omega (arith, after.1, found.3.1, left.1, some)
              ]
            ]
          ]
    ]) is.has in
    (subst (λ (r : ℕ). AreAround table r run.from around) (sym here) moved, subst (λ (r : ℕ). HasSides regions stride sides (side_number stride (r, run.from) 0)) (sym here) has, room_on regions.numbers.ncols is.col run.from sides is.roomy further)

-- past a run
pub row_next : (regions : RegionTable) (table : TableOfRuns) (stride row i : ℕ) (old new : Around) (before after : Finding) (run : Run) → AreNarrow regions stride → IsTableOfRegions regions table → IsInRow regions table stride row i old before → slice_get table.runs i ≡ Some run → run.row ≡ row → AreAround table run.row run.to new → HasSides regions stride after (side_number stride (run.row, run.to) 0) → HasRoomFrom regions.numbers.ncols run.to after → IsInRow regions table stride row (i + 1) new after
row_next regions table stride row i old new before after run narrow lent is at here around has roomy = record {
  col = run.to;
  room = run_narrow regions table stride i run narrow lent at;
  roomy = roomy;
  around_row = subst (λ (r : ℕ). AreAround table r run.to new) here around;
  has = subst (λ (r : ℕ). HasSides regions stride after (side_number stride (r, run.to) 0)) here has;
  early = λ j other less at_j in_row. elim (cases_eq j i) [
    | inl same ↦
        let itself : other ≡ run = same_Some other run (sym at_j ∙ ap (slice_get table.runs) same ∙ at) in
        omega (arith, ap (λ (r : Run). r.to) itself)
    | inr differ ↦ omega (arith, is.early j other (omega (arith, less, differ)) at_j in_row, is.late i run (omega arith) at here, (lent.runs.each i run at).1.some)
  ];
  late = λ j other past at_j in_row. elim (lent.runs.order i j run other (omega (arith, past)) at at_j) [
    | inl below ↦ absurd (omega (arith, below, here, in_row))
    | inr beside ↦ beside.1
  ];
}

-- after the last run of a row lies no cell of a component
none_after : (regions : RegionTable) (table : TableOfRuns) (stride row i : ℕ) (around : Around) (sides : Finding) → IsTableOfRegions regions table → BeginsRow table (row + 1) i → (here : IsInRow regions table stride row i around sides) → (k : ℕ) (p : Place) → IsInRegion regions k p → ¬ IsBefore p (row, here.col) → IsBefore p (row + 1, 0) → ⊥
none_after regions table stride row i around sides lent ends here k p inside not_before before =
    let found = lent.runs.every k p inside in
    let upper : p.0 ≡ row = elim before [
      | inl above ↦ elim (cases_lt p.0 row) [ inl earlier ↦ absurd (not_before (inl earlier)) | inr later ↦ omega (arith, above, later) ]
      | inr left ↦ absurd (omega (arith, left.1))
    ] in
    let past : here.col ≤ p.1 = elim (cases_lt p.1 here.col) [ inl too_early ↦ absurd (not_before (inr (upper, too_early))) | inr late ↦ late ] in
    let in_row : found.1.row ≡ row = omega (arith, found.3.0, upper) in
    let early : found.0 < i = (ends found.0 found.1 found.2).1 (omega (arith, in_row)) in
    omega (arith, here.early found.0 found.1 early found.2 in_row, found.3.2, past)

pub row_done : (regions : RegionTable) (table : TableOfRuns) (stride row i : ℕ) (around : Around) (sides : Finding) → AreNarrow regions stride → 2 ≤ stride → IsTableOfRegions regions table → BeginsRow table (row + 1) i → (here : IsInRow regions table stride row i around sides) → HasSides regions stride sides (side_number stride (row + 1, 0) 0)
row_done regions table stride row i around sides narrow wide lent ends here = cells_skip regions stride sides (row, here.col) (row + 1, 0) narrow here.room (omega (arith, wide)) (inl (inl (omega arith))) (none_after regions table stride row i around sides lent ends here) here.has

-- the runs from a row's start up to the next row's are in the row
pub row_of : (table : TableOfRuns) (row start end i : ℕ) → BeginsRow table row start → BeginsRow table (row + 1) end → end ≤ length table.runs → start ≤ i → i < end → (run : Run) → slice_get table.runs i ≡ Some run → run.row ≡ row
row_of table row start end i here after within from to run at =
    let upper = (after i run at).0 to in
    elim (cases_lt run.row row) [
      | inr late ↦ omega (arith, upper, late)
      | inl early ↦ absurd (omega (arith, (here i run at).1 early, from))
    ]

-- a row's runs begin before they end
starts_rise : (table : TableOfRuns) (row start end : ℕ) → BeginsRow table row start → BeginsRow table (row + 1) end → start ≤ length table.runs → start ≤ end
starts_rise table row start end here after within = elim (cases_lt end start) [
  | inr rise ↦ rise
  | inl falls ↦
      let run = element_at table.runs end (omega (arith, falls, within)) in
      absurd (omega (arith, (after end run.0 run.1).1 (omega (arith, (here end run.0 run.1).0 falls))))
]

-- the index that is reached is where the next row begins
pub ends_row : (table : TableOfRuns) (row start end i : ℕ) → BeginsRow table row start → BeginsRow table (row + 1) end → start ≤ length table.runs → end ≤ i → (start ≤ end → i ≤ end) → BeginsRow table (row + 1) i
ends_row table row start end i here after within past up_to =
    let same : end ≡ i = omega (arith, past, up_to (starts_rise table row start end here after within)) in
    subst (BeginsRow table (row + 1)) same after
