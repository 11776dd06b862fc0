-- Reads of a table of runs.
use Rattle.std.proofs.Common.{◌≡◌, ℕ, zero, suc, ◌+◌, ◌<◌, ◌≤◌, ◌⊎◌, inl, inr, List, Option, Some, None, length, take, refl, ap, sym, ◌∙◌, arith}
use Rattle.std.specs.Prelude.{option_map, slice_get, slice_index}
use Rattle.std.proofs.lemmas.Bool.{cases_lt}
use Rattle.std.proofs.lemmas.Grind.{common_steps}
use Rattle.std.proofs.lemmas.List.{length-map}
use Rattle.std.proofs.lemmas.Option.{slice_get-map}
use Rattle.region_label.specs.Run.{Run, first_cell}
use Rattle.region_label.specs.RunTable.{number_at, regions_of, run_at}
use Rattle.region_label.specs.Inner.Rows.{IsFirstPast, noted_units}
use Rattle.region_label.specs.Inner.Table.{AreInOrder, IsTable, linked_from, lists_of, table_of}
use Rattle.region_label.specs.declared.rows.RowRuns.{RowRuns}
use Rattle.region_label.specs.declared.lists.RunLists.{RunLists}
use Rattle.region_label.proofs.ListLemmas.{contains_from_at, slice_get-take}
use Rattle.region_label.proofs.NumberingLemmas.{read_run}
use Rattle.region_label.proofs.PaintLemmas.{number_in, number_out}
use Rattle.region_label.proofs.SearchLemmas.{begins_no_earlier, between_row, row_between}

-- where the first run that ends past a column isn't there, or begins past it, no run has the cell
pub no_run_has : (rows : RowRuns) (lists : RunLists) (row col at : ℕ) → AreInOrder rows → row < rows.nrows → IsFirstPast rows.runs.items rows.starts.items row col at → (at ≡ slice_index rows.starts.items (row + 1)) ⊎ ((run : Run) × (slice_get rows.runs.items at ≡ Some run) × (col < run.from)) → number_at (table_of rows lists) (row, col) ≡ None
no_run_has rows lists row col at order within first none = number_out (table_of rows lists) (row, col) (λ j run at_j in_run.
    let between = between_row rows.ncols rows.nrows rows.runs.items (noted_units rows.notes.items) rows.starts.items row j run order within at_j (sym in_run.0) in
    elim (cases_lt j at) [
      | inl less ↦ omega (arith, first.before j run at_j between.0 less, in_run.2)
      | inr past ↦ elim none [
        | inl end ↦ omega (arith, end, between.1, past)
        | inr later ↦
            let here = row_between rows.ncols rows.nrows rows.runs.items (noted_units rows.notes.items) rows.starts.items row at later.0 order within later.1 first.from (omega (arith, past, between.1)) in
            omega (arith, begins_no_earlier rows.ncols rows.nrows rows.runs.items (noted_units rows.notes.items) rows.starts.items at j later.0 run order later.1 at_j (here ∙ in_run.0) past, later.2, in_run.1)
      ]
    ])

-- else it has the cell
pub first_has : (rows : RowRuns) (lists : RunLists) (row col at : ℕ) (run : Run) (o : Option ℕ) → AreInOrder rows → row < rows.nrows → IsFirstPast rows.runs.items rows.starts.items row col at → at < slice_index rows.starts.items (row + 1) → slice_get rows.runs.items at ≡ Some run → run.from ≤ col → slice_get lists.components.items at ≡ Some o → number_at (table_of rows lists) (row, col) ≡ o
first_has rows lists row col at run o order within first in_row is begun number =
    let here = row_between rows.ncols rows.nrows rows.runs.items (noted_units rows.notes.items) rows.starts.items row at run order within is first.from in_row in
    number_in (table_of rows lists) order.order at run (row, col) o is (sym here, begun, first.past at run is (omega arith) in_row) number

linked_head : (links : List ℕ) (n i : ℕ) → 0 < n → slice_index (linked_from links n i) 0 ≡ i
linked_head links zero i some = absurd (omega arith)
linked_head links (suc n) i some = refl

pub count_of_lists : (rows : RowRuns) (lists : RunLists) → IsTable rows lists → length (lists_of lists) ≡ lists.count
count_of_lists rows lists kept =
    let short : length (take lists.count lists.firsts.items) ≡ lists.count = grind (arith, common_steps, kept.few) in
    length-map (take lists.count lists.firsts.items) (linked_from lists.links.items (length lists.links.items)) ∙ short

-- the first run of a component
pub first_run_of : (rows : RowRuns) (lists : RunLists) (k start : ℕ) (run : Run) → IsTable rows lists → k < lists.count → slice_get lists.firsts.items k ≡ Some start → slice_get rows.runs.items start ≡ Some run → slice_get (regions_of (table_of rows lists)).firsts k ≡ Some (first_cell run)
first_run_of rows lists k start run kept less at is =
    let table = table_of rows lists in
    let links = lists.links.items in
    let on = kept.listed k start less at in
    let within = on.below start (contains_from_at on.list on.index start on.at_index) in
    let taken : slice_get (take lists.count lists.firsts.items) k ≡ Some start = slice_get-take lists.count lists.firsts.items k less ∙ at in
    let list : slice_get (lists_of lists) k ≡ Some (linked_from links (length links) start) = slice_get-map (linked_from links (length links)) (take lists.count lists.firsts.items) k ∙ ap (option_map (linked_from links (length links))) taken in
    let head : slice_index (linked_from links (length links) start) 0 ≡ start = linked_head links (length links) start (omega (arith, within, kept.sized.links)) in
    slice_get-map (λ list. first_cell (run_at table (slice_index list 0))) (lists_of lists) k
    ∙ ap (option_map (λ list. first_cell (run_at table (slice_index list 0)))) list
    ∙ ap (λ (i : ℕ). Some (first_cell (run_at table i))) head
    ∙ ap (λ (r : Run). Some (first_cell r)) (read_run table start run is)
