-- A filled table of runs is that of the components.
use Rattle.std.proofs.Common.{◌≡◌, ℕ, ◌-◌, ◌<◌, ◌≤◌, inl, inr, ℤ, Bool, true, List, Some, get_or, refl, ap, sym, ◌∙◌, subst, arith}
use Rattle.std.specs.Prelude.{Contains, slice_get, slice_index, sum_by}
use Rattle.std.proofs.lemmas.Bool.{cases_eq, cases_lt}
use Rattle.std.proofs.lemmas.List.{length-map}
use Rattle.std.proofs.lemmas.Option.{same_Some, slice_get-get_or, slice_get-map, slice_get_within}
use Rattle.cell_base.specs.Raster.{Place, Raster, value_at}
use Rattle.cell_base.specs.Valid.{IsMarked}
use Rattle.cell_base.specs.Order.{IsBefore}
use Rattle.cell_base.proofs.PlaceLemmas.{inside_from_value, value_inside}
use Rattle.region_label.specs.Count.{HasCount}
use Rattle.region_label.specs.Component.{HasNumber, HasSize, HasValue, InComponent, IsFirst}
use Rattle.region_label.specs.Labelling.{IsInRegion, IsLabelling}
use Rattle.region_label.specs.Run.{Run, IsCellOf, IsRunBefore, IsRunIn, first_cell}
use Rattle.region_label.specs.RunTable.{IsFilled, IsTableOfRegions, regions_of, run_at}
use Rattle.region_label.specs.Inner.Lists.{IsOf, contacts}
use Rattle.region_label.specs.Inner.Table.{table_of}
use Rattle.region_label.specs.declared.rows.RowRuns.{RowRuns}
use Rattle.region_label.specs.declared.lists.RunLists.{RunLists}
use Rattle.region_label.proofs.CensusLemmas.{census}
use Rattle.region_label.proofs.ComponentLemmas.{component_end, component_sym, component_trans}
use Rattle.region_label.proofs.CountLemmas.{count_before}
use Rattle.region_label.proofs.ListLemmas.{at_from_contains, contains_from_at}
use Rattle.region_label.proofs.NumberingLemmas.{Begins, HasRun, begins, first_at, has_joined, has_marked, has_region, joined_has, marked_has, read_run, region_has, shape, start_has}
use Rattle.region_label.proofs.PaintLemmas.{same_run}
use Rattle.region_label.proofs.WholeLemmas.{IsWhole, is_list_of, length_lists, list_of, mapped}

one_before : (p q : Place) → ¬ IsBefore p q → ¬ IsBefore q p → p ≡ q
one_before p q not_before not_after = elim (cases_lt p.0 q.0) [
  | inl above ↦ absurd (not_before (inl above))
  | inr below ↦ elim (cases_lt q.0 p.0) [
    | inl after ↦ absurd (not_after (inl after))
    | inr row ↦
        let same_row : p.0 ≡ q.0 = omega arith in
        elim (cases_lt p.1 q.1) [
          | inl left ↦ absurd (not_before (inr (same_row, left)))
          | inr past ↦ elim (cases_lt q.1 p.1) [
            | inl right ↦ absurd (not_after (inr (sym same_row, right)))
            | inr col ↦
                let same_col : p.1 ≡ q.1 = omega arith in
                let both : (p.0, p.1) ≡ (q.0, q.1) = cc in
                both
          ]
        ]
  ]
]

-- the cells of later runs aren't before the first cell of an earlier one
run_order : (runs : List Run) → ((i j : ℕ) (a b : Run) → i < j → slice_get runs i ≡ Some a → slice_get runs j ≡ Some b → IsRunBefore a b) → (i j : ℕ) (a b : Run) (p : Place) → i ≤ j → slice_get runs i ≡ Some a → slice_get runs j ≡ Some b → a.from < a.to → IsCellOf b p → ¬ IsBefore p (first_cell a)
run_order runs order i j a b p less at_a at_b some in_b before = elim (cases_eq i j) [
  | inl same ↦
      let same_run : b ≡ a = same_Some b a (sym at_b ∙ ap (slice_get runs) (sym same) ∙ at_a) in
      let in_a : IsCellOf a p = subst (λ (r : Run). IsCellOf r p) same_run in_b in
      elim before [
        | inl above ↦ omega (arith, above, in_a.0)
        | inr left ↦ omega (arith, left.1, in_a.1)
      ]
  | inr other ↦ elim (order i j a b (omega arith) at_a at_b) [
    | inl above ↦ elim before [
      | inl up ↦ omega (arith, above, up, in_b.0)
      | inr left ↦ omega (arith, above, left.0, in_b.0)
    ]
    | inr after ↦ elim before [
      | inl up ↦ omega (arith, after.0, up, in_b.0)
      | inr left ↦ omega (arith, after.1, left.1, in_b.1, some)
    ]
  ]
]

-- the first cells are first cells
is_first : (connectivity : Bool) (cells : Raster ℤ) (valid : Raster Bool) (rows : RowRuns) (lists : RunLists) (k : ℕ) (a : Place) → IsWhole connectivity cells valid rows lists → Begins connectivity rows lists k a → IsFirst connectivity cells valid a
is_first connectivity cells valid rows lists k a whole starts =
    let own = start_has connectivity cells valid rows lists k a whole starts in
    record {
      marked = has_marked connectivity cells valid rows lists k a whole own;
      least = λ b joined before.
          let has = joined_has connectivity cells valid rows lists k a b whole own joined in
          let later = starts.listed.least has.index (starts.listed.all has.index has.is) in
          let some = (whole.order.inside starts.listed.start starts.run starts.at).1 in
          run_order rows.runs.items whole.order.order starts.listed.start has.index starts.run has.run b later starts.at has.at some has.cell (subst (λ (p : Place). IsBefore b p) starts.first before);
    }

-- they stand in order
firsts_in_order : (connectivity : Bool) (cells : Raster ℤ) (valid : Raster Bool) (rows : RowRuns) (lists : RunLists) (i j : ℕ) (a b : Place) → IsWhole connectivity cells valid rows lists → i < j → Begins connectivity rows lists i a → Begins connectivity rows lists j b → IsBefore a b
firsts_in_order connectivity cells valid rows lists i j a b whole less first second =
    let before = whole.filled.order i j first.listed.start second.listed.start less second.within first.listed.start_at second.listed.start_at in
    let some = (whole.order.inside first.listed.start first.run first.at).1 in
    let cells_in_order : IsBefore (first_cell first.run) (first_cell second.run) = elim (whole.order.order first.listed.start second.listed.start first.run second.run before first.at second.at) [
      | inl above ↦ inl above
      | inr after ↦ inr (after.0, omega (arith, after.1, some))
    ] in
    subst (λ (p : Place). IsBefore a p) (sym second.first) (subst (λ (p : Place). IsBefore p (first_cell second.run)) (sym first.first) cells_in_order)

-- none is missing
every_first : (connectivity : Bool) (cells : Raster ℤ) (valid : Raster Bool) (rows : RowRuns) (lists : RunLists) (a : Place) (v : ℤ) → IsWhole connectivity cells valid rows lists → HasValue cells valid (Some v) a → IsFirst connectivity cells valid a → (k : ℕ) × (slice_get (regions_of (table_of rows lists)).firsts k ≡ Some a)
every_first connectivity cells valid rows lists a v whole has first =
    let own = marked_has connectivity cells valid rows lists a v whole has in
    let within = whole.filled.known own.1.index own.0 own.1.is in
    let start = first_at connectivity cells valid rows lists own.0 whole within in
    let starts = begins connectivity cells valid rows lists own.0 start.0 whole start.1 in
    let joined = has_joined connectivity cells valid rows lists own.0 start.0 a whole starts own.1 in
    let same = one_before start.0 a (first.least start.0 (component_sym connectivity cells valid start.0 a joined)) ((is_first connectivity cells valid rows lists own.0 start.0 whole starts).least a joined) in
    (own.0, start.1 ∙ ap (λ (p : Place). Some p) same)

value_of_marked : (connectivity : Bool) (cells : Raster ℤ) (valid : Raster Bool) (rows : RowRuns) (lists : RunLists) (p : Place) → IsWhole connectivity cells valid rows lists → IsMarked valid p → (v : ℤ) × HasValue cells valid (Some v) p
value_of_marked connectivity cells valid rows lists p whole marked =
    let aligned = whole.table.mask in
    let inside = inside_from_value valid p true aligned.second marked in
    let value = value_inside cells p aligned.first (omega (arith, inside.0, aligned.nrows)) (omega (arith, inside.1, aligned.ncols)) in
    (value.0, (marked, value.1))

-- the number of a first cell is its index
has_number : (connectivity : Bool) (cells : Raster ℤ) (valid : Raster Bool) (rows : RowRuns) (lists : RunLists) (k : ℕ) (a : Place) → IsWhole connectivity cells valid rows lists → slice_get (regions_of (table_of rows lists)).firsts k ≡ Some a → HasNumber connectivity cells valid a k
has_number connectivity cells valid rows lists k a whole at =
    let firsts = (regions_of (table_of rows lists)).firsts in
    let begins_at : (i : ℕ) (x : Place) → slice_get firsts i ≡ Some x → Begins connectivity rows lists i x = λ i x at_x. begins connectivity cells valid rows lists i x whole at_x in
    count_before (IsFirst connectivity cells valid) firsts (λ i j x y less at_x at_y. firsts_in_order connectivity cells valid rows lists i j x y whole less (begins_at i x at_x) (begins_at j y at_y)) (λ x. (
      λ member.
          let at_x = at_from_contains firsts x member in
          is_first connectivity cells valid rows lists at_x.0 x whole (begins_at at_x.0 x at_x.1),
      λ first.
          let value = value_of_marked connectivity cells valid rows lists x whole first.marked in
          let found = every_first connectivity cells valid rows lists x value.0 whole value.1 first in
          contains_from_at firsts found.0 x found.1,
    )) k a at

-- the size is the number of cells of the runs
has_size : (connectivity : Bool) (cells : Raster ℤ) (valid : Raster Bool) (rows : RowRuns) (lists : RunLists) (k : ℕ) (a : Place) (n : ℕ) → IsWhole connectivity cells valid rows lists → Begins connectivity rows lists k a → slice_get (regions_of (table_of rows lists)).sizes k ≡ Some n → HasSize connectivity cells valid a n
has_size connectivity cells valid rows lists k a n whole starts at =
    let table = table_of rows lists in
    let found = mapped (λ list. sum_by (λ i. (run_at table i).to - (run_at table i).from) list) (slice_get table.lists k) n (sym (slice_get-map (λ list. sum_by (λ i. (run_at table i).to - (run_at table i).from) list) table.lists k) ∙ at) in
    let had = list_of connectivity rows lists k found.0 whole.filled found.1 in
    let own = start_has connectivity cells valid rows lists k a whole starts in
    let run_in : (i : ℕ) → Contains found.0 i → (run : Run) × (slice_get rows.runs.items i ≡ Some run) × (run_at table i ≡ run) = λ i member.
    let within = slice_get_within lists.components.items i (Some k) (had.listed.numbered i member) in
    let there = slice_get-get_or rows.runs.items i (record { row = 0; from = 0; to = 0 }) (omega (arith, within, whole.filled.sized.components)) in
    (get_or rows.runs.items i (record { row = 0; from = 0; to = 0 }), there, read_run table i _ there) in
    let count = census (InComponent connectivity cells valid a) (run_at table) found.0 had.listed.linked.once (λ i p member in_run.
    let run = run_in i member in
    has_joined connectivity cells valid rows lists k a p whole starts (record { index = i; run = run.0; at = run.1; cell = subst (λ (r : Run). IsCellOf r p) run.2 in_run; is = had.listed.numbered i member })) (λ p joined.
    let has = joined_has connectivity cells valid rows lists k a p whole own joined in
    (has.index, had.listed.all has.index has.is, subst (λ (r : Run). IsCellOf r p) (sym (read_run table has.index has.run has.at)) has.cell)) (λ i j p in_i in_j cell_i cell_j.
    let run_i = run_in i in_i in
    let run_j = run_in j in_j in
    same_run rows.runs.items whole.order.order i j run_i.0 run_j.0 p run_i.1 run_j.1 (subst (λ (r : Run). IsCellOf r p) run_i.2 cell_i) (subst (λ (r : Run). IsCellOf r p) run_j.2 cell_j)) in
    subst (λ (m : ℕ). HasCount (InComponent connectivity cells valid a) m) found.2 count

pub labelling : (connectivity : Bool) (cells : Raster ℤ) (valid : Raster Bool) (rows : RowRuns) (lists : RunLists) → IsWhole connectivity cells valid rows lists → IsLabelling connectivity cells valid (regions_of (table_of rows lists))
labelling connectivity cells valid rows lists whole =
    let table = table_of rows lists in
    let starts : (k : ℕ) (a : Place) → slice_get (regions_of table).firsts k ≡ Some a → Begins connectivity rows lists k a = λ k a at. begins connectivity cells valid rows lists k a whole at in
    record {
      mask = whole.table.mask;
      numbers = record { first = whole.table.mask.first; second = shape connectivity cells valid rows lists whole; ncols = whole.table.ncols; nrows = whole.table.nrows };
      first = λ k a at. is_first connectivity cells valid rows lists k a whole (starts k a at);
      number = λ k a at. has_number connectivity cells valid rows lists k a whole at;
      every = λ a is.
          let value = value_of_marked connectivity cells valid rows lists a whole is.marked in
          let found = every_first connectivity cells valid rows lists a value.0 whole value.1 is in
          contains_from_at (regions_of table).firsts found.0 a found.1;
      valid_cells = λ p. (
        λ marked.
            let value = value_of_marked connectivity cells valid rows lists p whole marked in
            let has = marked_has connectivity cells valid rows lists p value.0 whole value.1 in
            (has.0, has_region connectivity cells valid rows lists has.0 p whole has.1),
        λ in_some. has_marked connectivity cells valid rows lists in_some.0 p whole (region_has connectivity cells valid rows lists in_some.0 p whole in_some.1),
      );
      region = λ k a p at. (
        λ in_k. has_joined connectivity cells valid rows lists k a p whole (starts k a at) (region_has connectivity cells valid rows lists k p whole in_k),
        λ joined. has_region connectivity cells valid rows lists k p whole (joined_has connectivity cells valid rows lists k a p whole (start_has connectivity cells valid rows lists k a whole (starts k a at)) joined),
      );
      known = λ k p in_k.
          let has = region_has connectivity cells valid rows lists k p whole in_k in
          omega (arith, whole.filled.known has.index k has.is, length_lists connectivity rows lists whole.filled, length-map table.lists (λ list. first_cell (run_at table (slice_index list 0))));
      sized = length-map table.lists (λ list. sum_by (λ i. (run_at table i).to - (run_at table i).from) list) ∙ sym (length-map table.lists (λ list. first_cell (run_at table (slice_index list 0))));
      size = λ k a n at at_n. has_size connectivity cells valid rows lists k a n whole (starts k a at) at_n;
    }

-- cells of one number that are valid have one value
value_of_number : (connectivity : Bool) (cells : Raster ℤ) (valid : Raster Bool) (rows : RowRuns) (lists : RunLists) (k : ℕ) (p q : Place) → IsWhole connectivity cells valid rows lists → HasRun (table_of rows lists) k p → HasRun (table_of rows lists) k q → HasValue cells valid (value_at cells p) q
value_of_number connectivity cells valid rows lists k p q whole has_p has_q =
    let within = whole.filled.known has_p.index k has_p.is in
    let start = first_at connectivity cells valid rows lists k whole within in
    let starts = begins connectivity cells valid rows lists k start.0 whole start.1 in
    let to_p = has_joined connectivity cells valid rows lists k start.0 p whole starts has_p in
    let to_q = has_joined connectivity cells valid rows lists k start.0 q whole starts has_q in
    component_end connectivity cells valid p q (component_trans connectivity cells valid p start.0 q (component_sym connectivity cells valid start.0 p to_p) to_q)

run_of_number : (connectivity : Bool) (cells : Raster ℤ) (valid : Raster Bool) (rows : RowRuns) (lists : RunLists) (i k : ℕ) (run : Run) → IsWhole connectivity cells valid rows lists → slice_get rows.runs.items i ≡ Some run → IsOf lists.components.items i k → IsRunIn (IsInRegion (regions_of (table_of rows lists)) k) run
run_of_number connectivity cells valid rows lists i k run whole at is =
    let each = whole.table.runs.each i run at in
    let first = each.1.cells (first_cell run) (refl, omega arith, each.1.some) in
    let own : HasRun (table_of rows lists) k (first_cell run) = record { index = i; run = run; at = at; cell = (refl, omega arith, each.1.some); is = is } in
    let valued : (q : Place) → IsInRegion (regions_of (table_of rows lists)) k q → HasValue cells valid (Some each.0) q = λ q in_k.
    let has = value_of_number connectivity cells valid rows lists k (first_cell run) q whole own (region_has connectivity cells valid rows lists k q whole in_k) in
    (has.0, has.1 ∙ first.1) in
    record {
      some = each.1.some;
      cells = λ p in_run. has_region connectivity cells valid rows lists k p whole (record { index = i; run = run; at = at; cell = in_run; is = is });
      left = λ col next in_k. each.1.left col next (valued (run.row, col) in_k);
      right = λ in_k. each.1.right (valued (run.row, run.to) in_k);
    }

pub table_of_regions : (connectivity : Bool) (cells : Raster ℤ) (valid : Raster Bool) (rows : RowRuns) (lists : RunLists) → IsWhole connectivity cells valid rows lists → IsTableOfRegions (regions_of (table_of rows lists)) (table_of rows lists)
table_of_regions connectivity cells valid rows lists whole =
    let table = table_of rows lists in
    record {
      ncols = refl;
      nrows = refl;
      runs = record {
        each = λ i run at.
            let number = whole.filled.done i (slice_get_within rows.runs.items i run at) in
            (number.0, run_of_number connectivity cells valid rows lists i number.0 run whole at number.1);
        every = λ k p in_k.
            let has = region_has connectivity cells valid rows lists k p whole in_k in
            (has.index, has.run, has.at, has.cell);
        order = whole.order.order;
      };
      numbered = whole.filled.sized.components;
      number = λ i k run at. (
        λ is. (run_of_number connectivity cells valid rows lists i k run whole at is).cells (first_cell run) (refl, omega arith, (whole.order.inside i run at).1),
        λ in_k.
            let has = region_has connectivity cells valid rows lists k (first_cell run) whole in_k in
            let same = same_run rows.runs.items whole.order.order has.index i has.run run (first_cell run) has.at at has.cell (refl, omega arith, (whole.order.inside i run at).1) in
            subst (λ (j : ℕ). IsOf lists.components.items j k) same has.is,
      );
      known = λ i k is. omega (arith, whole.filled.known i k is, length_lists connectivity rows lists whole.filled, length-map table.lists (λ list. first_cell (run_at table (slice_index list 0))));
      count = sym (length-map table.lists (λ list. first_cell (run_at table (slice_index list 0))));
      list = λ k list at. is_list_of (contacts connectivity rows) lists k list (list_of connectivity rows lists k list whole.filled at).listed;
    }

pub filled : (connectivity : Bool) (cells : Raster ℤ) (valid : Raster Bool) (rows : RowRuns) (lists : RunLists) → IsWhole connectivity cells valid rows lists → IsFilled connectivity cells valid (table_of rows lists)
filled connectivity cells valid rows lists whole = record {
  labelling = labelling connectivity cells valid rows lists whole;
  runs = table_of_regions connectivity cells valid rows lists whole;
}
