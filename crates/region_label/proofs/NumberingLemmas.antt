-- The components of a table of filled runs are those of the cells.
use Rattle.std.proofs.Common.{◌≡◌, ℕ, ◌<◌, ℤ, Bool, List, Option, Some, get_or, refl, ap, sym, ◌∙◌, subst, arith}
use Rattle.std.specs.Prelude.{option_map, slice_get, slice_index}
use Rattle.std.proofs.lemmas.Option.{get_or_from_slice_get, same_Some, slice_get-get_or, slice_get-map, slice_get_within, unwrap_or-slice_get}
use Rattle.cell_base.specs.Raster.{Place, Raster, IsRaster}
use Rattle.cell_base.specs.Valid.{IsMarked}
use Rattle.cell_base.proofs.PlaceLemmas.{inside_from_value}
use Rattle.region_label.specs.Component.{HasValue, InComponent}
use Rattle.region_label.specs.Labelling.{IsInRegion}
use Rattle.region_label.specs.Run.{Run, IsCellOf, first_cell}
use Rattle.region_label.specs.RunTable.{TableOfRuns, regions_of, run_at}
use Rattle.region_label.specs.Inner.Lists.{IsListed, IsOf, contacts}
use Rattle.region_label.specs.Inner.Table.{table_of}
use Rattle.region_label.specs.declared.rows.RowRuns.{RowRuns}
use Rattle.region_label.specs.declared.lists.RunLists.{RunLists}
use Rattle.region_label.proofs.ComponentLemmas.{component_trans}
use Rattle.region_label.proofs.JoinLemmas.{in_run_joined, joined_stays, walk_joined}
use Rattle.region_label.proofs.ListLemmas.{contains_from_at}
use Rattle.region_label.proofs.PaintLemmas.{number_in, number_of_run, painted, painted_shape}
use Rattle.region_label.proofs.WholeLemmas.{IsWhole, list_at, list_of, mapped}

-- a run with the cell, in the component of this number
pub record HasRun (table : TableOfRuns) (k : ℕ) (p : Place) : Type 0 where
  pub index : ℕ
  pub run : Run
  pub at : slice_get table.runs index ≡ Some run
  pub cell : IsCellOf run p
  pub is : IsOf table.components index k

pub shape : (connectivity : Bool) (cells : Raster ℤ) (valid : Raster Bool) (rows : RowRuns) (lists : RunLists) → IsWhole connectivity cells valid rows lists → IsRaster (regions_of (table_of rows lists)).numbers
shape connectivity cells valid rows lists whole =
    let frame = whole.table.mask.first in
    painted_shape (table_of rows lists) (omega (arith, frame.some_cols, whole.table.ncols)) (omega (arith, frame.some_rows, whole.table.nrows)) (rw (whole.table.ncols, whole.table.nrows) frame.small)

-- a cell is in a region exactly where a run of that number has it
pub region_has : (connectivity : Bool) (cells : Raster ℤ) (valid : Raster Bool) (rows : RowRuns) (lists : RunLists) (k : ℕ) (p : Place) → IsWhole connectivity cells valid rows lists → IsInRegion (regions_of (table_of rows lists)) k p → HasRun (table_of rows lists) k p
region_has connectivity cells valid rows lists k p whole in_k =
    let table = table_of rows lists in
    let inside = inside_from_value (regions_of table).numbers p (Some k) (shape connectivity cells valid rows lists whole) in_k in
    let number = same_Some _ (Some k) (sym (painted table p inside.0 inside.1) ∙ in_k) in
    let found = number_of_run table p k number in
    record { index = found.0; run = found.1; at = found.2; cell = found.3; is = found.4 }

pub has_region : (connectivity : Bool) (cells : Raster ℤ) (valid : Raster Bool) (rows : RowRuns) (lists : RunLists) (k : ℕ) (p : Place) → IsWhole connectivity cells valid rows lists → HasRun (table_of rows lists) k p → IsInRegion (regions_of (table_of rows lists)) k p
has_region connectivity cells valid rows lists k p whole has =
    let table = table_of rows lists in
    let inside = whole.order.inside has.index has.run has.at in
    painted table p (omega (arith, inside.0, has.cell.0)) (omega (arith, inside.2, has.cell.2)) ∙ ap (λ (o : Option ℕ). Some o) (number_in table whole.table.runs.order has.index has.run p (Some k) has.at has.cell has.is)

-- the first run of a component
pub record Begins (connectivity : Bool) (rows : RowRuns) (lists : RunLists) (k : ℕ) (a : Place) : Type 0 where
  pub list : List ℕ
  pub run : Run
  pub listed : IsListed (contacts connectivity rows) lists.components.items lists.links.items lists.firsts.items k list
  pub at : slice_get rows.runs.items listed.start ≡ Some run
  pub first : a ≡ first_cell run
  pub within : k < lists.count

start_index : (list : List ℕ) (start : ℕ) → slice_get list 0 ≡ Some start → slice_index list 0 ≡ start
start_index list start at = get_or_from_slice_get list 0 start 0 at

no_run : Run
no_run = record { row = 0; from = 0; to = 0 }

pub read_run : (table : TableOfRuns) (i : ℕ) (run : Run) → slice_get table.runs i ≡ Some run → run_at table i ≡ run
read_run table i run at = unwrap_or-slice_get table.runs i (record { row = 0; from = 0; to = 0 }) ∙ get_or_from_slice_get table.runs i run (record { row = 0; from = 0; to = 0 }) at

start_of : (connectivity : Bool) (cells : Raster ℤ) (valid : Raster Bool) (rows : RowRuns) (lists : RunLists) (k : ℕ) (list : List ℕ) → IsWhole connectivity cells valid rows lists → k < lists.count → IsListed (contacts connectivity rows) lists.components.items lists.links.items lists.firsts.items k list → Begins connectivity rows lists k (first_cell (run_at (table_of rows lists) (slice_index list 0)))
start_of connectivity cells valid rows lists k list whole within listed =
    let is = listed.numbered listed.start (contains_from_at list 0 listed.start listed.linked.first) in
    let in_runs = slice_get_within lists.components.items listed.start (Some k) is in
    let at = slice_get-get_or rows.runs.items listed.start no_run (omega (arith, in_runs, whole.filled.sized.components)) in
    let same : run_at (table_of rows lists) (slice_index list 0) ≡ get_or rows.runs.items listed.start no_run = ap (run_at (table_of rows lists)) (start_index list listed.start listed.linked.first) ∙ read_run (table_of rows lists) listed.start (get_or rows.runs.items listed.start no_run) at in
    record {
      list = list;
      run = get_or rows.runs.items listed.start no_run;
      listed = listed;
      at = at;
      first = ap first_cell same;
      within = within;
    }

-- a first cell of the table is that of its component's first run
pub begins : (connectivity : Bool) (cells : Raster ℤ) (valid : Raster Bool) (rows : RowRuns) (lists : RunLists) (k : ℕ) (a : Place) → IsWhole connectivity cells valid rows lists → slice_get (regions_of (table_of rows lists)).firsts k ≡ Some a → Begins connectivity rows lists k a
begins connectivity cells valid rows lists k a whole at =
    let table = table_of rows lists in
    let found = mapped (λ list. first_cell (run_at table (slice_index list 0))) (slice_get table.lists k) a (sym (slice_get-map (λ list. first_cell (run_at table (slice_index list 0))) table.lists k) ∙ at) in
    let had = list_of connectivity rows lists k found.0 whole.filled found.1 in
    subst (λ (b : Place). Begins connectivity rows lists k b) found.2 (start_of connectivity cells valid rows lists k found.0 whole had.within had.listed)

-- and each component has one
pub first_at : (connectivity : Bool) (cells : Raster ℤ) (valid : Raster Bool) (rows : RowRuns) (lists : RunLists) (k : ℕ) → IsWhole connectivity cells valid rows lists → k < lists.count → (a : Place) × (slice_get (regions_of (table_of rows lists)).firsts k ≡ Some a)
first_at connectivity cells valid rows lists k whole within =
    let table = table_of rows lists in
    let found = list_at connectivity rows lists k whole.filled within in
    (first_cell (run_at table (slice_index found.0 0)), slice_get-map (λ list. first_cell (run_at table (slice_index list 0))) table.lists k ∙ ap (option_map (λ list. first_cell (run_at table (slice_index list 0)))) found.1)

first_in : (connectivity : Bool) (cells : Raster ℤ) (valid : Raster Bool) (rows : RowRuns) (lists : RunLists) (k : ℕ) (a : Place) → IsWhole connectivity cells valid rows lists → (starts : Begins connectivity rows lists k a) → IsCellOf starts.run a
first_in connectivity cells valid rows lists k a whole starts =
    let some = (whole.order.inside starts.listed.start starts.run starts.at).1 in
    subst (λ (p : Place). IsCellOf starts.run p) (sym starts.first) (refl, omega arith, some)

-- a cell of a run of the component is in the component of its first cell
pub has_joined : (connectivity : Bool) (cells : Raster ℤ) (valid : Raster Bool) (rows : RowRuns) (lists : RunLists) (k : ℕ) (a p : Place) → IsWhole connectivity cells valid rows lists → Begins connectivity rows lists k a → HasRun (table_of rows lists) k p → InComponent connectivity cells valid a p
has_joined connectivity cells valid rows lists k a p whole starts has =
    let table = table_of rows lists in
    let walk = starts.listed.reached has.index (starts.listed.all has.index has.is) in
    let to_run = walk_joined connectivity cells valid table starts.listed.start has.index starts.run has.run walk.0 whole.table starts.at has.at walk.1 in
    let to_cell = in_run_joined connectivity cells valid table has.index has.run p whole.table has.at has.cell in
    subst (λ (b : Place). InComponent connectivity cells valid b p) (sym starts.first) (component_trans connectivity cells valid (first_cell starts.run) (first_cell has.run) p to_run to_cell)

-- and the other way round
pub joined_has : (connectivity : Bool) (cells : Raster ℤ) (valid : Raster Bool) (rows : RowRuns) (lists : RunLists) (k : ℕ) (p q : Place) → IsWhole connectivity cells valid rows lists → HasRun (table_of rows lists) k p → InComponent connectivity cells valid p q → HasRun (table_of rows lists) k q
joined_has connectivity cells valid rows lists k p q whole has joined =
    let found = joined_stays connectivity cells valid (table_of rows lists) has.index k has.run p q joined.1 whole.table (λ x y m is contact. whole.filled.closed x y m is contact) has.at has.cell has.is joined.2 in
    record { index = found.0; run = found.1; at = found.2; cell = found.3; is = found.4 }

pub start_has : (connectivity : Bool) (cells : Raster ℤ) (valid : Raster Bool) (rows : RowRuns) (lists : RunLists) (k : ℕ) (a : Place) → IsWhole connectivity cells valid rows lists → Begins connectivity rows lists k a → HasRun (table_of rows lists) k a
start_has connectivity cells valid rows lists k a whole starts = record {
  index = starts.listed.start;
  run = starts.run;
  at = starts.at;
  cell = first_in connectivity cells valid rows lists k a whole starts;
  is = starts.listed.numbered starts.listed.start (contains_from_at starts.list 0 starts.listed.start starts.listed.linked.first);
}

-- each valid cell is in a run of some number
pub marked_has : (connectivity : Bool) (cells : Raster ℤ) (valid : Raster Bool) (rows : RowRuns) (lists : RunLists) (p : Place) (v : ℤ) → IsWhole connectivity cells valid rows lists → HasValue cells valid (Some v) p → (k : ℕ) × HasRun (table_of rows lists) k p
marked_has connectivity cells valid rows lists p v whole has =
    let found = whole.table.runs.every v p has in
    let within = slice_get_within rows.runs.items found.0 found.1 found.2 in
    let number = whole.filled.done found.0 within in
    (number.0, record { index = found.0; run = found.1; at = found.2; cell = found.3; is = number.1 })

pub has_marked : (connectivity : Bool) (cells : Raster ℤ) (valid : Raster Bool) (rows : RowRuns) (lists : RunLists) (k : ℕ) (p : Place) → IsWhole connectivity cells valid rows lists → HasRun (table_of rows lists) k p → IsMarked valid p
has_marked connectivity cells valid rows lists k p whole has = ((whole.table.runs.each has.index has.run has.at).1.cells p has.cell).0
