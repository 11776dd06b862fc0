-- What a table of runs keeps.
use Rattle.std.specs.Prelude.{◌≡◌, ℕ, ◌<◌, ◌≤◌, zero, suc, ℤ, ◌==◌, Bool, List, [], ◌∷◌, Option, Some, None, Contains, map, length, slice_get, slice_index, take, unwrap_or, if◌then◌else◌}
use Rattle.cell_base.specs.Raster.{IsRaster, Raster}
use Rattle.region_label.specs.Inner.Rows.{AreFound, AreInRows, noted_units}
use Rattle.region_label.specs.Inner.Lists.{AreSized, HasNone, IsLinked}
use Rattle.region_label.specs.Inner.Blocks.{HasBlocks}
use Rattle.region_label.specs.Inner.Notes.{AreNoted}
use Rattle.region_label.specs.Run.{Run}
use Rattle.region_label.specs.RunTable.{IsTableOfRegions, TableOfRuns, regions_of}
use Rattle.region_label.specs.declared.rows.RowRuns.{RowRuns}
use Rattle.region_label.specs.declared.lists.RunLists.{RunLists}

-- the runs lie in their rows
abbrev pub AreInOrder : RowRuns → Type 0
AreInOrder rows = AreInRows rows.ncols rows.nrows rows.runs.items (noted_units rows.notes.items) rows.starts.items

-- the size stays, and the blocks
pub record HasSize (old new : RowRuns) : Type 0 where
  pub ncols : new.ncols ≡ old.ncols
  pub nrows : new.nrows ≡ old.nrows
  pub blocks : new.blocks ≡ old.blocks

-- all stays but what notes say of the rows beside a run
pub record KeepsRows (old new : RowRuns) : Type 0 where
  pub ncols : new.ncols ≡ old.ncols
  pub nrows : new.nrows ≡ old.nrows
  pub runs : new.runs ≡ old.runs
  pub units : noted_units new.notes.items ≡ noted_units old.notes.items
  pub starts : new.starts ≡ old.starts
  pub blocks : new.blocks ≡ old.blocks

-- the runs of these cells
pub record AreRowsOf {T : Type 0} (units_of : T → ℤ) (cells : Raster T) (valid : Raster Bool) (rows : RowRuns) : Type 0 where
  pub ncols : rows.ncols ≡ cells.ncols
  pub nrows : rows.nrows ≡ cells.nrows
  pub in_order : AreInOrder rows
  pub found : AreFound units_of cells valid rows.runs.items (noted_units rows.notes.items) (cells.nrows, 0)
  pub blocks : HasBlocks rows
  pub noted : AreNoted rows

-- at most so many members of a linked list, from one on to the one that is linked to itself
abbrev pub linked_from : List ℕ → ℕ → ℕ → List ℕ
linked_from links zero i = []
linked_from links (suc n) i = i ∷ (if slice_index links i == i then [] else linked_from links n (slice_index links i))

-- the member after one, if it isn't the last
abbrev pub following : List ℕ → ℕ → Option ℕ
following links i = if slice_index links i == i then None else Some (slice_index links i)

-- the lists of all components
abbrev pub lists_of : RunLists → List (List ℕ)
lists_of lists = map (linked_from lists.links.items (length lists.links.items)) (take lists.count lists.firsts.items)

abbrev pub table_of : RowRuns → RunLists → TableOfRuns
table_of rows lists = record {
  ncols = rows.ncols;
  nrows = rows.nrows;
  runs = rows.runs.items;
  units = noted_units rows.notes.items;
  components = lists.components.items;
  lists = lists_of lists;
}

-- the index is one of a linked list of runs
pub record IsOnList (runs : ℕ) (links : List ℕ) (at : ℕ) : Type 0 where
  pub list : List ℕ
  pub start : ℕ
  pub last : ℕ
  pub index : ℕ
  pub linked : IsLinked links list start last
  pub at_index : slice_get list index ≡ Some at
  pub below : (i : ℕ) → Contains list i → i < runs

-- the runs are in order and noted, and each component has a linked list; with no components the lists are as a fill
-- begins
pub record IsTable (rows : RowRuns) (lists : RunLists) : Type 0 where
  pub order : AreInOrder rows
  pub blocks : HasBlocks rows
  pub noted : AreNoted rows
  pub sized : AreSized (length rows.runs.items) lists
  pub few : lists.count ≤ length lists.firsts.items
  pub clear : lists.count ≡ 0 → HasNone lists
  pub listed : (k start : ℕ) → k < lists.count → slice_get lists.firsts.items k ≡ Some start
      → IsOnList (length rows.runs.items) lists.links.items start

-- the runs at the indices of a linked list from one on
abbrev pub runs_from : List Run → List ℕ → Option ℕ → List Run
runs_from runs links None = []
runs_from runs links (Some i) = map (λ j. unwrap_or (slice_get runs j) (record { row = 0; from = 0; to = 0 })) (linked_from links (length links) i)

-- a walk is on a list, or at its end
pub record IsWalkOf (runs : List Run) (links : List ℕ) (next : Option ℕ) : Type 0 where
  pub sized : length links ≡ length runs
  pub on : (i : ℕ) → next ≡ Some i → IsOnList (length runs) links i

-- each component has fewer cells than this
abbrev pub AreSizesBelow : ℕ → TableOfRuns → Type 0
AreSizesBelow n table = (k size : ℕ) → slice_get (regions_of table).sizes k ≡ Some size → size < n

-- the sizes are those of the components of a filled table
pub record HasSizes (table : TableOfRuns) (list : List ℕ) : Type 0 where
  pub sizes : list ≡ (regions_of table).sizes
  pub runs : IsTableOfRegions (regions_of table) table
  pub shape : IsRaster (regions_of table).numbers
