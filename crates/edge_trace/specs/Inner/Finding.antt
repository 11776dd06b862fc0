-- How far the sides have been found.
use Rattle.std.specs.Prelude.{◌≡◌, ℕ, ◌+◌, ◌-◌, ◌*◌, ◌<◌, ◌≤◌, ◌↔◌, Bool, true, false, List, [], ◌∷◌, ◌++◌, Some, length, slice_get, take, if◌then◌else◌}
use Rattle.cell_base.specs.Raster.{Place}
use Rattle.region_label.specs.Labelling.{RegionTable, IsInRegion}
use Rattle.region_label.specs.Run.{Run}
use Rattle.region_label.specs.RunTable.{TableOfRuns}
use Rattle.edge_trace.specs.Inner.Sides.{AreSides, IsSide}
use Rattle.edge_trace.specs.declared.sides.Ahead.{Ahead}
use Rattle.edge_trace.specs.declared.sides.Around.{Around}
use Rattle.edge_trace.specs.declared.sides.Bounds.{Bounds}
use Rattle.edge_trace.specs.declared.sides.Part.{Part}
use Rattle.edge_trace.specs.declared.sides.Finding.{Finding}
use Rattle.edge_trace.specs.declared.sides.Stretch.{Stretch}

-- the numbers that have been found, and the component beside each

abbrev pub found_numbers : Finding → List ℕ
found_numbers finding = finding.numbers.items ++ take finding.count finding.row_numbers.items

abbrev pub found_owners : Finding → List ℕ
found_owners finding = finding.owners.items ++ take finding.count finding.row_owners.items

-- there is room for so many more in this row
pub record HasRoom (n : ℕ) (finding : Finding) : Type 0 where
  pub numbers : finding.count + n ≤ length finding.row_numbers.items
  pub owners : finding.count + n ≤ length finding.row_owners.items

-- the room stays
pub record KeepsRoom (old new : Finding) : Type 0 where
  pub numbers : length new.row_numbers.items ≡ length old.row_numbers.items
  pub owners : length new.row_owners.items ≡ length old.row_owners.items

-- at most so many have come to the row
pub record TakesRoom (n : ℕ) (old new : Finding) : Type 0 where
  pub keeps : KeepsRoom old new
  pub count : new.count ≤ old.count + n

-- there is room for the cells from a column on
abbrev pub HasRoomFrom : ℕ → ℕ → Finding → Type 0
HasRoomFrom ncols col finding = HasRoom (4 * (ncols - col) + 4) finding

-- there is room for a whole row
abbrev pub HasRowRoom : ℕ → Finding → Type 0
HasRowRoom ncols finding = HasRoomFrom ncols 0 finding × (finding.count ≡ 0)

-- the sides below a bound
abbrev pub HasSides : RegionTable → ℕ → Finding → ℕ → Type 0
HasSides regions stride finding bound = AreSides regions stride (found_numbers finding) (found_owners finding) bound

-- the runs from one index up to another are in this row, and are all that end past a column there
pub record AreAhead (table : TableOfRuns) (col : ℕ) (ahead : Ahead) : Type 0 where
  pub order : ahead.at ≤ ahead.end
  pub within : ahead.end ≤ length table.runs
  pub row : (i : ℕ) (run : Run) → ahead.at ≤ i → i < ahead.end → slice_get table.runs i ≡ Some run
      → run.row ≡ ahead.row
  pub all : (i : ℕ) (run : Run) → slice_get table.runs i ≡ Some run → run.row ≡ ahead.row → col < run.to
      → (ahead.at ≤ i) × (i < ahead.end)

-- the runs of the rows beside a row; above the first row stands the one after the last, which has none
pub record AreAround (table : TableOfRuns) (row col : ℕ) (around : Around) : Type 0 where
  pub above : AreAhead table col around.above
  pub below : AreAhead table col around.below
  pub below_row : around.below.row ≡ row + 1
  pub above_row : (other : ℕ) → other + 1 ≡ row → around.above.row ≡ other
  pub first_row : row ≡ 0 → around.above.row ≡ table.nrows

-- the first run that is left ends past a column
abbrev pub HasRunIn : List Run → ℕ → Ahead → Type 0
HasRunIn runs col ahead = (run : Run) → ahead.at < ahead.end → slice_get runs ahead.at ≡ Some run → col < run.to

-- the first run that is left ends at a column or later
abbrev pub HasRunTo : List Run → ℕ → Ahead → Type 0
HasRunTo runs col ahead = (run : Run) → ahead.at < ahead.end → slice_get runs ahead.at ≡ Some run → col ≤ run.to

-- the runs that end before a column have been passed
pub record SkipsTo (runs : List Run) (col : ℕ) (old new : Ahead) : Type 0 where
  pub row : new.row ≡ old.row
  pub end : new.end ≡ old.end
  pub from : old.at ≤ new.at
  pub order : new.at ≤ new.end
  pub early : (i : ℕ) (run : Run) → old.at ≤ i → i < new.at → slice_get runs i ≡ Some run → run.to ≤ col
  pub late : HasRunIn runs col new

-- from a column up to another no cell of the row, or each of them, is in the component
pub record IsStretch (regions : RegionTable) (row k col : ℕ) (stretch : Stretch) : Type 0 where
  pub more : col < stretch.to
  pub free : stretch.free ≡ true → (c : ℕ) → col ≤ c → c < stretch.to → ¬ IsInRegion regions k (row, c)
  pub full : stretch.free ≡ false → (c : ℕ) → col ≤ c → c < stretch.to → IsInRegion regions k (row, c)

-- from a column up to another this tells of each cell of a row whether a side of it bounds the component
abbrev pub Tells : RegionTable → ℕ → ℕ → ℕ → ℕ → ℕ → Bool → Type 0
Tells regions k row side from to bounds = (c : ℕ) → from ≤ c → c < to → (bounds ≡ true) ↔ IsSide regions k (row, c) side

pub record IsPart (regions : RegionTable) (k : ℕ) (run : Run) (from : ℕ) (part : Part) : Type 0 where
  pub more : from < part.to
  pub within : part.to ≤ run.to
  pub above : Tells regions k run.row 3 from part.to part.above
  pub below : Tells regions k run.row 1 from part.to part.below

-- which sides of a cell bound the component
pub record AreBounds (regions : RegionTable) (k : ℕ) (cell : Place) (bounds : Bounds) : Type 0 where
  pub inside : IsInRegion regions k cell
  pub left : (bounds.left ≡ true) ↔ IsSide regions k cell 0
  pub below : (bounds.below ≡ true) ↔ IsSide regions k cell 1
  pub right : (bounds.right ≡ true) ↔ IsSide regions k cell 2
  pub above : (bounds.above ≡ true) ↔ IsSide regions k cell 3

-- one more side, if it bounds its component
pub record Adds (bounds : Bool) (number k : ℕ) (old new : Finding) : Type 0 where
  pub numbers : found_numbers new ≡ found_numbers old ++ (if bounds then number ∷ [] else [])
  pub owners : found_owners new ≡ found_owners old ++ (if bounds then k ∷ [] else [])
