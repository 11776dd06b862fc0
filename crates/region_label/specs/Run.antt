-- Runs: the longest pieces of rows whose cells are all in one set, as all of one value, or all of one component.
use Rattle.std.specs.Prelude.{◌≡◌, ℕ, ◌+◌, ◌<◌, ◌≤◌, ◌⊎◌, List, Some, slice_get}
use Rattle.cell_base.specs.Raster.{Place}
pub use Rattle.cell_base.specs.declared.run.Run.{Run}

-- the cell is one of the run
abbrev pub IsCellOf : Run → Place → Type 0
IsCellOf run p = (p.0 ≡ run.row) × (run.from ≤ p.1) × (p.1 < run.to)

-- its first cell
abbrev pub first_cell : Run → Place
first_cell run = (run.row, run.from)

-- in an earlier row, or in the same row with its end no further than the start of the other
abbrev pub IsRunBefore : Run → Run → Type 0
IsRunBefore a b = (a.row < b.row) ⊎ ((a.row ≡ b.row) × (a.to ≤ b.from))

-- a piece of a row in the set, with no cell of the set on its left or right
pub record IsRunIn (set : Place → Type 0) (run : Run) : Type 0 where
  pub some : run.from < run.to
  pub cells : (p : Place) → IsCellOf run p → set p
  pub left : (col : ℕ) → col + 1 ≡ run.from → ¬ set (run.row, col)
  pub right : ¬ set (run.row, run.to)

-- the runs in these sets, by row and column: each cell of a set is in one of them
pub record AreRuns {A : Type 0} (sets : A → Place → Type 0) (runs : List Run) : Type 0 where
  pub each : (i : ℕ) (run : Run) → slice_get runs i ≡ Some run → (a : A) × IsRunIn (sets a) run
  pub every : (a : A) (p : Place) → sets a p → (i : ℕ) × (run : Run) × (slice_get runs i ≡ Some run) × IsCellOf run p
  pub order : (i j : ℕ) (a b : Run) → i < j → slice_get runs i ≡ Some a → slice_get runs j ≡ Some b → IsRunBefore a b
