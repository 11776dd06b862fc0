-- How far the cells of components have been counted.
use Rattle.std.specs.Prelude.{◌≡◌, ℕ, ◌-◌, ◌<◌, List, Some, length, slice_get, sum_by}
use Rattle.region_label.specs.Count.{IsListOf}
use Rattle.region_label.specs.RunTable.{TableOfRuns, run_at}

-- so many cells have the runs of a component before an index
abbrev pub HasSizeBefore : TableOfRuns → ℕ → ℕ → ℕ → Type 0
HasSizeBefore table i k n = (list : List ℕ)
    × IsListOf (λ j. (j < i) × (slice_get table.components j ≡ Some (Some k))) list
    × (sum_by (λ j. (run_at table j).to - (run_at table j).from) list ≡ n)

-- the cells of the runs before an index are counted, each for its component
pub record AreCounted (table : TableOfRuns) (i : ℕ) (sizes : List ℕ) : Type 0 where
  pub sized : length sizes ≡ length table.lists
  pub each : (k n : ℕ) → slice_get sizes k ≡ Some n → HasSizeBefore table i k n
