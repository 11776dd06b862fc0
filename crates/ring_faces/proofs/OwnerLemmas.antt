-- The run of a cell among all runs in order.
use Rattle.std.proofs.Common.{◌≡◌, ◌≢◌, ℕ, ◌+◌, ◌-◌, ◌<◌, inl, inr, Option, Some, None, refl, sym, ap, ◌∙◌, subst, arith}
use Rattle.std.specs.Prelude.{slice_get}
use Rattle.std.proofs.lemmas.Bool.{cases_lt}
use Rattle.std.proofs.lemmas.Option.{none-some, same_Some, slice_get_within}
use Rattle.cell_base.specs.Raster.{Place}
use Rattle.cell_base.specs.Order.{IsBefore}
use Rattle.cell_base.proofs.PlaceLemmas.{element_at}
use Rattle.region_label.specs.Labelling.{RegionTable, IsInRegion}
use Rattle.region_label.specs.Run.{Run, IsCellOf, IsRunBefore, first_cell}
use Rattle.region_label.specs.RunTable.{IsTableOfRegions, TableOfRuns}
use Rattle.ring_faces.specs.Inner.Owners.{AreUpTo}

-- a run with a cell doesn't begin after it
begins : (run : Run) (p : Place) → IsCellOf run p → ¬ IsBefore p (first_cell run)
begins run p cell (inl row) = omega (arith, row, cell.0)
begins run p cell (inr same) = omega (arith, same.1, cell.1)

-- runs behind it do
behind : (run other : Run) (p : Place) → IsCellOf run p → IsRunBefore run other → IsBefore p (first_cell other)
behind run other p cell (inl row) = inl (omega (arith, row, cell.0))
behind run other p cell (inr same) = inr (omega (arith, same.0, cell.0), omega (arith, same.1, cell.2))

-- and no run that begins after it is before the run
not_before : (run other : Run) (p : Place) → IsCellOf run p → other.from < other.to → IsBefore p (first_cell other) → ¬ IsRunBefore other run
not_before run other p cell some (inl row) (inl less) = omega (arith, row, less, cell.0)
not_before run other p cell some (inl row) (inr same) = omega (arith, row, same.0, cell.0)
not_before run other p cell some (inr here) (inl less) = omega (arith, here.0, less, cell.0)
not_before run other p cell some (inr here) (inr same) = omega (arith, here.1, same.1, cell.1, some)

-- the last of the runs up to a cell has it
last_has : (regions : RegionTable) (table : TableOfRuns) (p : Place) (n i : ℕ) (run : Run) → IsTableOfRegions regions table
    → AreUpTo table.runs p n → slice_get table.runs i ≡ Some run → IsCellOf run p → i + 1 ≡ n
last_has regions table p n i run is up at cell = elim (cases_lt i n) [
  | inl less ↦ elim (cases_lt (i + 1) n) [
    | inl more ↦
        let other = element_at table.runs (n - 1) (omega (arith, more, up.within)) in
        absurd (up.last (n - 1) other.0 (omega (arith, more)) other.1
        (behind run other.0 p cell (is.runs.order i (n - 1) run other.0 (omega (arith, more)) at other.1)))
    | inr last ↦ omega (arith, less, last)
  ]
  | inr past ↦
      let inside = slice_get_within table.runs i run at in
      let other = element_at table.runs n (omega (arith, past, inside)) in
      let after = up.next other.0 other.1 in
      elim (cases_lt n i) [
        | inl more ↦ absurd (not_before run other.0 p cell (is.runs.each n other.0 other.1).1.some after
            (is.runs.order n i other.0 run more other.1 at))
        | inr here ↦
            let index : n ≡ i = omega (arith, past, here) in
            let same : other.0 ≡ run = same_Some other.0 run (sym other.1 ∙ ap (slice_get table.runs) index ∙ at) in
            absurd (begins run p cell (subst (λ (r : Run). IsBefore p (first_cell r)) same after))
      ]
]

-- the component of a run is that of its cells
number_is : (regions : RegionTable) (table : TableOfRuns) (k i : ℕ) (p : Place) (run : Run) → IsTableOfRegions regions table
    → IsInRegion regions k p → slice_get table.runs i ≡ Some run → IsCellOf run p → slice_get table.components i ≡ Some (Some k)
number_is regions table k i p run is in_k at cell =
    let whole = is.runs.each i run at in
    let here = whole.1.cells p cell in
    let same : whole.0 ≡ k = same_Some whole.0 k (same_Some (Some whole.0) (Some k) (sym here ∙ in_k)) in
    let first = whole.1.cells (first_cell run) (refl, omega arith, whole.1.some) in
    (is.number i k run at).1 (subst (λ (n : ℕ). IsInRegion regions n (first_cell run)) same first)

pub owner_is : (regions : RegionTable) (table : TableOfRuns) (k : ℕ) (p : Place) (n : ℕ) → IsTableOfRegions regions table
    → IsInRegion regions k p → AreUpTo table.runs p n → (0 < n) × (slice_get table.components (n - 1) ≡ Some (Some k))
owner_is regions table k p n is in_k up =
    let found = is.runs.every k p in_k in
    let last = last_has regions table p n found.0 found.1 is up found.2 found.3 in
    let index : n - 1 ≡ found.0 = omega (arith, last) in
    (omega (arith, last), ap (slice_get table.components) index ∙ number_is regions table k found.0 p found.1 is in_k found.2 found.3)

-- what is told of a cell in a component is that component

pub owned : (regions : RegionTable) (p : Place) (told : Option ℕ) (k : ℕ) → (j : ℕ) × IsInRegion regions j p
    → ((j : ℕ) → IsInRegion regions j p → told ≡ Some j) → told ≡ Some k → IsInRegion regions k p
owned regions p told k known tells is = subst (λ (j : ℕ). IsInRegion regions j p) (same_Some known.0 k (sym (tells known.0 known.1) ∙ is)) known.1

pub is_owned : (regions : RegionTable) (p : Place) (told : Option ℕ) → (j : ℕ) × IsInRegion regions j p
    → ((j : ℕ) → IsInRegion regions j p → told ≡ Some j) → told ≢ None
is_owned regions p told known tells none = none-some known.0 (sym none ∙ tells known.0 known.1)
