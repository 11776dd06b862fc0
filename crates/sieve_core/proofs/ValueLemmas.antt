-- Values that are written by runs.
use Rattle.std.proofs.Common.{◌≡◌, ◌≢◌, ℕ, ◌+◌, ◌<◌, ◌≤◌, inl, inr, Bool, List, [], Option, Some, None, length, get_or, refl, ap, sym, ◌∙◌, subst, arith}
use Rattle.std.specs.Prelude.{slice_get}
use Rattle.std.proofs.lemmas.Bool.{cases_eq, cases_lt}
use Rattle.std.proofs.lemmas.Option.{get_or_from_slice_get, same_Some, slice_get_within}
use Rattle.cell_base.specs.Raster.{Place, Raster, IsRaster, SetsPlace, value_at}
use Rattle.cell_base.proofs.OrderLemmas.{same_or_other}
use Rattle.cell_base.proofs.PlaceLemmas.{element_at, inside_from_value}
use Rattle.region_label.specs.Labelling.{RegionTable, IsInRegion, IsLabelling}
use Rattle.region_label.specs.Run.{Run, IsCellOf, first_cell}
use Rattle.region_label.specs.RunTable.{IsTableOfRegions, TableOfRuns}
use Rattle.region_label.proofs.ComponentLemmas.{component_itself}
use Rattle.region_label.proofs.LabellingLemmas.{value_of_region}
use Rattle.region_label.proofs.PaintLemmas.{same_run}
use Rattle.sieve_core.specs.Sieve.{HasRegionValue, TakesFrom, TakesValues}
use Rattle.sieve_core.specs.Inner.Targets.{AreTargets}
use Rattle.sieve_core.specs.Inner.Values.{AreAlike, AreFirstsIn, AreWritten, HasNewValue, WritesRun}
use Rattle.sieve_core.specs.declared.targets.Target.{Target}
use Rattle.sieve_core.specs.declared.targets.Target.TheVariants.{Unknown, UnderWay, Takes, Stays}
use Rattle.sieve_core.proofs.NeighbourLemmas.{cells_of_number, region_run}
use Rattle.sieve_core.proofs.SieveLemmas.{takes_once}

-- no cell yet
pub writes_none : {T : Type 0} (row from : ℕ) (value : T) (cells : Raster T) → IsRaster cells → WritesRun (record { row = row; from = from; to = from }) value cells cells
writes_none row from value cells shape = record {
  ncols = refl;
  nrows = refl;
  shape = shape;
  cells = λ p in_run. absurd (omega (arith, in_run.1, in_run.2));
  others = λ p. inr refl;
}

-- one cell more
pub writes_on : {T : Type 0} (row from to : ℕ) (value : T) (old now new : Raster T) → from ≤ to → WritesRun (record { row = row; from = from; to = to }) value old now → SetsPlace now new (row, to) value → WritesRun (record { row = row; from = from; to = to + 1 }) value old new
writes_on row from to value old now new order writes sets = record {
  ncols = sets.ncols ∙ writes.ncols;
  nrows = sets.nrows ∙ writes.nrows;
  shape = sets.shape;
  cells = λ p in_run. elim (same_or_other p (row, to)) [
    | inl same ↦ ap (value_at new) same ∙ sets.set
    | inr other ↦ sets.others p other ∙ writes.cells p (in_run.0, in_run.1, before p in_run other)
  ];
  others = λ p. elim (same_or_other p (row, to)) [
    | inl same ↦ inl (ap (λ (q : Place). q.0) same, at_least p same, at_most p same)
    | inr other ↦ elim (writes.others p) [
      | inl in_run ↦ inl (in_run.0, in_run.1, omega (arith, in_run.2))
      | inr kept ↦ inr (sets.others p other ∙ kept)
    ]
  ];
}
  where
    before : (p : Place) → (p.0 ≡ row) × (from ≤ p.1) × (p.1 < to + 1) → p ≢ (row, to) → p.1 < to
    before p in_run other = elim (cases_eq p.1 to) [
      | inl col ↦
          let in_row : p.0 ≡ row = in_run.0 in
          let same : (p.0, p.1) ≡ (row, to) = cc in
          absurd (other same)
      | inr apart ↦ omega (arith, in_run.2)
    ]

    at_least : (p : Place) → p ≡ (row, to) → from ≤ p.1
    at_least p same = omega (arith, ap (λ (q : Place). q.1) same)

    at_most : (p : Place) → p ≡ (row, to) → p.1 < to + 1
    at_most p same = omega (arith, ap (λ (q : Place). q.1) same)

-- nothing is written yet
pub written_none : {T : Type 0} (regions : RegionTable) (table : TableOfRuns) (targets : List Target) (cells : Raster T) → AreAlike regions cells → IsRaster cells → AreWritten regions table targets cells cells 0
written_none regions table targets cells alike shape = record {
  alike = alike;
  ncols = refl;
  nrows = refl;
  shape = shape;
  done = λ j k run p less. absurd (omega (arith, less));
  left = λ p none. refl;
}

-- no cell of a run is in one before it
not_before : (regions : RegionTable) (table : TableOfRuns) (i : ℕ) (run : Run) (p : Place) → IsTableOfRegions regions table → slice_get table.runs i ≡ Some run → IsCellOf run p → (j : ℕ) (other : Run) → j < i → slice_get table.runs j ≡ Some other → ¬ IsCellOf other p
not_before regions table i run p lent at in_run j other less at_j in_other =
    let same = same_run table.runs lent.runs.order i j run other p at at_j in_run in_other in
    omega (arith, same, less)

-- a run whose component keeps its values
pub written_kept : {T : Type 0} (regions : RegionTable) (table : TableOfRuns) (targets : List Target) (old new : Raster T) (i k : ℕ) (run : Run) → IsTableOfRegions regions table → AreFirstsIn regions → AreWritten regions table targets old new i → slice_get table.runs i ≡ Some run → slice_get table.components i ≡ Some (Some k) → ((m : ℕ) → slice_get targets k ≡ Some (Takes m) → (m ≡ k) × (k < length regions.firsts)) → AreWritten regions table targets old new (i + 1)
written_kept regions table targets old new i k run lent firsts written at is own = record {
  alike = written.alike;
  ncols = written.ncols;
  nrows = written.nrows;
  shape = written.shape;
  done = λ j n other p less at_j is_n in_other. elim (cases_eq j i) [
    | inr before ↦ written.done j n other p (omega arith) at_j is_n in_other
    | inl same ↦
        let same_run_is : other ≡ run = same_Some other run (sym at_j ∙ ap (slice_get table.runs) same ∙ at) in
        let same_number : n ≡ k = same_Some n k (same_Some (Some n) (Some k) (sym is_n ∙ ap (slice_get table.components) same ∙ is)) in
        let in_run : IsCellOf run p = subst (λ (r : Run). IsCellOf r p) same_run_is in_other in
        let kept : value_at new p ≡ value_at old p = written.left p (not_before regions table i run p lent at in_run) in
        record {
          taken = λ m takes.
              let mine = own m (ap (slice_get targets) (sym same_number) ∙ takes) in
              let first = element_at regions.firsts m (omega (arith, mine.0, mine.1)) in
              let in_k = cells_of_number regions table i k run p lent at is in_run in
              let first_in : IsInRegion regions k first.0 = subst (λ (j : ℕ). IsInRegion regions j first.0) mine.0 (firsts m first.0 first.1) in
              (first.0, first.1, sym (written.alike k first.0 p first_in in_k) ∙ sym kept);
          stays = λ stays. kept;
        }
  ];
  left = λ p none. written.left p (λ j other less. none j other (omega (arith, less)));
}

-- what the first cell of a component that takes its own value has, all along
first_kept : {T : Type 0} (connectivity : Bool) (regions : RegionTable) (table : TableOfRuns) (st : ℕ) (targets : List Target) (old new : Raster T) (i m : ℕ) (first : Place) → IsTableOfRegions regions table → AreFirstsIn regions → AreTargets connectivity regions st targets → AreWritten regions table targets old new i → TakesFrom connectivity regions st m m → slice_get regions.firsts m ≡ Some first → value_at new first ≡ value_at old first
first_kept connectivity regions table st targets old new i m first lent firsts are written own at =
    let found = region_run regions table m first lent (firsts m first at) in
    elim (cases_lt found.0 i) [
      | inr later ↦ written.left first (λ j run less at_j in_run.
          let same = same_run table.runs lent.runs.order j found.0 run found.1 first at_j found.2 in_run found.3 in
          omega (arith, same, less, later))
      | inl before ↦
          let new_value = written.done found.0 m found.1 first before found.2 found.4 found.3 in
          let target = element_at targets m (omega (arith, are.long, slice_get_within regions.firsts m first at)) in
          by_target target.0 target.1 new_value
    ]
  where
    by_target : (t : Target) → slice_get targets m ≡ Some t → HasNewValue regions targets old new m first → value_at new first ≡ value_at old first
    by_target Unknown is new_value = absurd (are.known m is)
    by_target UnderWay is new_value = absurd (are.idle m is)
    by_target Stays is new_value = new_value.stays is
    by_target (Takes n) is new_value =
        let same : n ≡ m = takes_once connectivity regions st m n m (are.taken m n is) own in
        let taken = new_value.taken n is in
        let same_first : taken.0 ≡ first = same_Some taken.0 first (sym taken.1 ∙ ap (slice_get regions.firsts) same ∙ at) in
        sym taken.2 ∙ ap (value_at old) same_first

pub takes_itself : (connectivity : Bool) (regions : RegionTable) (st k m : ℕ) → TakesFrom connectivity regions st k m → TakesFrom connectivity regions st m m
takes_itself connectivity regions st k m takes = ([], refl, omega (arith, takes.2), takes.3)

-- a run whose component takes the value of another
pub written_taken : {T : Type 0} (connectivity : Bool) (regions : RegionTable) (table : TableOfRuns) (st : ℕ) (targets : List Target) (old now new : Raster T) (i k m : ℕ) (run : Run) (first : Place) (value : T) → IsTableOfRegions regions table → AreFirstsIn regions → AreTargets connectivity regions st targets → AreWritten regions table targets old now i → slice_get table.runs i ≡ Some run → slice_get table.components i ≡ Some (Some k) → slice_get targets k ≡ Some (Takes m) → slice_get regions.firsts m ≡ Some first → value_at now first ≡ Some value → WritesRun run value now new → AreWritten regions table targets old new (i + 1)
written_taken {T} connectivity regions table st targets old now new i k m run first value lent firsts are written at is takes at_first read writes =
    let own = takes_itself connectivity regions st k m (are.taken k m takes) in
    let was : value_at old first ≡ Some value = sym (first_kept connectivity regions table st targets old now i m first lent firsts are written own at_first) ∙ read in
    record {
      alike = written.alike;
      ncols = writes.ncols ∙ written.ncols;
      nrows = writes.nrows ∙ written.nrows;
      shape = writes.shape;
      done = λ j n other p less at_j is_n in_other. elim (cases_eq j i) [
        | inr before ↦
            let had = written.done j n other p (omega arith) at_j is_n in_other in
            let kept : value_at new p ≡ value_at now p = elim (writes.others p) [
              | inr same ↦ same
              | inl in_run ↦
                  let same = same_run table.runs lent.runs.order j i other run p at_j at in_other in_run in
                  absurd (before same)
            ] in
            record {
              taken = λ l t.
                  let value_of = had.taken l t in
                  (value_of.0, value_of.1, value_of.2 ∙ sym kept);
              stays = λ t. kept ∙ had.stays t;
            }
        | inl same ↦
            let same_run_is : other ≡ run = same_Some other run (sym at_j ∙ ap (slice_get table.runs) same ∙ at) in
            let same_number : n ≡ k = same_Some n k (same_Some (Some n) (Some k) (sym is_n ∙ ap (slice_get table.components) same ∙ is)) in
            let in_run : IsCellOf run p = subst (λ (r : Run). IsCellOf r p) same_run_is in_other in
            let value_is : value_at new p ≡ Some value = writes.cells p in_run in
            let target : slice_get targets n ≡ Some (Takes m) = ap (slice_get targets) same_number ∙ takes in
            record {
              taken = λ l t.
                  let both : Takes m ≡ Takes l = same_Some (Takes m) (Takes l) (sym target ∙ t) in
                  let same_target : m ≡ l = cc in
                  (first, ap (slice_get regions.firsts) (sym same_target) ∙ at_first, was ∙ sym value_is);
              stays = λ t. absurd (let both : Takes m ≡ Stays = same_Some (Takes m) Stays (sym target ∙ t) in cc);
            }
      ];
      left = λ p none. elim (writes.others p) [
        | inr same ↦ same ∙ written.left p (λ j other less. none j other (omega (arith, less)))
        | inl in_run ↦ absurd (none i run (omega arith) at in_run)
      ];
    }

-- all runs are written
pub all_written : {T : Type 0} (connectivity : Bool) (regions : RegionTable) (table : TableOfRuns) (st : ℕ) (targets : List Target) (old new : Raster T) (n : ℕ) → IsTableOfRegions regions table → AreTargets connectivity regions st targets → ((k : ℕ) (p : Place) → IsInRegion regions k p → k < length regions.firsts) → AreWritten regions table targets old new n → length table.runs ≤ n → IsRaster old → TakesValues connectivity regions st old new
all_written {T} connectivity regions table st targets old new n lent are known written all shape =
    let new_value : (p : Place) (k : ℕ) → IsInRegion regions k p → HasNewValue regions targets old new k p = λ p k in_k.
    let found = region_run regions table k p lent in_k in
    written.done found.0 k found.1 p (omega (arith, slice_get_within table.runs found.0 found.1 found.2, all)) found.2 found.4 found.3 in
    record {
      aligned = record { first = shape; second = written.shape; ncols = written.ncols; nrows = written.nrows };
      taken = λ p k m in_k takes.
          let target = element_at targets k (omega (arith, known k p in_k, are.long)) in
          taken_by k m p target.0 target.1 takes (new_value p k in_k);
      stays = λ p k in_k none.
          let target = element_at targets k (omega (arith, known k p in_k, are.long)) in
          stays_by k p target.0 target.1 none (new_value p k in_k);
      not_valid = λ p none. written.left p (λ j run less at in_run.
          let each = lent.runs.each j run at in
          none each.0 (each.1.cells p in_run));
    }
  where
    taken_by : (k m : ℕ) (p : Place) (t : Target) → slice_get targets k ≡ Some t → TakesFrom connectivity regions st k m → HasNewValue regions targets old new k p → HasRegionValue old regions m (value_at new p)
    taken_by k m p Unknown is takes value = absurd (are.known k is)
    taken_by k m p UnderWay is takes value = absurd (are.idle k is)
    taken_by k m p Stays is takes value = absurd (are.none k m is takes)
    taken_by k m p (Takes l) is takes value = subst (λ (j : ℕ). HasRegionValue old regions j (value_at new p)) (takes_once connectivity regions st k l m (are.taken k l is) takes) (value.taken l is)

    stays_by : (k : ℕ) (p : Place) (t : Target) → slice_get targets k ≡ Some t → ((m : ℕ) → ¬ TakesFrom connectivity regions st k m) → HasNewValue regions targets old new k p → value_at new p ≡ value_at old p
    stays_by k p Unknown is none value = absurd (are.known k is)
    stays_by k p UnderWay is none value = absurd (are.idle k is)
    stays_by k p Stays is none value = value.stays is
    stays_by k p (Takes l) is none value = absurd (none l (are.taken k l is))

-- each run of a filled table has a number
pub run_number : (regions : RegionTable) (table : TableOfRuns) (i : ℕ) (run : Run) → IsTableOfRegions regions table → slice_get table.runs i ≡ Some run → (k : ℕ) × (slice_get table.components i ≡ Some (Some k))
run_number regions table i run lent at =
    let each = lent.runs.each i run at in
    (each.0, (lent.number i each.0 run at).1 (each.1.cells (first_cell run) (refl, omega arith, each.1.some)))

-- the number that was read
pub number_read : (regions : RegionTable) (table : TableOfRuns) (list : List (Option ℕ)) (i : ℕ) (run : Run) → IsTableOfRegions regions table → list ≡ table.components → slice_get table.runs i ≡ Some run → ((k : ℕ) → get_or list i None ≡ Some k → ⊥) → ⊥
number_read regions table list i run lent same at none =
    let number = run_number regions table i run lent at in
    none number.0 (get_or_from_slice_get list i (Some number.0) None (ap (λ (xs : List (Option ℕ)). slice_get xs i) same ∙ number.1))

-- a run whose component has no other target keeps its values
pub written_else : {T : Type 0} (regions : RegionTable) (table : TableOfRuns) (targets : List Target) (old new : Raster T) (i k : ℕ) (run : Run) (d : Target) → IsTableOfRegions regions table → AreFirstsIn regions → AreWritten regions table targets old new i → slice_get table.runs i ≡ Some run → slice_get table.components i ≡ Some (Some k) → ((m : ℕ) → get_or targets k d ≡ Takes m → ⊥) → AreWritten regions table targets old new (i + 1)
written_else regions table targets old new i k run d lent firsts written at is none =
    written_kept regions table targets old new i k run lent firsts written at is (λ m takes. absurd (none m (get_or_from_slice_get targets k (Takes m) d takes)))

pub written_own : {T : Type 0} (regions : RegionTable) (table : TableOfRuns) (targets : List Target) (old new : Raster T) (i k other : ℕ) (run : Run) → IsTableOfRegions regions table → AreFirstsIn regions → AreWritten regions table targets old new i → slice_get table.runs i ≡ Some run → slice_get table.components i ≡ Some (Some k) → slice_get targets k ≡ Some (Takes other) → other ≡ k → AreWritten regions table targets old new (i + 1)
written_own regions table targets old new i k other run lent firsts written at is target own =
    written_kept regions table targets old new i k run lent firsts written at is (λ m takes.
    let both : Takes m ≡ Takes other = same_Some (Takes m) (Takes other) (sym takes ∙ target) in
    let same : m ≡ other = cc in
    (same ∙ own, lent.known i k is))

-- the first cell of a component is inside
pub first_inside : (regions : RegionTable) (k : ℕ) (first : Place) → AreFirstsIn regions → IsRaster regions.numbers → slice_get regions.firsts k ≡ Some first → (first.0 < regions.numbers.nrows) × (first.1 < regions.numbers.ncols)
first_inside regions k first firsts shape at = inside_from_value regions.numbers first (Some k) shape (firsts k first at)

-- what a labelling tells of its cells

pub alike_of : {T : Type 0} (connectivity : Bool) (cells : Raster T) (valid : Raster Bool) (regions : RegionTable) → IsLabelling connectivity cells valid regions → AreAlike regions cells
alike_of connectivity cells valid regions is k p q in_p in_q = value_of_region connectivity cells valid regions is k p q in_p in_q

pub firsts_in : {T : Type 0} (connectivity : Bool) (cells : Raster T) (valid : Raster Bool) (regions : RegionTable) → IsLabelling connectivity cells valid regions → AreFirstsIn regions
firsts_in connectivity cells valid regions is k a at = (is.region k a a at).1 (component_itself connectivity cells valid a (is.first k a at).marked)
