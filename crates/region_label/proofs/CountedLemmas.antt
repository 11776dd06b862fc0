-- The sizes of components, counted run by run.
use Rattle.std.proofs.Common.{◌≡◌, ◌≢◌, ℕ, ◌+◌, ◌-◌, ◌<◌, inl, inr, List, [], ◌∷◌, ◌++◌, Some, None, get_or, length, replicate, set, ap, sym, ◌∙◌, subst, arith}
use Rattle.std.specs.Prelude.{Contains, option_map, slice_get, sum_by}
use Rattle.std.proofs.lemmas.Bool.{cases_eq}
use Rattle.std.proofs.lemmas.List.{get_or-replicate, get_or_default, length-map, length-replicate, length-set, same_lists}
use Rattle.std.proofs.lemmas.List.Elements.{Contains-append_left, Contains-push, Contains-push_cases}
use Rattle.std.proofs.lemmas.List.Quantifiers.{all_pairs_push}
use Rattle.std.proofs.lemmas.List.Sums.{sum_by_push}
use Rattle.std.proofs.lemmas.Option.{get_or_from_slice_get, same_Some, slice_get-map, slice_get_within}
use Rattle.cell_base.proofs.PlaceLemmas.{element_at}
use Rattle.region_label.specs.Run.{Run}
use Rattle.region_label.specs.RunTable.{IsTableOfRegions, TableOfRuns, regions_of, run_at}
use Rattle.region_label.specs.Inner.Sizes.{AreCounted, HasSizeBefore}
use Rattle.region_label.specs.Inner.Table.{AreSizesBelow}
use Rattle.region_label.proofs.CountLaws.{no_more}
use Rattle.region_label.proofs.ListLemmas.{slice_get-set_other, slice_get-set_same}
use Rattle.region_label.proofs.NumberingLemmas.{read_run}

pub counted_none : (table : TableOfRuns) → AreCounted table 0 (replicate (length table.lists) 0)
counted_none table = record {
  sized = length-replicate {A = ℕ} (length table.lists) 0;
  each = λ k n at.
      let within : k < length table.lists = omega (arith, slice_get_within (replicate (length table.lists) 0) k n at, length-replicate {A = ℕ} (length table.lists) 0) in (
        [],
        record {
          all = λ j. (λ member. absurd (omega (arith, member.1)), λ is. absurd (omega (arith, is.0)));
          once = λ i j d less inside. absurd (omega (arith, inside));
        },
        sym (get_or-replicate (length table.lists) k 0 0 within) ∙ get_or_from_slice_get (replicate (length table.lists) 0) k n 0 at,
      );
}

-- a run that is not in a component adds nothing to it
size_kept : (table : TableOfRuns) (i k n : ℕ) → ¬ (slice_get table.components i ≡ Some (Some k)) → HasSizeBefore table i k n → HasSizeBefore table (i + 1) k n
size_kept table i k n other had = (
  had.0,
  record {
    all = λ j. (
      λ member.
          let is = (had.1.all j).0 member in
          (omega (arith, is.0), is.1),
      λ is. elim (cases_eq j i) [
        | inl same ↦ absurd (other (subst (λ (m : ℕ). slice_get table.components m ≡ Some (Some k)) same is.1))
        | inr before ↦ (had.1.all j).1 (omega (arith, is.0, before), is.1)
      ],
    );
    once = had.1.once;
  },
  had.2,
)

-- a run of a component adds its cells
size_more : (table : TableOfRuns) (i k n : ℕ) (run : Run) → slice_get table.components i ≡ Some (Some k) → slice_get table.runs i ≡ Some run → HasSizeBefore table i k n → HasSizeBefore table (i + 1) k (n + (run.to - run.from))
size_more table i k n run number at had = (
  had.0 ++ i ∷ [],
  record {
    all = λ j. (
      λ member. elim (Contains-push_cases had.0 i j member) [
        | inl before ↦
            let is = (had.1.all j).0 before in
            (omega (arith, is.0), is.1)
        | inr same ↦ (omega (arith, same), subst (λ (m : ℕ). slice_get table.components m ≡ Some (Some k)) same number)
      ],
      λ is. elim (cases_eq j i) [
        | inl same ↦ subst (λ (m : ℕ). Contains (had.0 ++ i ∷ []) m) (sym same) (Contains-push had.0 i)
        | inr before ↦ Contains-append_left had.0 (i ∷ []) j ((had.1.all j).1 (omega (arith, is.0, before), is.1))
      ],
    );
    once = all_pairs_push (λ a b. a ≢ b) had.0 i had.1.once (λ m d within same.
        let is = (had.1.all (get_or had.0 m d)).0 (m, within, get_or_default had.0 m _ d within) in
        absurd (omega (arith, is.0, same)));
  },
  sum_by_push (λ j. (run_at table j).to - (run_at table j).from) had.0 i ∙ (let same = read_run table i run at in omega (arith, had.2, ap (λ (r : Run). r.to) same, ap (λ (r : Run). r.from) same)),
)

pub counted_skip : (table : TableOfRuns) (i : ℕ) (sizes : List ℕ) → slice_get table.components i ≡ Some None → AreCounted table i sizes → AreCounted table (i + 1) sizes
counted_skip table i sizes free counted = record {
  sized = counted.sized;
  each = λ k n at. size_kept table i k n (λ number. let no : ⊥ = cc (free, number) in no) (counted.each k n at);
}

pub counted_more : (table : TableOfRuns) (i k n : ℕ) (run : Run) (sizes : List ℕ) → slice_get table.components i ≡ Some (Some k) → slice_get table.runs i ≡ Some run → slice_get sizes k ≡ Some n → AreCounted table i sizes → AreCounted table (i + 1) (set sizes k (n + (run.to - run.from)))
counted_more table i k n run sizes number at size counted = record {
  sized = length-set sizes k (n + (run.to - run.from)) ∙ counted.sized;
  each = λ m part part_at. elim (cases_eq m k) [
    | inl same ↦
        let new = slice_get-set_same sizes k (n + (run.to - run.from)) (slice_get_within sizes k n size) in
        let is : n + (run.to - run.from) ≡ part = same_Some _ part (sym new ∙ ap (slice_get (set sizes k (n + (run.to - run.from)))) (sym same) ∙ part_at) in
        subst (λ (j : ℕ). HasSizeBefore table (i + 1) j part) (sym same) (subst (λ (s : ℕ). HasSizeBefore table (i + 1) k s) is (size_more table i k n run number at (counted.each k n size)))
    | inr other ↦
        let old : slice_get sizes m ≡ Some part = sym (slice_get-set_other sizes k m (n + (run.to - run.from)) other) ∙ part_at in
        size_kept table i m part (λ number_m.
        let is : k ≡ m = cc (number, number_m) in
        absurd (other (sym is))) (counted.each m part old)
  ];
}

-- the size of a component
size_of_list : (table : TableOfRuns) (k : ℕ) (list : List ℕ) → slice_get table.lists k ≡ Some list → slice_get (regions_of table).sizes k ≡ Some (sum_by (λ j. (run_at table j).to - (run_at table j).from) list)
size_of_list table k list at =
    slice_get-map (λ list. sum_by (λ i. (run_at table i).to - (run_at table i).from) list) table.lists k
    ∙ ap (option_map (λ list. sum_by (λ i. (run_at table i).to - (run_at table i).from) list)) at

-- what is counted so far is no more than all
part_small : (table : TableOfRuns) (i k n bound : ℕ) → IsTableOfRegions (regions_of table) table → AreSizesBelow bound table → k < length table.lists → HasSizeBefore table i k n → n < bound
part_small table i k n bound filled small within had =
    let list = element_at table.lists k within in
    let all = small k _ (size_of_list table k list.0 list.1) in
    let less = no_more (λ j. (run_at table j).to - (run_at table j).from) had.0 list.0 had.1.once (λ j member. ((filled.list k list.0 list.1).all j).1 ((had.1.all j).0 member).1) in
    omega (arith, all, less, had.2)

-- with the cells of the next run too
pub next_small : (table : TableOfRuns) (i k n bound : ℕ) (run : Run) (sizes : List ℕ) → IsTableOfRegions (regions_of table) table → AreSizesBelow bound table → slice_get table.components i ≡ Some (Some k) → slice_get table.runs i ≡ Some run → slice_get sizes k ≡ Some n → AreCounted table i sizes → n + (run.to - run.from) < bound
next_small table i k n bound run sizes filled small number at size counted =
    let within : k < length table.lists = omega (arith, slice_get_within sizes k n size, counted.sized) in
    part_small table (i + 1) k (n + (run.to - run.from)) bound filled small within (size_more table i k n run number at (counted.each k n size))

-- each component that a run is in has a size
pub size_within : (table : TableOfRuns) (i k : ℕ) (sizes : List ℕ) → IsTableOfRegions (regions_of table) table → slice_get table.components i ≡ Some (Some k) → AreCounted table i sizes → k < length sizes
size_within table i k sizes filled number counted = omega (arith, counted.sized, filled.count, filled.known i k number)

-- when all runs are counted, the sizes are known
pub counted_all : (table : TableOfRuns) (sizes : List ℕ) → IsTableOfRegions (regions_of table) table → AreCounted table (length table.runs) sizes → sizes ≡ (regions_of table).sizes
counted_all table sizes filled counted =
    let count : length sizes ≡ length (regions_of table).sizes = counted.sized ∙ sym (length-map table.lists (λ list. sum_by (λ i. (run_at table i).to - (run_at table i).from) list)) in
    same_lists sizes (regions_of table).sizes count (λ k d within.
    let size = element_at sizes k within in
    let list = element_at table.lists k (omega (arith, within, counted.sized)) in
    let had = counted.each k size.0 size.1 in
    let is = filled.list k list.0 list.1 in
    let cells = λ (j : ℕ). (run_at table j).to - (run_at table j).from in
    let up = no_more cells had.0 list.0 had.1.once (λ j member. (is.all j).1 ((had.1.all j).0 member).1) in
    let down = no_more cells list.0 had.0 is.once (λ j member.
    let number = (is.all j).0 member in
    (had.1.all j).1 (omega (arith, slice_get_within table.components j (Some k) number, filled.numbered), number)) in
    let same : size.0 ≡ sum_by cells list.0 = omega (arith, up, down, had.2) in
    get_or_from_slice_get sizes k size.0 d size.1 ∙ same ∙ sym (get_or_from_slice_get (regions_of table).sizes k _ d (size_of_list table k list.0 list.1)))
