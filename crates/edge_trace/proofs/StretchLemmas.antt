-- Where runs bound their components.
use Rattle.std.proofs.Common.{◌≡◌, ℕ, ◌+◌, ◌-◌, ◌<◌, ◌≤◌, ◌⊎◌, ◌↔◌, inl, inr, Bool, true, false, List, Option, Some, None, length, get_or, not, refl, ap, sym, ◌∙◌, subst, arith}
use Rattle.std.specs.Prelude.{◌==◌, nat_eq, slice_get}
use Rattle.std.proofs.lemmas.Bool.{cases_eq, cases_lt, eq-eqb, eqb-true, false≢true}
use Rattle.std.proofs.lemmas.Option.{same_Some, slice_get-get_or}
use Rattle.cell_base.specs.Raster.{Place, IsRaster}
use Rattle.cell_base.proofs.PlaceLemmas.{element_at, inside_from_value}
use Rattle.cell_base.proofs.ListDeciders.{not_true}
use Rattle.region_label.specs.Labelling.{RegionTable, IsInRegion}
use Rattle.region_label.specs.Run.{Run, IsCellOf, IsRunIn, first_cell}
use Rattle.region_label.specs.RunTable.{AreInside, BeginsRow, IsTableOfRegions, TableOfRuns}
use Rattle.edge_trace.specs.Inner.Sides.{IsSide}
use Rattle.edge_trace.specs.Inner.Finding.{AreAhead, AreAround, HasRunTo, IsStretch, SkipsTo, Tells}
use Rattle.edge_trace.specs.declared.sides.Ahead.{Ahead}
use Rattle.edge_trace.specs.declared.sides.Around.{Around}
use Rattle.edge_trace.specs.declared.sides.Stretch.{Stretch}
use Rattle.edge_trace.proofs.GrowLemmas.{one_region}

pub read_run : (found runs : List Run) (i : ℕ) → found ≡ runs → i < length runs → slice_get runs i ≡ Some (get_or found i (record { row = 0; from = 0; to = 0 }))
read_run found runs i same within = slice_get-get_or runs i (record { row = 0; from = 0; to = 0 }) within ∙ ap (λ (xs : List Run). Some (get_or xs i (record { row = 0; from = 0; to = 0 }))) (sym same)

pub read_number : (found numbers : List (Option ℕ)) (i : ℕ) (o : Option ℕ) → found ≡ numbers → i < length numbers → get_or found i None ≡ o → slice_get numbers i ≡ Some o
read_number found numbers i o same within is = slice_get-get_or numbers i None within ∙ ap (λ (x : Option ℕ). Some x) (ap (λ (xs : List (Option ℕ)). get_or xs i None) (sym same) ∙ is)

at_place : (regions : RegionTable) (k r c : ℕ) (p : Place) → p.0 ≡ r → p.1 ≡ c → IsInRegion regions k p → IsInRegion regions k (r, c)
at_place regions k r c p row col is =
    let same : (p.0, p.1) ≡ (r, c) = cc in
    subst (IsInRegion regions k) same is

-- the run with a cell of a component, and its number
pub run_of : (regions : RegionTable) (table : TableOfRuns) (k : ℕ) (p : Place) → IsTableOfRegions regions table → IsInRegion regions k p → (i : ℕ) × (run : Run) × (slice_get table.runs i ≡ Some run) × IsCellOf run p
run_of regions table k p lent inside = lent.runs.every k p inside

-- a run is one of the component whose number it has
pub run_in : (regions : RegionTable) (table : TableOfRuns) (i k : ℕ) (run : Run) → IsTableOfRegions regions table → slice_get table.runs i ≡ Some run → slice_get table.components i ≡ Some (Some k) → IsRunIn (IsInRegion regions k) run
run_in regions table i k run lent at number =
    let each = lent.runs.each i run at in
    let first = each.1.cells (first_cell run) (refl, omega arith, each.1.some) in
    let owner : each.0 ≡ k = one_region regions each.0 k (first_cell run) first ((lent.number i k run at).0 number) in
    subst (λ (n : ℕ). IsRunIn (IsInRegion regions n) run) owner each.1

-- each run has a number
pub run_numbered : (regions : RegionTable) (table : TableOfRuns) (i : ℕ) (run : Run) → IsTableOfRegions regions table → slice_get table.runs i ≡ Some run → (k : ℕ) × (slice_get table.components i ≡ Some (Some k))
run_numbered regions table i run lent at =
    let each = lent.runs.each i run at in
    let first = each.1.cells (first_cell run) (refl, omega arith, each.1.some) in
    (each.0, (lent.number i each.0 run at).1 first)

run_some : (regions : RegionTable) (table : TableOfRuns) (i : ℕ) (run : Run) → IsTableOfRegions regions table → slice_get table.runs i ≡ Some run → run.from < run.to
run_some regions table i run lent at = (lent.runs.each i run at).1.some

-- the runs of a row
pub ahead_in_row : (table : TableOfRuns) (row start end : ℕ) (ahead : Ahead) → BeginsRow table row start → BeginsRow table (row + 1) end → start ≤ length table.runs → end ≤ length table.runs → ahead.row ≡ row → ahead.at ≡ start → ahead.end ≡ end → AreAhead table 0 ahead
ahead_in_row table row start end ahead first last within_start within_end is_row is_at is_end = record {
  order = elim (cases_lt end start) [
    | inr rise ↦ omega (arith, rise, is_at, is_end)
    | inl falls ↦
        let run = element_at table.runs end (omega (arith, falls, within_start)) in
        absurd (omega (arith, (last end run.0 run.1).1 (omega (arith, (first end run.0 run.1).0 falls))))
  ];
  within = omega (arith, within_end, is_end);
  row = λ i run from to at.
      let upper = (last i run at).0 (omega (arith, to, is_end)) in
      elim (cases_lt run.row row) [
        | inl early ↦ absurd (omega (arith, (first i run at).1 early, from, is_at))
        | inr late ↦ omega (arith, upper, late, is_row)
      ];
  all = λ i run at here ends. (
    elim (cases_lt i start) [
      | inl early ↦ absurd (omega (arith, (first i run at).0 early, here, is_row))
      | inr late ↦ omega (arith, late, is_at)
    ],
    omega (arith, (last i run at).1 (omega (arith, here, is_row)), is_end),
  );
}

-- the row after the last has none
pub none_ahead : (table : TableOfRuns) (ahead : Ahead) → AreInside table → ahead.row ≡ table.nrows → ahead.at ≡ length table.runs → ahead.end ≡ length table.runs → AreAhead table 0 ahead
none_ahead table ahead inside is_row is_at is_end = record {
  order = omega (arith, is_at, is_end);
  within = omega (arith, is_end);
  row = λ i run from to at. absurd (omega (arith, from, to, is_at, is_end));
  all = λ i run at here ends. absurd (omega (arith, (inside.inside i run at).0, here, is_row));
}

-- runs that end before a later column can be passed
pub ahead_past : (table : TableOfRuns) (col next : ℕ) (old new : Ahead) → AreAhead table col old → col ≤ next → SkipsTo table.runs next old new → AreAhead table next new
ahead_past table col next old new ahead further skips = record {
  order = skips.order;
  within = omega (arith, ahead.within, skips.end);
  row = λ i run from to at. ahead.row i run (omega (arith, from, skips.from)) (omega (arith, to, skips.end)) at ∙ sym skips.row;
  all = λ i run at here ends.
      let was = ahead.all i run at (here ∙ skips.row) (omega (arith, ends, further)) in (
        elim (cases_lt i new.at) [
          | inl early ↦ absurd (omega (arith, skips.early i run was.0 early at, ends))
          | inr late ↦ late
        ],
        omega (arith, was.1, skips.end),
      );
}

-- where the first run that is left ends at a column or later, at most that run is passed there
pub step_skips : (table : TableOfRuns) (col : ℕ) (ahead : Ahead) (run : Run) (at : ℕ) → AreInside table → AreAhead table col ahead → HasRunTo table.runs col ahead → ahead.at < ahead.end → slice_get table.runs ahead.at ≡ Some run → ((run.to ≤ col) × (at ≡ ahead.at + 1)) ⊎ ((col < run.to) × (at ≡ ahead.at)) → SkipsTo table.runs col ahead (record { row = ahead.row; at = at; end = ahead.end })
step_skips table col ahead run at inside are near some here (inl passes) = record {
  row = refl;
  end = refl;
  from = omega (arith, passes.1);
  order = omega (arith, passes.1, some);
  early = λ i other from less at_i.
      let index : i ≡ ahead.at = omega (arith, from, less, passes.1) in
      let is : other ≡ run = same_Some other run (sym at_i ∙ ap (slice_get table.runs) index ∙ here) in
      omega (arith, ap (λ (r : Run). r.to) is, passes.0);
  late = λ next more at_next.
      let within = near run some here in
      let lies = inside.inside at next at_next in
      let row : run.row ≡ ahead.row = are.row ahead.at run (omega arith) some here in
      let row_next : next.row ≡ ahead.row = are.row at next (omega (arith, passes.1)) more at_next in
      elim (inside.order ahead.at at run next (omega (arith, passes.1)) here at_next) [
        | inl above ↦ absurd (omega (arith, above, row, row_next))
        | inr beside ↦ omega (arith, beside.1, lies.1, within)
      ];
}
step_skips table col ahead run at inside are near some here (inr stays) = record {
  row = refl;
  end = refl;
  from = omega (arith, stays.1);
  order = omega (arith, stays.1, some);
  early = λ i other from less at_i. absurd (omega (arith, from, less, stays.1));
  late = λ next more at_next.
      let is : next ≡ run = same_Some next run (sym at_next ∙ ap (slice_get table.runs) stays.1 ∙ here) in
      omega (arith, ap (λ (r : Run). r.to) is, stays.0);
}

pub ahead_on : (table : TableOfRuns) (col next : ℕ) (ahead : Ahead) → AreAhead table col ahead → col ≤ next → AreAhead table next ahead
ahead_on table col next ahead are further = record {
  order = are.order;
  within = are.within;
  row = are.row;
  all = λ i run at here ends. are.all i run at here (omega (arith, ends, further));
}

pub around_past : (table : TableOfRuns) (row from col : ℕ) (around : Around) (above below : Ahead) → AreAround table row from around → from ≤ col → SkipsTo table.runs col around.above above → SkipsTo table.runs col around.below below → AreAround table row col (record { above = above; below = below })
around_past table row from col around above below are further skips_above skips_below = record {
  above = ahead_past table from col around.above above are.above further skips_above;
  below = ahead_past table from col around.below below are.below further skips_below;
  below_row = skips_below.row ∙ are.below_row;
  above_row = λ other next. skips_above.row ∙ are.above_row other next;
  first_row = λ first. skips_above.row ∙ are.first_row first;
}

pub around_on : (table : TableOfRuns) (row col next : ℕ) (around : Around) → AreAround table row col around → col ≤ next → AreAround table row next around
around_on table row col next around are further = record {
  above = ahead_on table col next around.above are.above further;
  below = ahead_on table col next around.below are.below further;
  below_row = are.below_row;
  above_row = are.above_row;
  first_row = are.first_row;
}

-- no run is left, so no cell of a component
pub open_end : (regions : RegionTable) (table : TableOfRuns) (ahead : Ahead) (k col c : ℕ) → IsTableOfRegions regions table → AreAhead table col ahead → ahead.at ≡ ahead.end → col ≤ c → ¬ IsInRegion regions k (ahead.row, c)
open_end regions table ahead k col c lent are none from inside =
    let run = run_of regions table k (ahead.row, c) lent inside in
    let left = are.all run.0 run.1 run.2 (sym run.3.0) (omega (arith, run.3.2, from)) in
    omega (arith, left.0, left.1, none)

-- before the first run that is left lies none
pub open_before : (regions : RegionTable) (table : TableOfRuns) (ahead : Ahead) (run : Run) (k col c : ℕ) → IsTableOfRegions regions table → AreAhead table col ahead → ahead.at < ahead.end → slice_get table.runs ahead.at ≡ Some run → col ≤ c → c < run.from → ¬ IsInRegion regions k (ahead.row, c)
open_before regions table ahead run k col c lent are some at from to inside =
    let found = run_of regions table k (ahead.row, c) lent inside in
    let left = are.all found.0 found.1 found.2 (sym found.3.0) (omega (arith, found.3.2, from)) in
    elim (cases_eq ahead.at found.0) [
      | inl same ↦
          let is : run ≡ found.1 = same_Some run found.1 (sym at ∙ ap (slice_get table.runs) same ∙ found.2) in
          omega (arith, ap (λ (r : Run). r.from) is, found.3.1, to)
      | inr other ↦
          let row : run.row ≡ ahead.row = are.row ahead.at run (omega arith) some at in
          elim (lent.runs.order ahead.at found.0 run found.1 (omega (arith, left.0, other)) at found.2) [
            | inl above ↦ omega (arith, above, row, found.3.0)
            | inr before ↦ omega (arith, before.1, found.3.1, to, run_some regions table ahead.at run lent at)
          ]
    ]

-- the cells of a run are in its component
pub closed_in : (regions : RegionTable) (table : TableOfRuns) (ahead : Ahead) (run : Run) (k c : ℕ) → IsTableOfRegions regions table → slice_get table.runs ahead.at ≡ Some run → slice_get table.components ahead.at ≡ Some (Some k) → run.row ≡ ahead.row → run.from ≤ c → c < run.to → IsInRegion regions k (ahead.row, c)
closed_in regions table ahead run k c lent at number row from to = (run_in regions table ahead.at k run lent at number).cells (ahead.row, c) (sym row, from, to)

not_false : (a : Bool) → not a ≡ false → a ≡ true
not_false true is = refl
not_false false is = absurd (false≢true (sym is))

-- up to the end of a run the row is free of a component exactly where the run is another's
pub run_stretch : (regions : RegionTable) (table : TableOfRuns) (ahead : Ahead) (run : Run) (k other col : ℕ) → IsTableOfRegions regions table → slice_get table.runs ahead.at ≡ Some run → slice_get table.components ahead.at ≡ Some (Some other) → run.row ≡ ahead.row → run.from ≤ col → col < run.to → IsStretch regions ahead.row k col (record { free = not (nat_eq other k); to = run.to })
run_stretch regions table ahead run k other col lent at number row begun more = record {
  more = more;
  free = λ differ c from to inside.
      let there = closed_in regions table ahead run other c lent at number row (omega (arith, begun, from)) to in
      not_true (nat_eq other k) differ (eq-eqb other k (one_region regions other k (ahead.row, c) there inside));
  full = λ same c from to.
      let owner : other ≡ k = eqb-true other k (not_false (nat_eq other k) same) in
      subst (λ (n : ℕ). IsInRegion regions n (ahead.row, c)) owner (closed_in regions table ahead run other c lent at number row (omega (arith, begun, from)) to);
}

-- a row without runs ahead of a column is free of each component
pub free_stretch : (regions : RegionTable) (row k col to : ℕ) → col < to → ((c : ℕ) → col ≤ c → c < to → ¬ IsInRegion regions k (row, c)) → IsStretch regions row k col (record { free = true; to = to })
free_stretch regions row k col to more none = record { more = more; free = λ is. none; full = λ isnt. absurd (false≢true (sym isnt)) }

-- the left and right sides of the cells of a run

pub left_tells : (regions : RegionTable) (k : ℕ) (run : Run) (col : ℕ) → IsRunIn (IsInRegion regions k) run → run.from ≤ col → col < run.to → ((col == run.from) ≡ true) ↔ IsSide regions k (run.row, col) 0
left_tells regions k run col is from to = (
  λ first.
      let here : col ≡ run.from = eqb-true col run.from first in
      record {
        few = omega arith;
        inside = is.cells (run.row, col) (refl, from, to);
        beyond = λ other beside inside. is.left other.1 (omega (arith, beside.1, here)) (at_place regions k run.row other.1 other beside.0 refl inside);
      },
  λ side. elim (cases_eq col run.from) [
    | inl same ↦ eq-eqb col run.from same
    | inr other ↦ absurd (side.beyond (run.row, col - 1) (refl, omega (arith, other, from)) (is.cells (run.row, col - 1) (refl, omega (arith, other, from), omega (arith, to))))
  ],
)

pub right_tells : (regions : RegionTable) (k : ℕ) (run : Run) (col next : ℕ) → IsRunIn (IsInRegion regions k) run → run.from ≤ col → col < run.to → col + 1 ≡ next → ((next == run.to) ≡ true) ↔ IsSide regions k (run.row, col) 2
right_tells regions k run col next is from to follows = (
  λ last.
      let here : next ≡ run.to = eqb-true next run.to last in
      record {
        few = omega arith;
        inside = is.cells (run.row, col) (refl, from, to);
        beyond = λ other beside inside. is.right (at_place regions k run.row run.to other beside.0 (omega (arith, beside.1, here, follows)) inside);
      },
  λ side. elim (cases_eq next run.to) [
    | inl same ↦ eq-eqb next run.to same
    | inr other ↦ absurd (side.beyond (run.row, next) (refl, sym follows) (is.cells (run.row, next) (refl, omega (arith, from, follows), omega (arith, to, follows, other))))
  ],
)

true_or_false : (b : Bool) → (b ≡ true) ⊎ (b ≡ false)
true_or_false true = inl refl
true_or_false false = inr refl

-- the upper and lower sides, by the stretches of the rows beside

pub below_tells : (regions : RegionTable) (table : TableOfRuns) (k : ℕ) (run : Run) (col to : ℕ) (around : Around) (stretch : Stretch) → IsRunIn (IsInRegion regions k) run → run.from ≤ col → to ≤ run.to → to ≤ stretch.to → AreAround table run.row col around → IsStretch regions around.below.row k col stretch → Tells regions k run.row 1 col to stretch.free
below_tells regions table k run col to around stretch is from within short are tells c c_from c_to = (
  λ free. record {
    few = omega arith;
    inside = is.cells (run.row, c) (refl, omega (arith, from, c_from), omega (arith, c_to, within));
    beyond = λ other beside inside. tells.free free c c_from (omega (arith, c_to, short)) (at_place regions k around.below.row c other (beside.0 ∙ sym are.below_row) beside.1 inside);
  },
  λ side. elim (true_or_false stretch.free) [
    | inl free ↦ free
    | inr full ↦ absurd (side.beyond (around.below.row, c) (are.below_row, refl) (tells.full full c c_from (omega (arith, c_to, short))))
  ],
)

pub above_tells : (regions : RegionTable) (table : TableOfRuns) (k : ℕ) (run : Run) (col to : ℕ) (around : Around) (stretch : Stretch) → IsTableOfRegions regions table → IsRaster regions.numbers → IsRunIn (IsInRegion regions k) run → run.from ≤ col → to ≤ run.to → to ≤ stretch.to → AreAround table run.row col around → IsStretch regions around.above.row k col stretch → Tells regions k run.row 3 col to stretch.free
above_tells regions table k run col to around stretch lent shape is from within short are tells c c_from c_to = (
  λ free. record {
    few = omega arith;
    inside = is.cells (run.row, c) (refl, omega (arith, from, c_from), omega (arith, c_to, within));
    beyond = λ other beside inside. tells.free free c c_from (omega (arith, c_to, short)) (at_place regions k around.above.row c other (sym (are.above_row other.0 beside.0)) beside.1 inside);
  },
  λ side. elim (true_or_false stretch.free) [
    | inl free ↦ free
    | inr full ↦
        let there = tells.full full c c_from (omega (arith, c_to, short)) in
        elim (cases_eq run.row 0) [
          | inl first ↦
              let in_grid = inside_from_value regions.numbers (around.above.row, c) (Some k) shape there in
              absurd (omega (arith, in_grid.0, are.first_row first, lent.nrows))
          | inr later ↦
              let row : run.row - 1 + 1 ≡ run.row = omega (arith, later) in
              absurd (side.beyond (around.above.row, c) ((let above : around.above.row + 1 ≡ run.row = omega (arith, are.above_row (run.row - 1) row, row) in above), refl) there)
        ]
  ],
)
