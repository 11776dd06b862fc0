use Rattle.std.proofs.Common.{◌≡◌, ◌+◌, ◌<◌, ◌≤◌, ℕ, length, refl, ap, subst, arith}
use Rattle.std.specs.Prelude.{slice_index}
use Rattle.std.proofs.lemmas.Grind.{common_steps}
use Rattle.std.proofs.lemmas.Option.{slice_get-get_or}
use Rattle.region_label.specs.Run.{Run}
use Rattle.region_label.specs.Inner.Notes.{BeginAt}
use Rattle.region_label.specs.Inner.Rows.{noted_units}
use Rattle.region_label.proofs.NoteLemmas.{kept_on, kept_order, length-noted}
use Rattle.region_label.proofs.NotedLemmas.{begins_at, noted_on, stands_first, stands_further, stands_on}
use Rattle.region_label.proofs.SearchLemmas.{row_between, starts_rise}
use Rattle.region_label.proofs.rows.RowRuns.note_row.Goals as goal

no_run : Run
no_run = record { row = 0; from = 0; to = 0 }

pub runs-init : goal.runs-init
runs-init c =
    let rows = c.args.self.now in
    let above = c.saturating_sub-row_above.result in
    let below = c.min-row_below.result in
    let in_above : above < rows.nrows = omega (arith, c.saturating_sub-row_above.ensures, c.requires.row) in
    let in_below : below < rows.nrows = omega (arith, c.min-row_below.ensures, c.requires.row) in
    let above_start : c.index-above.result.now ≡ slice_index rows.starts.items above = grind (arith, common_steps) in
    let below_start : c.index-below.result.now ≡ slice_index rows.starts.items below = grind (arith, common_steps) in
    let run_start : c.index-run.result.now ≡ slice_index rows.starts.items c.args.row = grind (arith, common_steps) in
    record {
      above = stands_first rows.runs.items rows.starts.items c.args.row above _ c.index-above.result.now above_start (starts_rise rows.ncols rows.nrows rows.runs.items (noted_units rows.notes.items) rows.starts.items above c.requires.ordered in_above);
      below = stands_first rows.runs.items rows.starts.items c.args.row below _ c.index-below.result.now below_start (starts_rise rows.ncols rows.nrows rows.runs.items (noted_units rows.notes.items) rows.starts.items below c.requires.ordered in_below);
      keeps = record { ncols = refl; nrows = refl; runs = refl; units = refl; starts = refl; blocks = refl };
      few = omega (arith, run_start, c.requires.few);
      noted = λ i note at less. c.requires.noted i note at (omega (arith, less, run_start));
    }

pub note-requires : goal.note-requires
note-requires c =
    let rows = c.args.self.now in
    let end : c.index-run-end.result.now ≡ slice_index rows.starts.items (c.args.row + 1) = grind (arith, common_steps) in
    omega (arith, end, c.requires.ordered.within (c.args.row + 1), c.requires.ordered.sized, length-noted rows.notes.items, length-noted c.runs.self.notes.items, ap length c.runs.invariant.keeps.units)

pub runs-preserved : goal.runs-preserved
runs-preserved c =
    let old = c.args.self.now in
    let rows = c.runs.self in
    let run = c.runs.run in
    let row = c.args.row in
    let row_above = c.saturating_sub-row_above.result in
    let row_below = c.min-row_below.result in
    let ordered = kept_order old rows c.runs.invariant.keeps c.requires.ordered in
    let nrows : rows.nrows ≡ old.nrows = c.runs.invariant.keeps.nrows in
    let in_row : row < rows.nrows = omega (arith, nrows, c.requires.row) in
    let in_above : row_above < rows.nrows = omega (arith, nrows, c.saturating_sub-row_above.ensures, c.requires.row) in
    let in_below : row_below < rows.nrows = omega (arith, nrows, c.min-row_below.ensures, c.requires.row) in
    let starts_same : (r : ℕ) → slice_index rows.starts.items r ≡ slice_index old.starts.items r = λ r. ap (λ v. slice_index v.items r) c.runs.invariant.keeps.starts in
    let run_start : c.index-run.result.now ≡ slice_index old.starts.items row = grind (arith, common_steps) in
    let run_end : c.index-run-end.result.now ≡ slice_index old.starts.items (row + 1) = grind (arith, common_steps) in
    let from : slice_index rows.starts.items row ≤ run = omega (arith, run_start, starts_same row, c.runs.auto.run) in
    let to : run < slice_index rows.starts.items (row + 1) = omega (arith, run_end, starts_same (row + 1), c.runs-test.true, c.runs.auto.run-end) in
    let at_run = slice_get-get_or rows.runs.items run no_run (omega (arith, to, ordered.within (row + 1))) in
    let here = row_between rows.ncols rows.nrows rows.runs.items (noted_units rows.notes.items) rows.starts.items row run _ ordered in_row at_run from to in
    let above = stands_further rows.ncols rows.nrows rows.runs.items (noted_units rows.notes.items) rows.starts.items row row_above run _ _ _ ordered at_run here c.runs.invariant.above c.first_reaching-above.ensures in
    let below = stands_further rows.ncols rows.nrows rows.runs.items (noted_units rows.notes.items) rows.starts.items row row_below run _ _ _ ordered at_run here c.runs.invariant.below c.first_reaching-below.ensures in
    let begins_above = begins_at rows.ncols rows.nrows rows.runs.items (noted_units rows.notes.items) rows.starts.items row row_above run _ _ _ ordered in_above at_run here above c.first_alike-first_above.ensures in
    let begins_below = begins_at rows.ncols rows.nrows rows.runs.items (noted_units rows.notes.items) rows.starts.items row row_below run _ _ _ ordered in_below at_run here below c.first_alike-first_below.ensures in
    let keeps = c.note.ensures.keeps in
    record {
      above = rw (keeps.runs, keeps.starts) (stands_on rows.runs.items rows.starts.items row row_above run _ above);
      below = rw (keeps.runs, keeps.starts) (stands_on rows.runs.items rows.starts.items row row_below run _ below);
      keeps = kept_on old rows c.note.new.self c.runs.invariant.keeps keeps;
      few = c.count_on-on.ensures;
      noted = noted_on rows c.note.new.self run _ _ keeps c.note.ensures.notes c.runs.invariant.noted (λ a r at_a next.
          let same : a.row ≡ row = row_between rows.ncols rows.nrows rows.runs.items (noted_units rows.notes.items) rows.starts.items row run a ordered in_row at_a from to in
          let is : row_above ≡ r = omega (arith, same, next, c.saturating_sub-row_above.ensures) in
          subst (λ (n : ℕ). BeginAt rows.runs.items (noted_units rows.notes.items) rows.starts.items run n c.first_alike-first_above.result) is begins_above) (λ a r at_a next within.
          let same : a.row ≡ row = row_between rows.ncols rows.nrows rows.runs.items (noted_units rows.notes.items) rows.starts.items row run a ordered in_row at_a from to in
          let is : row_below ≡ r = omega (arith, same, next, within, nrows, c.min-row_below.ensures) in
          subst (λ (n : ℕ). BeginAt rows.runs.items (noted_units rows.notes.items) rows.starts.items run n c.first_alike-first_below.result) is begins_below);
    }

pub returns-clause-few : goal.returns-clause-few
returns-clause-few c =
    let rows = c.args.self.now in
    let run_start : c.index-run.result.now ≡ slice_index rows.starts.items c.args.row = grind (arith, common_steps) in
    let run_end : c.index-run-end.result.now ≡ slice_index rows.starts.items (c.args.row + 1) = grind (arith, common_steps) in
    let rise = starts_rise rows.ncols rows.nrows rows.runs.items (noted_units rows.notes.items) rows.starts.items c.args.row c.requires.ordered c.requires.row in
    let same : slice_index c.runs.self.starts.items (c.args.row + 1) ≡ slice_index rows.starts.items (c.args.row + 1) = ap (λ v. slice_index v.items (c.args.row + 1)) c.runs.invariant.keeps.starts in
    omega (arith, same, run_start, run_end, rise, c.runs.invariant.few, c.runs-test.false, c.runs.auto.run, c.runs.auto.run-end)
