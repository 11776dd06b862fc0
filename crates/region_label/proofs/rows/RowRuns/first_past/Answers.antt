use Rattle.std.proofs.Common.{◌≡◌, ◌+◌, ◌-◌, ◌/◌, ◌∙◌, Some, ap, sym, arith}
use Rattle.std.specs.Prelude.{slice_get, slice_index}
use Rattle.std.proofs.lemmas.Grind.{common_steps}
use Rattle.std.proofs.lemmas.Option.{slice_get-get_or}
use Rattle.region_label.specs.Run.{Run}
use Rattle.region_label.specs.Inner.Rows.{noted_units}
use Rattle.region_label.proofs.SearchLemmas.{ends_no_later, row_between, starts_rise}
use Rattle.region_label.proofs.rows.RowRuns.first_past.Goals as goal

pub loop-low-init : goal.loop-low-init
loop-low-init c =
    let low : c.index.result.now ≡ slice_index c.args.self.now.starts.items c.args.row = grind (arith, common_steps) in
    let high : c.index-2.result.now ≡ slice_index c.args.self.now.starts.items (c.args.row + 1) = grind (arith, common_steps) in
    record {
      from = omega (arith, low);
      between = omega (arith, low, high, starts_rise c.args.self.now.ncols c.args.self.now.nrows c.args.self.now.runs.items (noted_units c.args.self.now.notes.items) c.args.self.now.starts.items c.args.row c.requires.ordered c.requires.row);
      to = omega (arith, high);
      before = λ i run at from to. absurd (omega (arith, low, from, to));
      past = λ i run at from to. absurd (omega (arith, high, from, to));
    }

pub loop-low-preserved-then-index-col : goal.loop-low-preserved-then-index-col
loop-low-preserved-then-index-col c =
    let middle = c.loop-low.low + (c.loop-low.high - c.loop-low.low) / 2 in
    let rows = c.args.self.now in
    let at : slice_get rows.runs.items middle ≡ Some c.index-in-loop-low.result.now = slice_get-get_or rows.runs.items middle c.index-in-loop-low.result.now (omega (arith, c.loop-low.invariant.to, c.requires.ordered.within (c.args.row + 1))) ∙ ap (λ (r : Run). Some r) (sym c.index-in-loop-low.ensures) in
    let here = row_between rows.ncols rows.nrows rows.runs.items (noted_units rows.notes.items) rows.starts.items c.args.row middle c.index-in-loop-low.result.now c.requires.ordered c.requires.row at (omega (arith, c.loop-low.invariant.from)) (omega (arith, c.loop-low.invariant.to)) in
    record {
      from = omega (arith, c.loop-low.invariant.from);
      between = omega arith;
      to = c.loop-low.invariant.to;
      before = λ i run at_i from to.
          let row = row_between rows.ncols rows.nrows rows.runs.items (noted_units rows.notes.items) rows.starts.items c.args.row i run c.requires.ordered c.requires.row at_i from (omega (arith, c.loop-low.invariant.to, to)) in
          omega (arith, ends_no_later rows.ncols rows.nrows rows.runs.items (noted_units rows.notes.items) rows.starts.items i middle run c.index-in-loop-low.result.now c.requires.ordered at_i at (row ∙ sym here) (omega (arith, to)));
      past = c.loop-low.invariant.past;
    }

pub loop-low-preserved : goal.loop-low-preserved
loop-low-preserved c =
    let middle = c.loop-low.low + (c.loop-low.high - c.loop-low.low) / 2 in
    let rows = c.args.self.now in
    let at : slice_get rows.runs.items middle ≡ Some c.index-in-loop-low.result.now = slice_get-get_or rows.runs.items middle c.index-in-loop-low.result.now (omega (arith, c.loop-low.invariant.to, c.requires.ordered.within (c.args.row + 1))) ∙ ap (λ (r : Run). Some r) (sym c.index-in-loop-low.ensures) in
    let here = row_between rows.ncols rows.nrows rows.runs.items (noted_units rows.notes.items) rows.starts.items c.args.row middle c.index-in-loop-low.result.now c.requires.ordered c.requires.row at (omega (arith, c.loop-low.invariant.from)) (omega (arith, c.loop-low.invariant.to)) in
    record {
      from = c.loop-low.invariant.from;
      between = omega arith;
      to = omega (arith, c.loop-low.invariant.to);
      before = c.loop-low.invariant.before;
      past = λ i run at_i from to.
          let row = row_between rows.ncols rows.nrows rows.runs.items (noted_units rows.notes.items) rows.starts.items c.args.row i run c.requires.ordered c.requires.row at_i (omega (arith, c.loop-low.invariant.from, from)) to in
          omega (arith, ends_no_later rows.ncols rows.nrows rows.runs.items (noted_units rows.notes.items) rows.starts.items middle i c.index-in-loop-low.result.now run c.requires.ordered at at_i (here ∙ sym row) (omega (arith, from)));
    }
