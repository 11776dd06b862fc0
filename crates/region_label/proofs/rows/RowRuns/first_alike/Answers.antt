use Rattle.std.proofs.Common.{◌≡◌, ◌+◌, ◌∙◌, inl, inr, Some, ap, sym, arith}
use Rattle.std.specs.Prelude.{slice_get, slice_index}
use Rattle.std.proofs.lemmas.Bool.{cases_eq, cases_lt}
use Rattle.std.proofs.lemmas.Grind.{common_steps}
use Rattle.std.proofs.lemmas.Int.{ints}
use Rattle.std.proofs.lemmas.Option.{same_Some, slice_get-get_or}
use Rattle.region_label.specs.Run.{Run}
use Rattle.region_label.specs.Inner.Rows.{noted_units}
use Rattle.region_label.specs.declared.rows.RunNote.{RunNote}
use Rattle.region_label.proofs.NoteLemmas.{length-noted, noted_at}
use Rattle.region_label.proofs.SearchLemmas.{begins_no_earlier, row_between}
use Rattle.region_label.proofs.rows.RowRuns.first_alike.Goals as goal

pub runs-preserved : goal.runs-preserved
runs-preserved c =
    let rows = c.args.self.now in
    let notes = rows.notes.items in
    let sized = length-noted notes in
    let end = c.requires.ordered.within (c.args.row + 1) in
    let at_end : c.index-end.result.now ≡ slice_index rows.starts.items (c.args.row + 1) = grind (arith, common_steps) in
    let at_run = noted_at notes c.args.run c.index-2.result.now (slice_get-get_or notes c.args.run c.index-2.result.now (omega (arith, c.requires.run, sized, c.requires.ordered.sized)) ∙ ap (λ (note : RunNote). Some note) (sym c.index-2.ensures)) in
    let at_here = noted_at notes c.runs.at c.index-in-runs-2.result.now (slice_get-get_or notes c.runs.at c.index-in-runs-2.result.now (omega (arith, end, at_end, c.runs-test.true, sized, c.requires.ordered.sized)) ∙ ap (λ (note : RunNote). Some note) (sym c.index-in-runs-2.ensures)) in
    record {
      from = omega (arith, c.runs.invariant.from);
      to = omega (arith, at_end, c.runs-test.true);
      before = λ j from to same. elim (cases_eq j c.runs.at) [
        | inl is ↦
            let units : c.index-in-runs-2.result.now.units ≡ c.index-2.result.now.units = same_Some c.index-in-runs-2.result.now.units c.index-2.result.now.units (sym at_here ∙ ap (slice_get (noted_units notes)) (sym is) ∙ same ∙ at_run) in
            omega (arith, ints, c.if-index-units.false, units)
        | inr other ↦ c.runs.invariant.before j from (omega (arith, to, other)) same
      ];
    }

pub returns-else-index-last : goal.returns-else-index-last
returns-else-index-last c =
    let rows = c.args.self.now in
    let end = c.requires.ordered.within (c.args.row + 1) in
    let at_end : c.index-end.result.now ≡ slice_index rows.starts.items (c.args.row + 1) = grind (arith, common_steps) in
    let at_run : slice_get rows.runs.items c.args.run ≡ Some c.index.result.now = slice_get-get_or rows.runs.items c.args.run c.index.result.now c.requires.run ∙ ap (λ (r : Run). Some r) (sym c.index.ensures) in
    let at_here : slice_get rows.runs.items c.runs.at ≡ Some c.index-in-runs.result.now = slice_get-get_or rows.runs.items c.runs.at c.index-in-runs.result.now (omega (arith, end, at_end, c.runs-test.true)) ∙ ap (λ (r : Run). Some r) (sym c.index-in-runs.ensures) in
    let here = row_between rows.ncols rows.nrows rows.runs.items (noted_units rows.notes.items) rows.starts.items c.args.row c.runs.at c.index-in-runs.result.now c.requires.ordered c.requires.row at_here (omega (arith, c.requires.from, c.runs.invariant.from)) (omega (arith, at_end, c.runs-test.true)) in
    record {
      from = omega (arith, at_end, c.runs.invariant.from, c.runs-test.true);
      to = omega (arith, at_end);
      before = λ j a b at_a at_b from to same. elim (cases_lt j c.runs.at) [
        | inl before ↦ absurd (c.runs.invariant.before j from before same)
        | inr past ↦
            let row = row_between rows.ncols rows.nrows rows.runs.items (noted_units rows.notes.items) rows.starts.items c.args.row j b c.requires.ordered c.requires.row at_b (omega (arith, c.requires.from, from)) (omega (arith, at_end, to)) in
            let later = begins_no_earlier rows.ncols rows.nrows rows.runs.items (noted_units rows.notes.items) rows.starts.items c.runs.at j c.index-in-runs.result.now b c.requires.ordered at_here at_b (here ∙ sym row) past in
            let is : c.index.result.now ≡ a = same_Some c.index.result.now a (sym at_run ∙ at_a) in
            omega (arith, later, c.if-index-last.false, ap (λ (r : Run). r.to) is)
      ];
    }
