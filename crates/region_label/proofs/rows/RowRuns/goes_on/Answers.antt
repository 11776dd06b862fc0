use Rattle.std.proofs.Common.{◌≡◌, ◌<◌, ◌∙◌, Some, ap, sym, arith}
use Rattle.std.specs.Prelude.{slice_get}
use Rattle.std.proofs.lemmas.Bool.{eqb-true}
use Rattle.std.proofs.lemmas.Int.{ints}
use Rattle.std.proofs.lemmas.Option.{slice_get-get_or}
use Rattle.region_label.specs.Run.{Run}
use Rattle.region_label.specs.Inner.Rows.{noted_units}
use Rattle.region_label.specs.declared.rows.RunNote.{RunNote}
use Rattle.region_label.proofs.NoteLemmas.{length-noted, noted_at, noted_same}
use Rattle.region_label.proofs.rows.RowRuns.goes_on.Goals as goal

pub returns-then-second-first-2 : goal.returns-then-second-first-2
returns-then-second-first-2 c = λ is.
    let rows = c.args.self.now in
    let notes = rows.notes.items in
    let sized = length-noted notes in
    let before : c.args.above < c.args.run = omega (arith, c.if-above-run.false) in
    let at_first : slice_get rows.runs.items c.args.above ≡ Some c.index-first.result.now = slice_get-get_or rows.runs.items c.args.above c.index-first.result.now (omega (arith, before, c.requires.run)) ∙ ap (λ (r : Run). Some r) (sym c.index-first.ensures) in
    let at_second : slice_get rows.runs.items c.args.run ≡ Some c.index-second.result.now = slice_get-get_or rows.runs.items c.args.run c.index-second.result.now c.requires.run ∙ ap (λ (r : Run). Some r) (sym c.index-second.ensures) in
    let first_value = noted_at notes c.args.above c.index.result.now (slice_get-get_or notes c.args.above c.index.result.now (omega (arith, before, c.requires.run, sized, c.requires.ordered.sized)) ∙ ap (λ (note : RunNote). Some note) (sym c.index.ensures)) in
    let second_value = noted_at notes c.args.run c.index-2.result.now (slice_get-get_or notes c.args.run c.index-2.result.now (omega (arith, c.requires.run, sized, c.requires.ordered.sized)) ∙ ap (λ (note : RunNote). Some note) (sym c.index-2.ensures)) in (
      before,
      record {
        first = c.index-first.result.now;
        second = c.index-second.result.now;
        value = c.index.result.now.units;
        at_first = at_first;
        at_second = at_second;
        first_value = first_value;
        second_value = noted_same (noted_units notes) c.args.run c.index-2.result.now.units c.index.result.now.units (omega (arith, ints, c.if-index.false)) second_value;
        row = omega (arith, c.if-second-first-2.true);
        from = omega (arith, c.if-second-first-2.true);
        to = eqb-true c.index-second.result.now.to c.index-first.result.now.to is;
      },
    )
