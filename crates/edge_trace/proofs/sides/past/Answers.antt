use Rattle.std.proofs.Common.{◌≡◌, inl, inr, refl, sym, ap, ◌∙◌, arith}
use Rattle.std.specs.Prelude.{slice_get}
use Rattle.std.proofs.lemmas.Bool.{cases_eq}
use Rattle.std.proofs.lemmas.Option.{same_Some}
use Rattle.region_label.specs.Run.{Run}
use Rattle.edge_trace.proofs.StretchLemmas.{read_run}
use Rattle.edge_trace.proofs.sides.past.Goals as goal

pub loop-at-preserved : goal.loop-at-preserved
loop-at-preserved c =
    let at_run = read_run c.runs-runs.result.now c.args.table.now.runs c.loop-at.at c.runs-runs.ensures.value (omega (arith, c.loop-at-test.true, c.requires.within)) in
    record {
      from = omega (arith, c.loop-at.invariant.from);
      to = omega (arith, c.loop-at-test.true);
      early = λ i run from less at. elim (cases_eq i c.loop-at.at) [
        | inl same ↦
            let is : run ≡ _ = same_Some run _ (sym at ∙ ap (slice_get c.args.table.now.runs) same ∙ at_run) in
            omega (arith, ap (λ (r : Run). r.to) is, c.if-runs-at.true)
        | inr other ↦ c.loop-at.invariant.early i run from (omega (arith, less, other)) at
      ];
    }

pub returns-else-runs-at : goal.returns-else-runs-at
returns-else-runs-at c =
    let at_run = read_run c.runs-runs.result.now c.args.table.now.runs c.loop-at.at c.runs-runs.ensures.value (omega (arith, c.loop-at-test.true, c.requires.within)) in
    record {
      row = refl;
      end = refl;
      from = c.loop-at.invariant.from;
      order = c.loop-at.invariant.to;
      early = c.loop-at.invariant.early;
      late = λ run some at.
          let is : run ≡ _ = same_Some run _ (sym at ∙ at_run) in
          omega (arith, ap (λ (r : Run). r.to) is, c.if-runs-at.false);
    }
