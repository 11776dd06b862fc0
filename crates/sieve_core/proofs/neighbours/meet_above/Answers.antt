use Rattle.std.proofs.Common.{◌≡◌, ◌+◌, ◌<◌, ◌≤◌, ℕ, get_or, inl, inr, sym, ap, ◌∙◌, subst, not, arith}
use Rattle.std.specs.Prelude.{nat_eq}
use Rattle.std.proofs.lemmas.Bool.{cases_eq, cases_lt}
use Rattle.std.proofs.lemmas.Option.{same_Some}
use denote.Param.{value_of, number}
use Rattle.region_label.specs.Run.{Run}
use Rattle.cell_base.specs.Steps.{step_reach}
use Rattle.sieve_core.specs.Inner.Neighbours.{HaveMet}
use Rattle.sieve_core.proofs.NeighbourLemmas.{improves_then, met_kept, near_of_next, read_run, too_late}
use Rattle.sieve_core.proofs.neighbours.meet_above.Goals as goal

pub returns-then-runs-j-clause-met : goal.returns-then-runs-j-clause-met
returns-then-runs-j-clause-met g c =
    let table = c.args.table.now in
    let at_late = read_run c.runs-runs.result.now table.runs c.loop-j.j c.runs-runs.ensures.value (omega (arith, c.requires.end)) in
    let at_run = read_run c.runs-runs.result.now table.runs c.args.i c.runs-runs.ensures.value c.requires.i in
    λ j a b at_a at_b within comes. elim (cases_lt j c.loop-j.j) [
      | inl before ↦ c.loop-j.invariant.met j a b at_a at_b (within.0, before) comes
      | inr past ↦
          let row = (c.requires.above j a b within.0 within.1 at_a at_b).0 in
          let row_late = (c.requires.above c.loop-j.j _ b (omega arith) (omega arith) at_late at_b).0 in
          let is : b ≡ _ = same_Some b _ (sym at_b ∙ at_run) in
          let far : b.to + step_reach (not (nat_eq (value_of (number g.row.EIGHT)) 0)) ≤ _ = omega (arith, c.reach.ensures, ap (λ (r : Run). r.to) is, c.if-runs-j.true) in
          absurd (too_late _ c.args.regions.now table c.args.i c.loop-j.j j _ a b c.requires.lent at_late at_a at_b past (omega (arith, row, row_late)) row far comes)
    ]

pub meet-requires-clause-near : goal.meet-requires-clause-near
meet-requires-clause-near g c =
    let table = c.args.table.now in
    let at_j = read_run c.runs-runs.result.now table.runs c.loop-j.j c.runs-runs.ensures.value (omega (arith, c.requires.end)) in
    let at_run = read_run c.runs-runs.result.now table.runs c.args.i c.runs-runs.ensures.value c.requires.i in
    let above = c.requires.above c.loop-j.j _ _ (omega arith) (omega arith) at_j at_run in
    let early : (get_or c.runs-runs.result.now c.loop-j.j (record { row = 0; from = 0; to = 0 })).from < (get_or c.runs-runs.result.now c.args.i (record { row = 0; from = 0; to = 0 })).to + step_reach (not (nat_eq (value_of (number g.row.EIGHT)) 0)) = omega (arith, c.reach.ensures, c.if-runs-j.false) in
    near_of_next _ c.args.regions.now table c.loop-j.j c.args.i _ _ c.requires.lent at_j at_run (inr (above.0, early, above.1))

pub loop-j-preserved : goal.loop-j-preserved
loop-j-preserved g c = record {
  best = c.meet.ensures.best;
  improves = improves_then _ c.args.regions.now _ _ _ c.loop-j.invariant.improves c.meet.ensures.improves;
  met = λ j a b at_a at_b within comes. elim (cases_eq j c.loop-j.j) [
    | inl same ↦ subst (λ (n : ℕ). HaveMet c.args.regions.now c.args.table.now c.args.st c.meet.new.largest.items n c.args.i) (sym same) c.meet.ensures.met
    | inr other ↦ met_kept _ c.args.regions.now c.args.table.now c.args.st c.loop-j.largest.items c.meet.new.largest.items j c.args.i c.meet.ensures.improves (c.loop-j.invariant.met j a b at_a at_b (within.0, omega (arith, within.1)) comes)
  ];
}

pub returns-clause-met : goal.returns-clause-met
returns-clause-met g c = λ j a b at_a at_b within comes. c.loop-j.invariant.met j a b at_a at_b (within.0, omega (arith, within.1)) comes
