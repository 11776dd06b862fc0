use Rattle.std.proofs.Common.{◌≡◌, ◌+◌, ◌≤◌, inl, inr, ℕ, Some, ap, sym, ◌∙◌, subst, not, arith}
use Rattle.std.specs.Prelude.{nat_eq, slice_get, slice_index}
use Rattle.std.proofs.lemmas.Bool.{cases_eq, cases_lt}
use Rattle.std.proofs.lemmas.Grind.{common_steps}
use Rattle.std.proofs.lemmas.Option.{same_Some, slice_get-get_or}
use denote.Param.{value_of, number}
use Rattle.region_label.specs.Run.{Run}
use Rattle.region_label.specs.Inner.Lists.{IsNumbered, contacts}
use Rattle.cell_base.specs.Steps.{AreNext, step_reach}
use Rattle.region_label.specs.Inner.Blocks.{block_at}
use Rattle.region_label.specs.Inner.Rows.{noted_units}
use Rattle.region_label.proofs.BesideLemmas.{wider}
use Rattle.region_label.proofs.ContactLemmas.{corner_small, far_after}
use Rattle.region_label.proofs.SearchLemmas.{begins_no_earlier, between_row, row_between}
use Rattle.region_label.proofs.ListsLemmas.{joins_none, joins_then}
use Rattle.region_label.proofs.lists.RunLists.join_row.Goals as goal

pub loop-i-init : goal.loop-i-init
loop-i-init g c =
    let rows = c.args.rows.now in
    record {
      joins = joins_none _ _ c.args.number c.args.self.now c.args.last;
      within = c.requires.last;
      joined = λ j b at_b row less contact. absurd (omega (arith, less, c.requires.first.before j b at_b row (wider _ rows.runs.items (noted_units rows.notes.items) c.args.at j contact)));
    }

pub overflow_add-run : goal.overflow_add-run
overflow_add-run g c =
    let rows = c.args.rows.now in
    let at_run : slice_get rows.runs.items c.args.at ≡ Some c.index-run.result.now = slice_get-get_or rows.runs.items c.args.at c.index-run.result.now c.requires.at ∙ ap (λ (r : Run). Some r) (sym c.index-run.ensures) in
    omega (arith, c.reach.ensures, corner_small (not (nat_eq (value_of (number g.row.EIGHT)) 0)), (c.requires.ordered.inside c.args.at c.index-run.result.now at_run).2, c.requires.ordered.narrow)

pub returns-then-index-run-clause-joined : goal.returns-then-index-run-clause-joined
returns-then-index-run-clause-joined g c =
    let rows = c.args.rows.now in
    let end : c.index.result.now ≡ slice_index rows.starts.items (c.args.row + 1) = grind (arith, common_steps) in
    let at_run : slice_get rows.runs.items c.args.at ≡ Some c.index-run.result.now = slice_get-get_or rows.runs.items c.args.at c.index-run.result.now c.requires.at ∙ ap (λ (r : Run). Some r) (sym c.index-run.ensures) in
    let at_i : slice_get rows.runs.items c.loop-i.i ≡ Some c.index-in-loop-i.result.now = slice_get-get_or rows.runs.items c.loop-i.i c.index-in-loop-i.result.now (omega (arith, c.requires.ordered.within (c.args.row + 1), end)) ∙ ap (λ (r : Run). Some r) (sym c.index-in-loop-i.ensures) in
    let here = row_between rows.ncols rows.nrows rows.runs.items (noted_units rows.notes.items) rows.starts.items c.args.row c.loop-i.i c.index-in-loop-i.result.now c.requires.ordered c.requires.row at_i (omega (arith, c.requires.first.from)) (omega (arith, end)) in
    λ j a b at_a at_b row contact. elim (cases_lt j c.loop-i.i) [
      | inl before ↦ c.loop-i.invariant.joined j b at_b row before contact
      | inr past ↦
          let later = begins_no_earlier rows.ncols rows.nrows rows.runs.items (noted_units rows.notes.items) rows.starts.items c.loop-i.i j c.index-in-loop-i.result.now b c.requires.ordered at_i at_b (here ∙ sym row) past in
          let late : c.index-run.result.now.to + step_reach (not (nat_eq (value_of (number g.row.EIGHT)) 0)) ≤ b.from = omega (arith, later, c.reach.ensures) in
          absurd (far_after _ rows.runs.items (noted_units rows.notes.items) c.args.at j c.index-run.result.now b at_run at_b late contact)
    ]

pub join-last-requires-clause-beside : goal.join-last-requires-clause-beside
join-last-requires-clause-beside g c =
    let rows = c.args.rows.now in
    let end : c.index.result.now ≡ slice_index rows.starts.items (c.args.row + 1) = grind (arith, common_steps) in
    let at_run : slice_get rows.runs.items c.args.at ≡ Some c.index-run.result.now = slice_get-get_or rows.runs.items c.args.at c.index-run.result.now c.requires.at ∙ ap (λ (r : Run). Some r) (sym c.index-run.ensures) in
    let at_i : slice_get rows.runs.items c.loop-i.i ≡ Some c.index-in-loop-i.result.now = slice_get-get_or rows.runs.items c.loop-i.i c.index-in-loop-i.result.now (omega (arith, c.requires.ordered.within (c.args.row + 1), end)) ∙ ap (λ (r : Run). Some r) (sym c.index-in-loop-i.ensures) in
    λ a b at_a at_b.
    let here = row_between rows.ncols rows.nrows rows.runs.items (noted_units rows.notes.items) rows.starts.items c.args.row c.loop-i.i b c.requires.ordered c.requires.row at_b (omega (arith, c.requires.first.from)) (omega (arith, end)) in
    let to : c.index-run.result.now.to ≡ a.to = ap (λ (r : Run). r.to) (same_Some c.index-run.result.now a (sym at_run ∙ at_a)) in
    let from : c.index-in-loop-i.result.now.from ≡ b.from = ap (λ (r : Run). r.from) (same_Some c.index-in-loop-i.result.now b (sym at_i ∙ at_b)) in
    (subst (λ (n : ℕ). AreNext a.row n) (sym here) (c.requires.next a at_a), omega (arith, to, from, c.if-index-run.false, c.reach.ensures))

pub loop-i-preserved : goal.loop-i-preserved
loop-i-preserved g c =
    let rows = c.args.rows.now in
    let step = c.join-last.ensures in
    record {
      joins = joins_then _ _ c.args.number _ _ _ _ _ _ c.loop-i.invariant.joins step.joins;
      within = omega (arith, c.requires.sized.links, c.loop-i.invariant.joins.links, step.joins.within (omega (arith, c.requires.sized.links, c.loop-i.invariant.joins.links, c.loop-i.invariant.within)));
      joined = λ j b at_b row less contact. elim (cases_eq j c.loop-i.i) [
        | inl same ↦ subst (λ (i : ℕ). IsNumbered c.join-last.new.self.components.items (block_at rows i)) (sym same) (step.joined (subst (λ (i : ℕ). contacts (not (nat_eq (value_of (number g.row.EIGHT)) 0)) c.args.rows.now c.args.at i) same contact))
        | inr other ↦
            let had = c.loop-i.invariant.joined j b at_b row (omega arith) contact in
            (had.0, step.joins.kept (block_at rows j) had.0 had.1)
      ];
    }

pub returns-clause-joined : goal.returns-clause-joined
returns-clause-joined g c =
    let rows = c.args.rows.now in
    let end : c.index.result.now ≡ slice_index rows.starts.items (c.args.row + 1) = grind (arith, common_steps) in
    λ j a b at_a at_b row contact.
    let between = between_row rows.ncols rows.nrows rows.runs.items (noted_units rows.notes.items) rows.starts.items c.args.row j b c.requires.ordered c.requires.row at_b row in
    c.loop-i.invariant.joined j b at_b row (omega (arith, between.1, end, c.loop-i-test.false)) contact
