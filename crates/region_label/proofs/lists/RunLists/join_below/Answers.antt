use Rattle.std.proofs.Common.{◌≡◌, ◌+◌, Some, refl, ap, sym, ◌∙◌, arith, inr}
use Rattle.std.specs.Prelude.{slice_get}
use Rattle.std.proofs.lemmas.Option.{same_Some, slice_get-get_or}
use Rattle.region_label.specs.Run.{Run}
use Rattle.region_label.specs.declared.rows.RunNote.{RunNote}
use Rattle.region_label.proofs.NoteLemmas.{length-noted}
use Rattle.region_label.proofs.lists.RunLists.join_below.Goals as goal

pub overflow_add-row : goal.overflow_add-row
overflow_add-row g c =
    let rows = c.args.rows.now in
    let at_run : slice_get rows.runs.items c.args.at ≡ Some c.index.result.now = slice_get-get_or rows.runs.items c.args.at c.index.result.now c.requires.at ∙ ap (λ (r : Run). Some r) (sym c.index.ensures) in
    omega (arith, (c.requires.ordered.inside c.args.at c.index.result.now at_run).0, c.requires.ordered.low)

pub returns-then-row-rows-clause-joined : goal.returns-then-row-rows-clause-joined
returns-then-row-rows-clause-joined g c =
    let rows = c.args.rows.now in
    let at_run : slice_get rows.runs.items c.args.at ≡ Some c.index.result.now = slice_get-get_or rows.runs.items c.args.at c.index.result.now c.requires.at ∙ ap (λ (r : Run). Some r) (sym c.index.ensures) in
    λ j a b at_a at_b below contact.
    let row : c.index.result.now.row ≡ a.row = ap (λ (r : Run). r.row) (same_Some c.index.result.now a (sym at_run ∙ at_a)) in
    absurd (omega (arith, (c.requires.ordered.inside j b at_b).0))

pub join_row-requires-clause-row : goal.join_row-requires-clause-row
join_row-requires-clause-row g c =
    let rows = c.args.rows.now in
    let at_run : slice_get rows.runs.items c.args.at ≡ Some c.index.result.now = slice_get-get_or rows.runs.items c.args.at c.index.result.now c.requires.at ∙ ap (λ (r : Run). Some r) (sym c.index.ensures) in
    omega (arith, (c.requires.ordered.inside c.args.at c.index.result.now at_run).0)

pub join_row-requires-clause-next : goal.join_row-requires-clause-next
join_row-requires-clause-next g c =
    let rows = c.args.rows.now in
    let at_run : slice_get rows.runs.items c.args.at ≡ Some c.index.result.now = slice_get-get_or rows.runs.items c.args.at c.index.result.now c.requires.at ∙ ap (λ (r : Run). Some r) (sym c.index.ensures) in
    λ a at_a.
    let row : c.index.result.now.row ≡ a.row = ap (λ (r : Run). r.row) (same_Some c.index.result.now a (sym at_run ∙ at_a)) in
    inr (omega arith)

pub returns-clause-joined : goal.returns-clause-joined
returns-clause-joined g c =
    let rows = c.args.rows.now in
    let at_run : slice_get rows.runs.items c.args.at ≡ Some c.index.result.now = slice_get-get_or rows.runs.items c.args.at c.index.result.now c.requires.at ∙ ap (λ (r : Run). Some r) (sym c.index.ensures) in
    λ j a b at_a at_b below contact.
    let row : c.index.result.now.row ≡ a.row = ap (λ (r : Run). r.row) (same_Some c.index.result.now a (sym at_run ∙ at_a)) in
    c.join_row.ensures.joined j a b at_a at_b (omega arith) contact

pub join_row-requires-clause-first : goal.join_row-requires-clause-first
join_row-requires-clause-first g c =
    let rows = c.args.rows.now in
    let notes = rows.notes.items in
    let at_run : slice_get rows.runs.items c.args.at ≡ Some c.index.result.now = slice_get-get_or rows.runs.items c.args.at c.index.result.now c.requires.at ∙ ap (λ (r : Run). Some r) (sym c.index.ensures) in
    let at_note : slice_get notes c.args.at ≡ Some c.index-2.result.now = slice_get-get_or notes c.args.at c.index-2.result.now (omega (arith, c.requires.at, length-noted notes, c.requires.ordered.sized)) ∙ ap (λ (note : RunNote). Some note) (sym c.index-2.ensures) in
    (c.requires.noted c.args.at c.index-2.result.now at_note).below c.index.result.now (c.index.result.now.row + 1) at_run refl (omega (arith, (c.requires.ordered.inside c.args.at c.index.result.now at_run).0))
