use Rattle.std.proofs.Common.{◌≡◌, ◌+◌, ◌<◌, inl, inr, ℕ, Option, Some, length, sym, ap, ◌∙◌, arith}
use Rattle.std.specs.Prelude.{slice_get, slice_index}
use Rattle.std.proofs.lemmas.Grind.{common_steps}
use Rattle.std.proofs.lemmas.Option.{slice_get-get_or}
use Rattle.region_label.specs.Run.{Run}
use Rattle.region_label.specs.RunTable.{TableOfRuns}
use Rattle.region_label.proofs.ReadLemmas.{first_has, no_run_has}
use Rattle.region_label.proofs.table.RunTable.component_at.Goals as goal

pub returns-then-at-index : goal.returns-then-at-index
returns-then-at-index c =
    let rows = c.self.inside.rows in
    let within : c.args.row < rows.nrows = omega (arith, c.requires, ap (λ (t : TableOfRuns). t.nrows) c.self.view_is) in
    let end : c.index.result.now ≡ slice_index rows.starts.items (c.args.row + 1) = grind (arith, common_steps) in
    sym (rw (← c.self.view_is) (no_run_has rows c.self.inside.lists c.args.row c.args.col c.first_past-at.result c.self.invariant.order within c.first_past-at.ensures (inl (c.if-at-index.true ∙ end))))

pub returns-then-col-index : goal.returns-then-col-index
returns-then-col-index c =
    let rows = c.self.inside.rows in
    let within : c.args.row < rows.nrows = omega (arith, c.requires, ap (λ (t : TableOfRuns). t.nrows) c.self.view_is) in
    let end : c.index.result.now ≡ slice_index rows.starts.items (c.args.row + 1) = grind (arith, common_steps) in
    let in_row : c.first_past-at.result < slice_index rows.starts.items (c.args.row + 1) = omega (arith, end, c.first_past-at.ensures.to) in
    let in_runs : c.first_past-at.result < length rows.runs.items = omega (arith, in_row, c.self.invariant.order.within (c.args.row + 1)) in
    let at : slice_get rows.runs.items c.first_past-at.result ≡ Some c.index-2.result.now = slice_get-get_or rows.runs.items c.first_past-at.result c.index-2.result.now in_runs ∙ ap (λ (r : Run). Some r) (sym c.index-2.ensures) in
    sym (rw (← c.self.view_is) (no_run_has rows c.self.inside.lists c.args.row c.args.col c.first_past-at.result c.self.invariant.order within c.first_past-at.ensures (inr (c.index-2.result.now, at, c.if-col-index.true))))

pub returns : goal.returns
returns c =
    let rows = c.self.inside.rows in
    let components = c.self.inside.lists.components.items in
    let within : c.args.row < rows.nrows = omega (arith, c.requires, ap (λ (t : TableOfRuns). t.nrows) c.self.view_is) in
    let end : c.index.result.now ≡ slice_index rows.starts.items (c.args.row + 1) = grind (arith, common_steps) in
    let in_row : c.first_past-at.result < slice_index rows.starts.items (c.args.row + 1) = omega (arith, end, c.first_past-at.ensures.to) in
    let in_runs : c.first_past-at.result < length rows.runs.items = omega (arith, in_row, c.self.invariant.order.within (c.args.row + 1)) in
    let at : slice_get rows.runs.items c.first_past-at.result ≡ Some c.index-2.result.now = slice_get-get_or rows.runs.items c.first_past-at.result c.index-2.result.now in_runs ∙ ap (λ (r : Run). Some r) (sym c.index-2.ensures) in
    let number : slice_get components c.first_past-at.result ≡ Some c.index-3.result.now = slice_get-get_or components c.first_past-at.result c.index-3.result.now (omega (arith, in_runs, c.self.invariant.sized.components)) ∙ ap (λ (o : Option ℕ). Some o) (sym c.index-3.ensures) in
    sym (rw (← c.self.view_is) (first_has rows c.self.inside.lists c.args.row c.args.col c.first_past-at.result c.index-2.result.now c.index-3.result.now c.self.invariant.order within c.first_past-at.ensures in_row at c.if-col-index.false number))
