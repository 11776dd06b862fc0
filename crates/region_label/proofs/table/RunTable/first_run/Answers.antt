use Rattle.std.proofs.Common.{◌≡◌, ◌<◌, ℕ, Some, length, sym, ap, ◌∙◌, arith}
use Rattle.std.specs.Prelude.{slice_get}
use Rattle.std.proofs.lemmas.Option.{slice_get-get_or}
use Rattle.region_label.specs.Run.{Run}
use Rattle.region_label.specs.RunTable.{TableOfRuns}
use Rattle.region_label.proofs.ListLemmas.{contains_from_at}
use Rattle.region_label.proofs.ReadLemmas.{count_of_lists, first_run_of}
use Rattle.region_label.proofs.table.RunTable.first_run.Goals as goal

pub index-requires-2 : goal.index-requires-2
index-requires-2 c =
    let less : c.args.k < c.self.inside.lists.count = omega (arith, c.requires, ap (λ (t : TableOfRuns). length t.lists) c.self.view_is, count_of_lists c.self.inside.rows c.self.inside.lists c.self.invariant) in
    let at : slice_get c.self.inside.lists.firsts.items c.args.k ≡ Some c.index.result.now = slice_get-get_or c.self.inside.lists.firsts.items c.args.k c.index.result.now (omega (arith, less, c.self.invariant.few)) ∙ ap (λ (n : ℕ). Some n) (sym c.index.ensures) in
    let on = c.self.invariant.listed c.args.k c.index.result.now less at in
    omega (arith, on.below c.index.result.now (contains_from_at on.list on.index c.index.result.now on.at_index))

pub returns : goal.returns
returns c =
    let less : c.args.k < c.self.inside.lists.count = omega (arith, c.requires, ap (λ (t : TableOfRuns). length t.lists) c.self.view_is, count_of_lists c.self.inside.rows c.self.inside.lists c.self.invariant) in
    let at : slice_get c.self.inside.lists.firsts.items c.args.k ≡ Some c.index.result.now = slice_get-get_or c.self.inside.lists.firsts.items c.args.k c.index.result.now (omega (arith, less, c.self.invariant.few)) ∙ ap (λ (n : ℕ). Some n) (sym c.index.ensures) in
    let on = c.self.invariant.listed c.args.k c.index.result.now less at in
    let within = on.below c.index.result.now (contains_from_at on.list on.index c.index.result.now on.at_index) in
    let is : slice_get c.self.inside.rows.runs.items c.index.result.now ≡ Some c.index-2.result.now = slice_get-get_or c.self.inside.rows.runs.items c.index.result.now c.index-2.result.now within ∙ ap (λ (r : Run). Some r) (sym c.index-2.ensures) in
    rw (← c.self.view_is) (first_run_of c.self.inside.rows c.self.inside.lists c.args.k c.index.result.now c.index-2.result.now c.self.invariant less at is)
