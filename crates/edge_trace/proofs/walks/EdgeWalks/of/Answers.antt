use Rattle.std.proofs.Common.{◌≡◌, ℕ, false, length, replicate, ap, sym, ◌∙◌, subst}
use Rattle.std.proofs.lemmas.List.{length-map}
use Rattle.edge_trace.specs.EdgeTable.{EdgeTable}
use Rattle.edge_trace.specs.Inner.Sides.{edge_of}
use Rattle.edge_trace.specs.Inner.Table.{IsTable, table_of}
use Rattle.edge_trace.proofs.MarkLemmas.{no_marks, unmarked_ways}
use Rattle.edge_trace.proofs.walks.EdgeWalks.of.Goals as goal

pub invariant_of-result : goal.invariant_of-result
invariant_of-result c =
    let sides = c.into_parts-sides.result.0 in
    let ways = c.into_parts-sides.result.1.items in
    let kept = c.into_parts-sides.ensures.kept in
    subst (IsTable sides.shift sides.stride sides.numbers.items) (sym (unmarked_ways sides.shift sides.stride sides.numbers.items ways kept)) kept

pub returns-clause-table : goal.returns-clause-table
returns-clause-table c =
    let sides = c.into_parts-sides.result.0 in
    let ways = c.into_parts-sides.result.1.items in
    ap (table_of sides.stride sides.numbers.items) (unmarked_ways sides.shift sides.stride sides.numbers.items ways c.into_parts-sides.ensures.kept) ∙ sym c.into_parts-sides.ensures.table

pub returns-clause-none : goal.returns-clause-none
returns-clause-none c =
    let sides = c.into_parts-sides.result.0 in
    let numbers = sides.numbers.items in
    let ways = c.into_parts-sides.result.1.items in
    let kept = c.into_parts-sides.ensures.kept in
    let count : length ways ≡ length c.args.table.edges = kept.linked ∙ sym (length-map numbers (edge_of sides.stride)) ∙ sym (ap (λ (t : EdgeTable). length t.edges) c.into_parts-sides.ensures.table) in
    no_marks sides.shift sides.stride numbers ways kept ∙ ap (λ (n : ℕ). replicate n false) count
