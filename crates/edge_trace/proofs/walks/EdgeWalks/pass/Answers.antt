use Rattle.std.proofs.Common.{◌≡◌, ◌/◌, false, true, Some, set, slice_get, refl, ap, sym, ◌∙◌, subst, arith}
use Rattle.std.proofs.lemmas.Grind.{common_steps}
use Rattle.std.proofs.lemmas.Option.{slice_get_within}
use Rattle.edge_trace.specs.EdgeTable.{IsFollowedBy}
use Rattle.edge_trace.specs.Walk.{EdgeWalks, StandsIn}
use Rattle.edge_trace.specs.Inner.Table.{IsTable, table_of, unmarked}
use Rattle.edge_trace.specs.declared.walk_edge.WalkEdge.{WalkEdge}
use Rattle.edge_trace.proofs.MarkLemmas.{marked_again, marks_set, no_mark_at, reads, unmarked_at, unmarked_set}
use Rattle.edge_trace.proofs.WalkLemmas.{begins_at, followed_by, stands_after, walks_on}
use Rattle.edge_trace.proofs.walks.EdgeWalks.pass.Goals as goal

pub returns-then-way-ge-PASSED-clause-marks : goal.returns-then-way-ge-PASSED-clause-marks
returns-then-way-ge-PASSED-clause-marks c =
    let walks = c.self.inside in
    let stride = walks.sides.stride in
    let numbers = walks.sides.numbers.items in
    let ways = walks.ways.items in
    let edge = c.args.edge in
    let way = c.index-way.result.now in
    let read = reads walks.sides.shift stride numbers ways c.args.self.now edge way c.self.invariant c.self.view_is c.requires c.index-way.ensures in
    subst (λ (w : EdgeWalks). w.passed ≡ set w.passed edge.number true) c.self.view_is (marked_again ways edge.number way read.at c.if-way-ge-PASSED.true)

pub index_mut-requires : goal.index_mut-requires
index_mut-requires c =
    let walks = c.self.inside in
    let stride = walks.sides.stride in
    let numbers = walks.sides.numbers.items in
    let ways = walks.ways.items in
    let edge = c.args.edge in
    let way = c.index-way.result.now in
    let read = reads walks.sides.shift stride numbers ways c.args.self.now edge way c.self.invariant c.self.view_is c.requires c.index-way.ensures in
    grind (arith, common_steps, slice_get_within ways edge.number way read.at)

pub end_from-requires : goal.end_from-requires
end_from-requires c =
    let walks = c.self.inside in
    let stride = walks.sides.stride in
    let numbers = walks.sides.numbers.items in
    let ways = walks.ways.items in
    let edge = c.args.edge in
    let way = c.index-way.result.now in
    let read = reads walks.sides.shift stride numbers ways c.args.self.now edge way c.self.invariant c.self.view_is c.requires c.index-way.ensures in
    let to = unmarked_at ways edge.number way read.at c.if-way-ge-PASSED.false in
    let on = walks_on walks.sides.shift stride numbers (unmarked ways) edge way c.self.invariant read.stands to in
    begins_at walks.sides.shift stride numbers (unmarked ways) edge way c.self.invariant on

pub invariant_of-self : goal.invariant_of-self
invariant_of-self c =
    let walks = c.self.inside in
    let stride = walks.sides.stride in
    let numbers = walks.sides.numbers.items in
    let ways = walks.ways.items in
    let edge = c.args.edge in
    let way = c.index-way.result.now in
    let read = reads walks.sides.shift stride numbers ways c.args.self.now edge way c.self.invariant c.self.view_is c.requires c.index-way.ensures in
    subst (IsTable walks.sides.shift stride numbers) (sym (unmarked_set ways edge.number way read.at)) c.self.invariant

pub returns-clause-table : goal.returns-clause-table
returns-clause-table c =
    let walks = c.self.inside in
    let stride = walks.sides.stride in
    let numbers = walks.sides.numbers.items in
    let ways = walks.ways.items in
    let edge = c.args.edge in
    let way = c.index-way.result.now in
    let read = reads walks.sides.shift stride numbers ways c.args.self.now edge way c.self.invariant c.self.view_is c.requires c.index-way.ensures in
    ap (table_of stride numbers) (unmarked_set ways edge.number way read.at) ∙ ap (λ (w : EdgeWalks). w.table) c.self.view_is

pub returns-clause-variant : goal.returns-clause-variant
returns-clause-variant c =
    let walks = c.self.inside in
    let stride = walks.sides.stride in
    let numbers = walks.sides.numbers.items in
    let ways = walks.ways.items in
    let edge = c.args.edge in
    let way = c.index-way.result.now in
    let read = reads walks.sides.shift stride numbers ways c.args.self.now edge way c.self.invariant c.self.view_is c.requires c.index-way.ensures in
    let unpassed = no_mark_at ways edge.number way read.at c.if-way-ge-PASSED.false in
    (λ some. subst (λ (w : EdgeWalks). slice_get w.passed edge.number ≡ Some false) c.self.view_is unpassed, λ unmarked. refl)

pub returns-clause-marks : goal.returns-clause-marks
returns-clause-marks c =
    let ways = c.self.inside.ways.items in
    marks_set ways c.args.edge.number c.index-way.result.now ∙ ap (λ (w : EdgeWalks). set w.passed c.args.edge.number true) c.self.view_is

pub returns-clause-follows : goal.returns-clause-follows
returns-clause-follows c =
    let walks = c.self.inside in
    let stride = walks.sides.stride in
    let numbers = walks.sides.numbers.items in
    let ways = walks.ways.items in
    let edge = c.args.edge in
    let way = c.index-way.result.now in
    let read = reads walks.sides.shift stride numbers ways c.args.self.now edge way c.self.invariant c.self.view_is c.requires c.index-way.ensures in
    let to = unmarked_at ways edge.number way read.at c.if-way-ge-PASSED.false in
    subst (λ (w : EdgeWalks). IsFollowedBy w.table edge.number (way / 4)) c.self.view_is (followed_by (unmarked ways) edge.number way to)

pub returns-clause-stands : goal.returns-clause-stands
returns-clause-stands c =
    let walks = c.self.inside in
    let stride = walks.sides.stride in
    let numbers = walks.sides.numbers.items in
    let ways = walks.ways.items in
    let edge = c.args.edge in
    let way = c.index-way.result.now in
    let read = reads walks.sides.shift stride numbers ways c.args.self.now edge way c.self.invariant c.self.view_is c.requires c.index-way.ensures in
    let to = unmarked_at ways edge.number way read.at c.if-way-ge-PASSED.false in
    let on = walks_on walks.sides.shift stride numbers (unmarked ways) edge way c.self.invariant read.stands to in
    let after : WalkEdge = record { number = way / 4; start = edge.end; end = c.end_from.result } in
    subst (λ (w : EdgeWalks). StandsIn w.table after) c.self.view_is (stands_after stride numbers (unmarked ways) edge after way on refl c.end_from.ensures refl)
