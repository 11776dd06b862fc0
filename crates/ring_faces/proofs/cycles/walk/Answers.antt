use Rattle.std.proofs.Common.{◌∙◌, ℕ, refl, sym, subst, arith}
use Rattle.std.proofs.lemmas.Bool.{false≢true}
use Rattle.edge_trace.specs.EdgeTable.{EdgeTable, IsFollowedBy}
use Rattle.edge_trace.specs.Walk.{StandsIn}
use Rattle.ring_faces.specs.Inner.Cycles.{IsMarked, MarksThese}
use Rattle.ring_faces.proofs.CornerLemmas.{turns_done}
use Rattle.ring_faces.proofs.PassLemmas.{marked_again, passed_on, number_passed, told_free, told_marked, turns_passed, turns_start}
use Rattle.ring_faces.proofs.NumberLemmas.{IsUnderWay, under_way_begin, under_way_round, under_way_short}
use Rattle.ring_faces.proofs.cycles.walk.Goals as goal

pub walk-init : goal.walk-init
walk-init c =
    let walks = c.args.walks.now in
    record {
      table = refl;
      stands = c.edge-edge.ensures.stands;
      way = subst (λ (i : ℕ). IsUnderWay walks.table.next walks.passed walks.passed c.args.first 0 i) (sym c.edge-edge.ensures.number)
          (under_way_begin walks.table.next walks.passed c.args.first c.requires.first c.requires.free);
      turns = turns_start walks.table _ c.edge-edge.result c.args.first c.is_level-level.result c.edge-edge.ensures.number c.edge-edge.ensures.stands c.is_level-level.ensures;
      block = c.requires.block;
    }

pub pass-requires : goal.pass-requires
pass-requires c = subst (λ (table : EdgeTable). StandsIn table c.walk.edge) (sym c.walk.invariant.table) c.walk.invariant.stands

pub overflow_add-count : goal.overflow_add-count
overflow_add-count c =
    let free = told_free c.walk.walks.passed c.walk.edge.number ((c.in-Some.ensures {u = tt}).variant.0 refl) in
    omega (arith, under_way_short _ _ _ _ _ _ c.walk.invariant.way free, c.requires.linked.sized, c.requires.few)

pub walk-smaller : goal.walk-smaller
walk-smaller c =
    let free = told_free c.walk.walks.passed c.walk.edge.number ((c.in-Some.ensures {u = tt}).variant.0 refl) in
    omega (arith, under_way_short _ _ _ _ _ _ c.walk.invariant.way free)

pub push_turn-requires-clause-number : goal.push_turn-requires-clause-number
push_turn-requires-clause-number c = number_passed c.args.walks.now.table c.args.lattice.width c.walk.edge c.requires.numbers c.walk.invariant.stands

pub walk-preserved : goal.walk-preserved
walk-preserved c =
    let table = c.args.walks.now.table in
    let told = c.in-Some.ensures {u = tt} in
    let turned = c.in_ok-level.ensures {u = tt} in
    let follows : IsFollowedBy table c.walk.edge.number c.in-Some.next.number = subst
    (λ (t : EdgeTable). IsFollowedBy t c.walk.edge.number c.in-Some.next.number) c.walk.invariant.table told.follows in
    record {
      table = told.table ∙ c.walk.invariant.table;
      stands = subst (λ (t : EdgeTable). StandsIn t c.in-Some.next) c.walk.invariant.table told.stands;
      way = rw told.marks (passed_on table _ _ _ _ _ _ c.requires.linked.links c.requires.marks c.walk.invariant.way (told.variant.0 refl) follows);
      turns = turns_passed table _ _ _ _ _ _ _ c.walk.edge c.walk.invariant.turns c.walk.invariant.way.leads c.walk.invariant.stands turned.turn turned.level;
      block = turned.block;
    }

-- the edge that was passed before
returns_marked : (c : goal.In_default) → IsMarked c.walk.walks.passed c.walk.edge.number
returns_marked c = told_marked c.walk.walks.passed c.walk.edge.number
    (omega (arith, c.walk.invariant.way.within, c.walk.invariant.way.marking.sized, c.requires.marks.sized))
    (λ free. false≢true ((c.in_default.ensures {u = tt}).variant.1 free))

pub returns-clause-table : goal.returns-clause-table
returns-clause-table c = c.pass.ensures.table ∙ c.walk.invariant.table

pub returns-clause-round : goal.returns-clause-round
returns-clause-round c = under_way_round _ _ _ _ _ _ c.requires.linked.links c.walk.invariant.way (returns_marked c)

pub returns-clause-marks : goal.returns-clause-marks
returns-clause-marks c = subst (MarksThese _ c.args.walks.now.passed) (sym (c.pass.ensures.marks ∙ marked_again _ _ (returns_marked c))) c.walk.invariant.way.marking

pub returns-clause-corners : goal.returns-clause-corners
returns-clause-corners c =
    let round = under_way_round _ _ _ _ _ _ c.requires.linked.links c.walk.invariant.way (returns_marked c) in
    turns_done c.args.walks.now.table _ _ _ _ _ c.walk.invariant.turns round.some
