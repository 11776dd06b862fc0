use Rattle.std.proofs.Common.{sym, ◌∙◌, arith}
use Rattle.std.proofs.lemmas.Bool.{false≢true}
use Rattle.edge_trace.proofs.SlotLemmas.{follows_left, follows_right, follows_straight, read_at, slot_inside, way_there}
use Rattle.edge_trace.proofs.links.follow.Goals as goal

pub stands-goes_right-requires-clause-at : goal.stands-goes_right-requires-clause-at
stands-goes_right-requires-clause-at c = slot_inside c.args.sides.now.numbers.items c.args.slots.now c.slot_of.result c.turns_of-turns.result.right c.requires.slots c.slot_of.ensures

pub stands-goes_straight-requires-clause-at : goal.stands-goes_straight-requires-clause-at
stands-goes_straight-requires-clause-at c = slot_inside c.args.sides.now.numbers.items c.args.slots.now c.slot_of-2.result c.turns_of-turns.result.straight c.requires.slots c.slot_of-2.ensures

pub way_to-to_right-requires : goal.way_to-to_right-requires
way_to-to_right-requires c = omega (arith, c.requires.few, slot_inside c.args.sides.now.numbers.items c.args.slots.now c.slot_of.result c.turns_of-turns.result.right c.requires.slots c.slot_of.ensures)

pub way_to-to_straight-requires : goal.way_to-to_straight-requires
way_to-to_straight-requires c = omega (arith, c.requires.few, slot_inside c.args.sides.now.numbers.items c.args.slots.now c.slot_of-2.result c.turns_of-turns.result.straight c.requires.slots c.slot_of-2.ensures)

pub way_to-to_left-requires : goal.way_to-to_left-requires
way_to-to_left-requires c = omega (arith, c.requires.few, slot_inside c.args.sides.now.numbers.items c.args.slots.now c.slot_of-3.result c.turns_of-turns.result.left c.requires.slots c.slot_of-3.ensures)

pub returns-then-goes_right : goal.returns-then-goes_right
returns-then-goes_right c =
    let numbers = c.args.sides.now.numbers.items in
    let owners = c.args.sides.now.owners.items in
    let at = read_at numbers c.args.e c.index-number.result.now c.requires.e c.index-number.ensures in
    let owner = read_at owners c.args.e c.index-k.result.now (omega (arith, c.requires.e, c.requires.sized)) c.index-k.ensures in
    follows_right c.args.stride numbers owners c.args.e c.index-number.result.now c.index-k.result.now _ c.turns_of-turns.result at owner c.turns_of-turns.ensures (way_there numbers owners c.index-k.result.now c.turns_of-turns.result.right _ _ c.way_to-to_right.ensures.index c.way_to-to_right.ensures.side (c.stands-goes_right.ensures.0 c.if-goes_right.true))

pub returns-then-goes_straight : goal.returns-then-goes_straight
returns-then-goes_straight c =
    let numbers = c.args.sides.now.numbers.items in
    let owners = c.args.sides.now.owners.items in
    let at = read_at numbers c.args.e c.index-number.result.now c.requires.e c.index-number.ensures in
    let owner = read_at owners c.args.e c.index-k.result.now (omega (arith, c.requires.e, c.requires.sized)) c.index-k.ensures in
    follows_straight c.args.stride numbers owners c.args.slots.now c.args.e c.index-number.result.now c.index-k.result.now c.slot_of.result _ c.turns_of-turns.result c.requires.slots c.requires.found at owner c.turns_of-turns.ensures c.slot_of.ensures (λ there. false≢true (sym c.if-goes_right.false ∙ c.stands-goes_right.ensures.1 there)) (way_there numbers owners c.index-k.result.now c.turns_of-turns.result.straight _ _ c.way_to-to_straight.ensures.index c.way_to-to_straight.ensures.side (c.stands-goes_straight.ensures.0 c.if-goes_straight.true))

pub returns : goal.returns
returns c =
    let numbers = c.args.sides.now.numbers.items in
    let owners = c.args.sides.now.owners.items in
    let at = read_at numbers c.args.e c.index-number.result.now c.requires.e c.index-number.ensures in
    let owner = read_at owners c.args.e c.index-k.result.now (omega (arith, c.requires.e, c.requires.sized)) c.index-k.ensures in
    follows_left c.args.stride numbers owners c.args.slots.now c.args.e c.index-number.result.now c.index-k.result.now c.slot_of.result c.slot_of-2.result c.slot_of-3.result c.way_to-to_left.result c.turns_of-turns.result c.requires.wide c.requires.slots c.requires.found at owner c.turns_of-turns.ensures c.slot_of.ensures (λ there. false≢true (sym c.if-goes_right.false ∙ c.stands-goes_right.ensures.1 there)) c.slot_of-2.ensures (λ there. false≢true (sym c.if-goes_straight.false ∙ c.stands-goes_straight.ensures.1 there)) c.slot_of-3.ensures c.way_to-to_left.ensures.index c.way_to-to_left.ensures.side
