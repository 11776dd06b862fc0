use Rattle.std.proofs.Common.{false, true, ◌≡◌, ◌∙◌, ◌++◌, ◌∷◌, [], ℕ, length, ap}
use Rattle.std.proofs.lemmas.Option.{get_or_from_slice_get}
use Rattle.ring_faces.specs.Inner.Blocks.{gathered}
use Rattle.ring_faces.proofs.CornerLemmas.{rings_push}
use Rattle.ring_faces.proofs.PassLemmas.{told_free}
use Rattle.ring_faces.proofs.NumberLemmas.{found_more, found_pass}
use Rattle.ring_faces.proofs.cycles.Cycles.find.Goals as goal

pub walk-requires-clause-free : goal.walk-requires-clause-free
walk-requires-clause-free c = told_free c.args.walks.now.passed c.args.e (c.if-is_passed.ensures {u = tt})

pub returns-then-is_passed-clause-found : goal.returns-then-is_passed-clause-found
returns-then-is_passed-clause-found c = found_pass _ _ _ _ c.requires.found
    (get_or_from_slice_get c.args.walks.now.passed c.args.e true false (c.if-is_passed.ensures {u = tt}))

pub returns-clause-found : goal.returns-clause-found
returns-clause-found c =
    let walked = c.in_ok-cycle.ensures {u = tt} in
    rw c.in_ok-push-2.ensures.items (found_more _ _ _ _ _ _ c.requires.linked.links c.requires.found walked.first walked.round walked.marks)

pub returns-clause-rings : goal.returns-clause-rings
returns-clause-rings c =
    let walked = c.in_ok-cycle.ensures {u = tt} in
    let old_starts = c.args.self.now.rings.starts.items in
    let old = gathered c.args.self.now.rings.corners.items c.args.block.now in
    let new = gathered c.walk.new.corners.items c.walk.new.block in
    let starts : c.push.new.self.items ≡ old_starts ++ length new ∷ [] = c.in_ok-push.ensures.items
    ∙ ap (λ (n : ℕ). old_starts ++ n ∷ []) c.count_behind.ensures in
    rw c.in_ok-push-2.ensures.items
    (rings_push c.args.self.now.rings.lattice.width c.args.walks.now.table c.args.self.now.cycles.items c.in_ok-cycle.cycle old new old_starts c.push.new.self.items c.requires.rings walked.corners starts)
