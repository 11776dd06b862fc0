use Rattle.std.proofs.Common.{◌∙◌, rules, sym}
use Rattle.ring_faces.specs.Inner.Chains.{ring_at}
use Rattle.ring_faces.proofs.TracingLemmas.{rings_next, rings_none}
use Rattle.ring_faces.proofs.walk.RingWalkIterator.next.Goals as goal

pub returns-then-at-self-clause-steps : goal.returns-then-at-self-clause-steps
returns-then-at-self-clause-steps c =
    let walk = c.self.inside in
    let none = sym c.self.view_is ∙ rings_none (ring_at walk.rings.now) walk.links.now walk.next c.if-at-self.true in
    (none, none)

pub returns-clause-steps : goal.returns-clause-steps
returns-clause-steps c =
    let walk = c.self.inside in
    rw (← c.self.view_is, c.ring.ensures) (rings_next (ring_at walk.rings.now) walk.links.now walk.next c.self.invariant.rising c.if-at-self.false)

pub returns-clause-goes : goal.returns-clause-goes
returns-clause-goes c = rw (returns-clause-steps c) (search rules)
