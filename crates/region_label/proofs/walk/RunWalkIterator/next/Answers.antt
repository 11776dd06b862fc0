use Rattle.std.proofs.Common.{rules, arith}
use Rattle.std.proofs.lemmas.Option.{slice_get-get_or}
use Rattle.region_label.proofs.WalkOfLemmas.{left_on, walk_on, walk_within}
use Rattle.region_label.proofs.walk.RunWalkIterator.next.Goals as goal

pub following-self-inside-requires : goal.following-self-inside-requires
following-self-inside-requires c =
    let walk = rw c.in_ok-at.was at c.self.invariant in
    omega (arith, walk_within c.self.inside.runs.now c.self.inside.links.now c.in_ok-at.at walk, c.self.invariant.sized)

pub bounds-self-inside-at : goal.bounds-self-inside-at
bounds-self-inside-at c =
    let walk = rw c.in_ok-at.was at c.self.invariant in
    walk_within c.self.inside.runs.now c.self.inside.links.now c.in_ok-at.at walk

pub invariant_of-self : goal.invariant_of-self
invariant_of-self c =
    let walk = rw c.in_ok-at.was at c.self.invariant in
    rw c.following-self-inside.ensures (walk_on c.self.inside.runs.now c.self.inside.links.now c.in_ok-at.at walk)

pub returns-clause-steps : goal.returns-clause-steps
returns-clause-steps c =
    let walk = rw c.in_ok-at.was at c.self.invariant in
    let at = slice_get-get_or c.self.inside.runs.now c.in_ok-at.at (record { row = 0; from = 0; to = 0 }) (walk_within c.self.inside.runs.now c.self.inside.links.now c.in_ok-at.at walk) in
    rw (← c.self.view_is, c.in_ok-at.was, c.following-self-inside.ensures) (left_on c.self.inside.runs.now c.self.inside.links.now c.in_ok-at.at _ walk at)

pub returns-clause-goes : goal.returns-clause-goes
returns-clause-goes c = rw (returns-clause-steps c) (search rules)
