use Rattle.std.proofs.Common.{◌≡◌, ℕ, length, subst, arith}
use Rattle.std.proofs.lemmas.Grind.{common_steps}
use Rattle.ring_faces.specs.Inner.Cycles.{AreFound}
use Rattle.ring_faces.proofs.ListedLemmas.{cycles_few}
use Rattle.ring_faces.proofs.NumberLemmas.{found_all}
use Rattle.ring_faces.proofs.cycles.Cycles.of.Goals as goal

pub returns-clause-all : goal.returns-clause-all
returns-clause-all c =
    let next = c.args.walks.now.table.next in
    let end : c.loop-e.e ≡ length next = omega (arith, c.count-e-end.ensures, c.requires.linked.sized) in
    found_all next c.loop-e.found.cycles.items c.loop-e.walks.passed
    (subst (λ (n : ℕ). AreFound next c.loop-e.found.cycles.items c.loop-e.walks.passed n) end c.loop-e.invariant.found)

pub returns-clause-few : goal.returns-clause-few
returns-clause-few c =
    let next = c.args.walks.now.table.next in
    let end : c.loop-e.e ≡ length next = omega (arith, c.count-e-end.ensures, c.requires.linked.sized) in
    let found = subst (λ (n : ℕ). AreFound next c.loop-e.found.cycles.items c.loop-e.walks.passed n) end c.loop-e.invariant.found in
    let few = cycles_few c.args.walks.now.table c.loop-e.found.cycles.items c.requires.linked (found_all next c.loop-e.found.cycles.items c.loop-e.walks.passed found) in
    grind (arith, common_steps, few, c.count-e-end.ensures, c.count-e-end.type_inv)
