use Rattle.std.proofs.Common.{ℕ, List, subst, arith}
use Rattle.std.specs.Prelude.{Contains}
use Rattle.sieve_core.specs.Inner.Targets.{Settles, target_at}
use Rattle.sieve_core.specs.declared.targets.Target.{Target}
use Rattle.sieve_core.proofs.ChainLemmas.{read_at, settled_right}
use Rattle.sieve_core.proofs.targets.find_target.Goals as goal

pub settle-requires-clause-path : goal.settle-requires-clause-path
settle-requires-clause-path g c = λ k member. omega (arith, c.in_ok-end.ensures.below k (subst (λ (xs : List ℕ). Contains xs k) c.deref.ensures.value member), c.in_ok-end.ensures.right.long)

pub returns-clause-right : goal.returns-clause-right
returns-clause-right g c =
    let unknown = read_at c.args.targets.now c.args.k _ _ (omega (arith, c.requires.k, c.requires.right.long)) c.in-Unknown.is in
    let settled : Settles c.follow.new.targets c.settle.new.targets c.follow.new.path.items c.args.k (target_at c.in_ok-end.end) = subst (λ (xs : List ℕ). Settles c.follow.new.targets c.settle.new.targets xs c.args.k (target_at c.in_ok-end.end)) c.deref.ensures.value (subst (λ (t : Target). Settles c.follow.new.targets c.settle.new.targets c.deref.result.now c.args.k t) c.target_of.ensures c.settle.ensures) in
    settled_right _ c.args.regions.now c.args.st c.args.targets.now c.follow.new.targets c.settle.new.targets c.follow.new.path.items c.args.k c.in_ok-end.end unknown c.in_ok-end.ensures settled
