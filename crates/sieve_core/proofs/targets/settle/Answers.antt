use Rattle.std.proofs.Common.{◌≡◌, ◌<◌, ℕ, List, length, length-set, take, sym, ◌∙◌, subst, arith}
use Rattle.std.specs.Prelude.{Contains, slice_index_or}
use Rattle.std.proofs.lemmas.Grind.{common_steps}
use Rattle.std.proofs.lemmas.List.Elements.{Contains-get_or}
use Rattle.sieve_core.proofs.ChainLemmas.{settle_on, settles}
use Rattle.sieve_core.proofs.targets.settle.Goals as goal

pub bounds-targets-member : goal.bounds-targets-member
bounds-targets-member c =
    omega (arith, c.requires.path _ (Contains-get_or c.args.path.now c.loop-member.member-index 0 c.loop-member-test.true), c.loop-member.invariant.long)

pub loop-member-preserved : goal.loop-member-preserved
loop-member-preserved c =
    let within : slice_index_or c.args.path.now c.loop-member.member-index 0 < length c.loop-member.targets = omega (arith, c.requires.path _ (Contains-get_or c.args.path.now c.loop-member.member-index 0 c.loop-member-test.true), c.loop-member.invariant.long) in
    let both = settle_on c.args.path.now c.args.targets.now c.loop-member.targets c.loop-member.member-index 0 c.args.target c.loop-member-test.true within c.loop-member.invariant.set c.loop-member.invariant.others in
    record {
      long = length-set c.loop-member.targets _ c.args.target ∙ c.loop-member.invariant.long;
      set = both.0;
      others = both.1;
    }

pub returns : goal.returns
returns c =
    let end : take c.loop-member.member-index c.args.path.now ≡ c.args.path.now = grind (arith, common_steps) in
    settles c.args.path.now c.args.targets.now c.loop-member.targets c.args.start c.args.target (omega (arith, c.requires.start, c.loop-member.invariant.long)) c.loop-member.invariant.long (λ k member. c.loop-member.invariant.set k (subst (λ (xs : List ℕ). Contains xs k) (sym end) member)) c.loop-member.invariant.others
