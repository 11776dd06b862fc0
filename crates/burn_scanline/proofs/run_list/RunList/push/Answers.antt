use Rattle.std.proofs.Common.{◌≡◌, [], ◌∷◌, ◌++◌, List, arith, subst, sym}
use Rattle.std.proofs.lemmas.Bool.{iff_false}
use Rattle.burn_scanline.specs.Runs.{Run, AddsCells, EndBefore}
use Rattle.burn_scanline.specs.Inner.Growing.{GoesOn}
use Rattle.burn_scanline.proofs.RunLemmas.{adds_one, apart_one}
use Rattle.burn_scanline.proofs.run_list.RunList.push.Goals as goal

pub invariant_of-self-2 : goal.invariant_of-self-2
invariant_of-self-2 c =
    let items : c.args.self.now ≡ c.self.inside.runs.items = cc in
    let ends : EndBefore (c.args.run.row, c.args.run.from) c.self.inside.runs.items = subst (λ (xs : List Run). EndBefore (c.args.run.row, c.args.run.from) xs) items c.requires in
    rw c.in_ok-push.ensures.items (apart_one c.args.run c.self.inside.runs.items c.self.invariant (omega arith) ends (λ last at row touch. iff_false c.goes_on.ensures c.if-goes_on.false (subst (GoesOn c.args.run) (sym items) (record { last = last; at = at; row = row; touches = touch }))))

pub returns-clause-ok : goal.returns-clause-ok
returns-clause-ok c =
    let items : c.args.self.now ≡ c.self.inside.runs.items = cc in
    let ends : EndBefore (c.args.run.row, c.args.run.from) c.self.inside.runs.items = subst (λ (xs : List Run). EndBefore (c.args.run.row, c.args.run.from) xs) items c.requires in
    rw c.in_ok-push.ensures.items (subst (λ (xs : List Run). AddsCells c.args.run xs (c.self.inside.runs.items ++ c.args.run ∷ [])) (sym items) (adds_one c.args.run c.self.inside.runs.items ends))
