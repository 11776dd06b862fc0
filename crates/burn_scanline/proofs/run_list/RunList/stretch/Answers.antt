use Rattle.std.proofs.Common.{◌≡◌, ◌-◌, List, length, set, ap, sym, subst}
use Rattle.burn_scanline.specs.Runs.{Run, AddsCells, EndBefore}
use Rattle.burn_scanline.specs.Inner.Growing.{GoesOn}
use Rattle.burn_scanline.proofs.RunLemmas.{adds_stretched_at, apart_stretched_at, stretched}
use Rattle.burn_scanline.proofs.run_list.RunList.stretch.Goals as goal

pub invariant_of-self : goal.invariant_of-self
invariant_of-self c =
    let runs = c.self.inside.runs.items in
    let items : c.args.self.now ≡ runs = cc in
    let count : c.len-last.result ≡ length runs = cc (c.self.inside.runs.ok.0, c.len-last.ensures) in
    apart_stretched_at c.args.run c.index.result.now runs (c.len-last.result - 1) c.self.invariant (ap (λ n. n - 1) count) c.index.ensures c.requires.some (subst (GoesOn c.args.run) items c.requires.on)

pub returns : goal.returns
returns c =
    let runs = c.self.inside.runs.items in
    let items : c.args.self.now ≡ runs = cc in
    let count : c.len-last.result ≡ length runs = cc (c.self.inside.runs.ok.0, c.len-last.ensures) in
    subst (λ (xs : List Run). AddsCells c.args.run xs (set runs (c.len-last.result - 1) (stretched c.index.result.now c.args.run))) (sym items)
    (adds_stretched_at c.args.run c.index.result.now runs (c.len-last.result - 1) c.self.invariant (ap (λ n. n - 1) count) c.index.ensures c.requires.some (subst (GoesOn c.args.run) items c.requires.on) (subst (λ (xs : List Run). EndBefore (c.args.run.row, c.args.run.from) xs) items c.requires.ends))
