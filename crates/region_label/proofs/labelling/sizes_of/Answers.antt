use Rattle.std.proofs.Common.{◌≡◌, length, replicate, ap, ◌∙◌, subst, ℕ, rules, arith}
use Rattle.region_label.specs.Inner.Sizes.{AreCounted}
use Rattle.region_label.proofs.CountedLemmas.{counted_all, counted_none}
use Rattle.region_label.proofs.labelling.sizes_of.Goals as goal

pub loop-i-init : goal.loop-i-init
loop-i-init c =
    let table = c.args.table.now in
    let made : c.in_ok-sizes.sizes.items ≡ replicate c.count.result 0 = search rules in
    let same : c.in_ok-sizes.sizes.items ≡ replicate (length table.lists) 0 = made ∙ ap (λ n. replicate n 0) c.count.ensures in
    record { counted = rw same (counted_none table) }

pub returns : goal.returns
returns c =
    let table = c.args.table.now in
    let end : c.loop-i.i ≡ length table.runs = omega (arith, ap length c.runs-i-end.ensures.value) in
    counted_all table c.loop-i.sizes.items c.requires.filled (subst (λ (i : ℕ). AreCounted table i c.loop-i.sizes.items) end c.loop-i.invariant.counted)
