use Rattle.std.proofs.Common.{◌∙◌, ap, set, refl, arith}
use Rattle.std.proofs.lemmas.List.{get_or_default}
use Rattle.region_parts.proofs.ChainLemmas.{linked_pass, linked_put}
use Rattle.region_parts.proofs.parts.Lists.put.Goals as goal

pub returns-in-Some : goal.returns-in-Some
returns-in-Some c =
    let number = c.in-Some.ensures {u = tt} in
    let known = c.requires.grid.known c.in-Some.k c.first-row.result number in
    linked_put c.args.regions.now c.args.others.now c.args.self.now _ c.args.at c.in-Some.k c.first-row.result c.requires.linked c.requires.at
    c.first-row.ensures number known
    (ap (set c.args.self.now.links.items c.args.at) (c.index.ensures
    ∙ get_or_default c.args.self.now.firsts.items c.in-Some.k _ 0 (omega (arith, known, c.requires.linked.count)))) refl

pub returns-in_default : goal.returns-in_default
returns-in_default c = linked_pass c.args.regions.now c.args.others.now c.args.self.now c.args.at c.first-row.result c.requires.linked c.requires.at
    c.first-row.ensures (c.in_default.ensures {u = tt})
