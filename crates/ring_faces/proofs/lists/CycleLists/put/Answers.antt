use Rattle.std.proofs.Common.{◌∙◌, ap, arith, get_or, refl, set}
use Rattle.std.proofs.lemmas.Grind.{common_steps}
use Rattle.std.proofs.lemmas.List.{get_or_default}
use Rattle.std.proofs.lemmas.Option.{slice_get-get_or}
use Rattle.ring_faces.specs.declared.cycles.Cycle.{Cycle}
use Rattle.ring_faces.proofs.ChainLemmas.{listed_put}
use Rattle.ring_faces.proofs.OwnerLemmas.{is_owned, owned}
use Rattle.ring_faces.proofs.lists.CycleLists.put.Goals as goal

pub cell_of-row-requires : goal.cell_of-row-requires
cell_of-row-requires c = c.requires.begin _ (c.args.at, c.requires.at, get_or_default c.args.cycles.now c.args.at _ _ c.requires.at)

pub index-requires : goal.index-requires
index-requires c =
    let of_k = owned c.args.regions.now c.cell_of-row.result c.owner_of-owner.result.component c.in-Some.k
    (c.requires.edges.known _ c.cell_of-row.result c.cell_of-row.ensures) c.owner_of-owner.ensures c.in-Some.is in
    let known = c.requires.sides.known c.in-Some.k c.cell_of-row.result of_k in
    grind (arith, common_steps, known, c.requires.listed.count)

pub index_mut-requires-in-Some : goal.index_mut-requires-in-Some
index_mut-requires-in-Some c =
    let of_k = owned c.args.regions.now c.cell_of-row.result c.owner_of-owner.result.component c.in-Some.k
    (c.requires.edges.known _ c.cell_of-row.result c.cell_of-row.ensures) c.owner_of-owner.ensures c.in-Some.is in
    let known = c.requires.sides.known c.in-Some.k c.cell_of-row.result of_k in
    grind (arith, common_steps, known, c.requires.listed.count)

pub returns-in-Some : goal.returns-in-Some
returns-in-Some c =
    let none : Cycle = record { first = 0; edges = 0 } in
    let of_k = owned c.args.regions.now c.cell_of-row.result c.owner_of-owner.result.component c.in-Some.k
    (c.requires.edges.known _ c.cell_of-row.result c.cell_of-row.ensures) c.owner_of-owner.ensures c.in-Some.is in
    let known = c.requires.sides.known c.in-Some.k c.cell_of-row.result of_k in
    listed_put c.args.regions.now c.args.walks.now.table c.args.cycles.now c.args.self.now _ c.args.at c.in-Some.k
    (get_or c.args.cycles.now c.args.at none) c.requires.listed c.requires.at (slice_get-get_or c.args.cycles.now c.args.at none c.requires.at)
    (c.cell_of-row.result, c.cell_of-row.ensures, of_k) known
    (ap (set c.args.self.now.links.items c.args.at) (c.index.ensures
    ∙ get_or_default c.args.self.now.firsts.items c.in-Some.k _ 0 (omega (arith, known, c.requires.listed.count)))) refl

pub returns-in_default : goal.returns-in_default
returns-in_default c = absurd (is_owned c.args.regions.now c.cell_of-row.result c.owner_of-owner.result.component
    (c.requires.edges.known _ c.cell_of-row.result c.cell_of-row.ensures) c.owner_of-owner.ensures c.in_default.is)
