use Rattle.std.proofs.Common.{◌<◌, ◌∙◌, ap, sym, length, List, Some, arith, ℕ}
use Rattle.std.proofs.lemmas.List.{length-map}
use Rattle.std.proofs.lemmas.Option.{slice_get-get_or}
use Rattle.ring_faces.specs.Ring.{Ring}
use Rattle.ring_faces.specs.Inner.Chains.{polygon_from, ring_at, rings_from}
use Rattle.ring_faces.proofs.TracingLemmas.{rings_listed}
use Rattle.ring_faces.proofs.faces.Faces.rings.Goals as goal

pub returns : goal.returns
returns c =
    let ring = ring_at c.self.inside.rings in
    let lists = c.self.inside.lists in
    let first = c.index-first.result.now in
    let within : c.args.k < length lists.firsts.items = omega
    (arith, c.requires, ap length c.self.view_is, length-map lists.firsts.items (polygon_from ring lists.links.items)) in
    let at = slice_get-get_or lists.firsts.items c.args.k first within ∙ ap (λ (n : ℕ). Some n) (sym c.index-first.ensures) in
    let all = rings_listed ring lists c.args.k first c.self.invariant.linked.rising at (c.self.invariant.shells c.args.k first at) in
    let walk = c.from.ensures ∙ ap (λ (links : List ℕ). rings_from ring links first) c.deref.ensures.value in
    rw (← c.self.view_is) (all ∙ ap (λ (rings : List Ring). Some rings) (sym walk))
