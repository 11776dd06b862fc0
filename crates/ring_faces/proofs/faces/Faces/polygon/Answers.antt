use Rattle.std.proofs.Common.{◌≡◌, ◌∙◌, ◌∷◌, List, Some, ap, sym}
use Rattle.ring_faces.specs.Ring.{Ring}
use Rattle.ring_faces.proofs.TracingLemmas.{polygon_is}
use Rattle.ring_faces.proofs.faces.Faces.polygon.Goals as goal

pub returns-clause-value : goal.returns-clause-value
returns-clause-value c =
    let first = rw c.unwrap.ensures at c.next.ensures.steps in
    let shell = sym (c.in_ok-shell.ensures {u = tt}) in
    let holes = sym (c.in_ok-holes.ensures {u = tt}) in
    let parts : c.rings-rings.result ≡ c.in_ok-shell.shell ∷ c.in_ok-holes.holes = first ∙ ap (λ (ring : Ring). ring ∷ c.next.new.self) shell
    ∙ ap (λ (rings : List Ring). c.in_ok-shell.shell ∷ rings) holes in
    polygon_is _ _ _ (c.rings-rings.ensures ∙ ap (λ (rings : List Ring). Some rings) parts)

pub returns-clause-canonical : goal.returns-clause-canonical
returns-clause-canonical c = λ regions are. are.each c.args.k _ (returns-clause-value c)
