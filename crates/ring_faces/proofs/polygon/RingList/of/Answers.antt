use Rattle.std.proofs.Common.{append_assoc, [], ◌∷◌, ◌++◌, ◌∙◌, ap, sym}
use Rattle.std.proofs.lemmas.List.{append-nil}
use Rattle.ring_faces.specs.Ring.{Ring}
use Rattle.ring_faces.proofs.polygon.RingList.of.Goals as goal

pub loop-corners-preserved : goal.loop-corners-preserved
loop-corners-preserved c =
    let parts = rw c.in-Some.ensures.steps at c.loop-corners.invariant.all in
    let more = (c.in_ok-push.ensures {u = tt}).ok ∙ ap (λ (ring : Ring). c.loop-corners.list ++ ring ∷ []) (c.in_ok-ring.ensures {u = tt}) in
    record {
      all = rw more (append_assoc c.loop-corners.list _ c.next.new.self ∙ parts);
      can = tt;
      finite = tt;
    }

pub returns : goal.returns
returns c = sym (append-nil c.loop-corners.list) ∙ rw c.in-None.ensures.steps.0 at c.loop-corners.invariant.all
