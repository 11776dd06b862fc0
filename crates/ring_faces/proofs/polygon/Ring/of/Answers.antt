use Rattle.std.proofs.Common.{append_assoc, ◌∙◌, sym}
use Rattle.std.proofs.lemmas.List.{append-nil}
use Rattle.ring_faces.proofs.polygon.Ring.of.Goals as goal

pub corners-preserved : goal.corners-preserved
corners-preserved c =
    let parts = rw c.in-Some.ensures.steps at c.corners.invariant.all in
    record {
      all = rw (c.in_ok-push.ensures {u = tt}).ok (append_assoc c.corners.ring _ c.next.new.self ∙ parts);
      can = tt;
      finite = tt;
    }

pub returns : goal.returns
returns c = sym (append-nil c.corners.ring) ∙ rw c.in-None.ensures.steps.0 at c.corners.invariant.all
