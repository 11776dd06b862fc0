use Rattle.std.proofs.lemmas.Option.{slice_get-get_or}
use Rattle.std.proofs.Common.{arith, refl}
use Rattle.all_touched.proofs.UniteLemmas.{unites_more}
use Rattle.all_touched.proofs.touched.unite.Goals as goal

pub pieces-preserved : goal.pieces-preserved
pieces-preserved c = unites_more c.args.pieces.now c.pieces.runs c.push.new.self c.pieces.i c.pieces.row c.pieces.end c.start_of-from.result c.max-to.result _
    c.pieces.invariant c.requires.order c.requires.small (slice_get-get_or c.args.pieces.now c.pieces.i _ c.pieces-test.true) c.start_of-from.ensures
    (grind (arith, c.max-to.ensures)) c.in_ok-push.ensures.ok
