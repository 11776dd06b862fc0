use Rattle.wkt_text.specs.Grammar.{polygon}
use Rattle.wkt_text.proofs.ListedLemmas.{polygon_some}
use Rattle.wkt_text.proofs.LoopLemmas.{fewer, goes_on, none_yet}
use Rattle.wkt_text.proofs.read.polygons.Goals as goal

pub members-init : goal.members-init
members-init c = rw c.new-polygons.ensures (none_yet polygon c.args.cursor.now)

pub members-preserved : goal.members-preserved
members-preserved c =
    rw c.in_ok-push.ensures.ok (goes_on polygon_some c.members.invariant c.in_ok-polygon.ensures c.if-not-take_mark.ensures.taken c.if-not-take_mark.ensures.same_end)

pub members-smaller : goal.members-smaller
members-smaller c = fewer c.take_mark.new.self.tokens polygon_some c.in_ok-polygon.ensures c.if-not-take_mark.ensures.taken
