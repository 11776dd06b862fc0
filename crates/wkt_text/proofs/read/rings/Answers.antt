use Rattle.wkt_text.specs.Grammar.{ring}
use Rattle.wkt_text.proofs.ListedLemmas.{ring_some}
use Rattle.wkt_text.proofs.LoopLemmas.{fewer, goes_on, none_yet}
use Rattle.wkt_text.proofs.read.rings.Goals as goal

pub members-init : goal.members-init
members-init c = rw c.new-rings.ensures (none_yet ring c.args.cursor.now)

pub members-preserved : goal.members-preserved
members-preserved c =
    rw c.in_ok-push.ensures.ok (goes_on ring_some c.members.invariant c.in_ok-ring.ensures c.if-not-take_mark.ensures.taken c.if-not-take_mark.ensures.same_end)

pub members-smaller : goal.members-smaller
members-smaller c = fewer c.take_mark.new.self.tokens ring_some c.in_ok-ring.ensures c.if-not-take_mark.ensures.taken
