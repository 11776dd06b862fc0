use Rattle.wkt_text.specs.Grammar.{member_point}
use Rattle.wkt_text.proofs.ListedLemmas.{member_some}
use Rattle.wkt_text.proofs.LoopLemmas.{fewer, goes_on, none_yet}
use Rattle.wkt_text.proofs.read.member_points.Goals as goal

pub members-init : goal.members-init
members-init c = rw c.new-points.ensures (none_yet member_point c.args.cursor.now)

pub members-preserved : goal.members-preserved
members-preserved c =
    rw c.in_ok-push.ensures.ok (goes_on member_some c.members.invariant c.in_ok-member_point.ensures c.if-not-take_mark.ensures.taken c.if-not-take_mark.ensures.same_end)

pub members-smaller : goal.members-smaller
members-smaller c = fewer c.take_mark.new.self.tokens member_some c.in_ok-member_point.ensures c.if-not-take_mark.ensures.taken
