use Rattle.std.proofs.Common.{◌∙◌}
use Rattle.wkt_text.proofs.ClosedLemmas.{is_closed-ends}
use Rattle.std.proofs.Common.{sym}
use Rattle.wkt_text.proofs.cursor.is_closed.Goals as goal

pub returns-in-len2-up : goal.returns-in-len2-up
returns-in-len2-up c =
    c.eq.ensures
    ∙ sym (is_closed-ends c.args.points.now c.first-item.result c.last-item.result c.in-len2-up.len_at_least c.first-item.is c.last-item.is)
