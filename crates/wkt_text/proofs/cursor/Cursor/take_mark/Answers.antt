use Rattle.std.proofs.Common.{◌≡◌, ◌∙◌, ◌<◌, length, ap, sym, subst, arith}
use Rattle.wkt_text.specs.Inner.Cursor.{Lacks, Left, last_tokens}
use Rattle.wkt_text.proofs.CursorLemmas.{lacks_first, mark_at}
use Rattle.wkt_text.proofs.cursor.Cursor.take_mark.Goals as goal

pub returns-in-len1-up-clause-taken : goal.returns-in-len1-up-clause-taken
returns-in-len1-up-clause-taken c =
    let end = c.self.inside.end in
    let text = c.behind_blanks.result.now in
    let within : length text < end = omega arith in
    let same : last_tokens end text ≡ c.args.self.now.tokens =
    c.behind_blanks.ensures.same end c.self.invariant ∙ ap (λ (left : Left). left.tokens) c.self.view_is in
    let taken = mark_at end c.args.mark text within c.in-len1-up.len_at_least c.if-first-mark.true c.requires in
    (taken.0, sym same ∙ taken.1)

pub returns-in_default-2-clause-other : goal.returns-in_default-2-clause-other
returns-in_default-2-clause-other c =
    let end = c.self.inside.end in
    let text = c.behind_blanks.result.now in
    let same : last_tokens end text ≡ c.args.self.now.tokens =
    c.behind_blanks.ensures.same end c.self.invariant ∙ ap (λ (left : Left). left.tokens) c.self.view_is in
    subst (Lacks c.args.mark) same (lacks_first end c.args.mark text c.requires c.behind_blanks.ensures.solid (λ _. c.if-first-mark.false))
