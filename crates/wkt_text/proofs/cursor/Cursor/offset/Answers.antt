use Rattle.std.proofs.Common.{◌∙◌, ap, sym}
use Rattle.wkt_text.specs.Inner.Cursor.{Left}
use Rattle.wkt_text.specs.Tokens.{first_offset}
use Rattle.wkt_text.proofs.CursorLemmas.{offset_first}
use Rattle.wkt_text.proofs.cursor.Cursor.offset.Goals as goal

pub returns : goal.returns
returns c =
    let end = c.self.inside.end in
    sym (offset_first end c.behind_blanks.result.now c.behind_blanks.ensures.solid)
    ∙ ap (first_offset end) (c.behind_blanks.ensures.same end c.self.invariant)
    ∙ ap (λ (left : Left). first_offset left.end left.tokens) c.self.view_is
