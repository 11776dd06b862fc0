use Rattle.std.proofs.Common.{◌≡◌, ◌∙◌, length, ap, sym, arith}
use Rattle.std.proofs.lemmas.Bool.Decides.{nat_tests}
use Rattle.wkt_text.specs.Inner.Cursor.{Left, last_tokens}
use Rattle.wkt_text.proofs.CursorLemmas.{end_left, none_left}
use Rattle.wkt_text.proofs.cursor.Cursor.is_at_end.Goals as goal

pub returns : goal.returns
returns c =
    let end = c.self.inside.end in
    let text = c.behind_blanks.result.now in
    let same : last_tokens end text ≡ c.args.self.now.tokens =
    c.behind_blanks.ensures.same end c.self.invariant ∙ ap (λ (left : Left). left.tokens) c.self.view_is in (
      λ is. let none : length text ≡ 0 = grind (arith, nat_tests, is) in sym same ∙ end_left end text none,
      λ is. let none : length text ≡ 0 = none_left end text c.behind_blanks.ensures.solid (same ∙ is) in grind (arith, nat_tests, none),
    )
