use Rattle.std.proofs.Common.{◌≡◌, ◌∙◌, ◌<◌, ◌-◌, false, length, ap, subst, arith}
use Rattle.std.proofs.lemmas.Grind.{common_steps}
use Rattle.std.proofs.lemmas.Bool.Decides.{nat_tests}
use Rattle.wkt_text.specs.Inner.Cursor.{Left, NoWord, last_tokens}
use Rattle.wkt_text.specs.Tokens.{begins_with_word}
use Rattle.wkt_text.proofs.CursorLemmas.{no_word_first}
use Rattle.wkt_text.proofs.cursor.Cursor.next_word.Goals as goal

pub returns-then-is_empty-clause-none : goal.returns-then-is_empty-clause-none
returns-then-is_empty-clause-none c =
    let end = c.self.inside.end in
    let text = c.behind_blanks-text.result.now in
    let none : c.word_len.result ≡ 0 = grind (arith, nat_tests, common_steps) in
    let stops : begins_with_word text ≡ false = c.word_len.ensures.none none in
    let same : last_tokens end text ≡ c.args.self.now.tokens =
    c.behind_blanks-text.ensures.same end c.self.invariant ∙ ap (λ (left : Left). left.tokens) c.self.view_is in
    subst NoWord same (no_word_first end text c.behind_blanks-text.ensures.solid stops)

pub returns-else-is_empty-clause-word : goal.returns-else-is_empty-clause-word
returns-else-is_empty-clause-word c =
    let end = c.self.inside.end in
    let text = c.behind_blanks-text.result.now in
    let some : 0 < c.word_len.result = grind (arith, nat_tests, common_steps) in
    let within : length text < end = omega arith in
    let word = c.word_len.ensures.word some end within in
    let same : last_tokens end text ≡ c.args.self.now.tokens =
    c.behind_blanks-text.ensures.same end c.self.invariant ∙ ap (λ (left : Left). left.tokens) c.self.view_is in
    let ends : end ≡ c.args.self.now.end = ap (λ (left : Left). left.end) c.self.view_is in
    (end - length text, cc (word, same, ends, c.split_at.ensures.front, c.split_at.ensures.back))
