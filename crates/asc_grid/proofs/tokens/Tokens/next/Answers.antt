use Rattle.std.proofs.Common.{sym, ◌∙◌}
use Rattle.asc_grid.proofs.CursorLemmas.{end_of-further, token_taken}
use Rattle.asc_grid.proofs.tokens.Tokens.next.Goals as goal

pub returns-clause-token : goal.returns-clause-token
returns-clause-token c =
    let cursor = c.pass_blanks.new.self in
    let taken = token_taken cursor c.left-left.result.now c.token_len-len.result c.left-left.ensures (c.token_len-len.ensures.first cursor.line) (c.token_len-len.ensures.line cursor.line) in
    rw c.advance.ensures (sym c.pass_blanks.ensures.same ∙ taken)

pub returns-clause-same_end : goal.returns-clause-same_end
returns-clause-same_end c = rw c.advance.ensures (end_of-further c.pass_blanks.new.self c.token_len-len.result ∙ c.pass_blanks.ensures.same_end)
