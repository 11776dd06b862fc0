use Rattle.std.proofs.Common.{◌≡◌, true, false, sym, ◌∙◌}
use Rattle.asc_grid.specs.Header.{begins_number}
use Rattle.asc_grid.proofs.CursorLemmas.{is_keyword, line_at_token, no_keyword}
use Rattle.asc_grid.proofs.tokens.Tokens.next_keyword.Goals as goal

pub returns-then-begins_number-clause-is : goal.returns-then-begins_number-clause-is
returns-then-begins_number-clause-is c =
    let cursor = c.pass_blanks.new.self in
    let number : begins_number cursor.left ≡ true = rw (← c.left.ensures) (sym c.begins_number.ensures ∙ c.if-begins_number.true) in
    rw (← c.pass_blanks.ensures.same) (sym (no_keyword cursor.line cursor.left c.pass_blanks.ensures.token number))

pub returns-then-begins_number-clause-line : goal.returns-then-begins_number-clause-line
returns-then-begins_number-clause-line c =
    let cursor = c.pass_blanks.new.self in
    rw (← c.pass_blanks.ensures.same) (line_at_token _ cursor.line cursor.left c.pass_blanks.ensures.token (sym c.pass_blanks.ensures.same_end))

pub returns-clause-is : goal.returns-clause-is
returns-clause-is c =
    let cursor = c.pass_blanks.new.self in
    let number : begins_number cursor.left ≡ false = rw (← c.left.ensures) (sym c.begins_number.ensures ∙ c.if-begins_number.false) in
    rw (← c.pass_blanks.ensures.same) (is_keyword _ c.next.result cursor.line cursor.left c.pass_blanks.ensures.token number (λ token is. (_, _, is)) c.next.ensures.token c.next.ensures.none)
