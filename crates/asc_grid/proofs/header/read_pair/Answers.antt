use Rattle.std.proofs.Common.{◌≡◌, Some, None, refl, sym, ◌∙◌}
use Rattle.asc_grid.specs.Keyword.{keyword_of}
use Rattle.asc_grid.specs.Tokens.{Token}
use Rattle.asc_grid.specs.Header.{Pair}
use Rattle.asc_grid.specs.Inner.Cursor.{tokens_at}
use Rattle.asc_grid.specs.Inner.Values.{next_pair}
use Rattle.asc_grid.proofs.HeaderLemmas.{refuses_missing, refuses_repeated, refuses_value, takes_pair}
use Rattle.asc_grid.proofs.header.read_pair.Goals as goal

pub returns-then-has-clause-refused : goal.returns-then-has-clause-refused
returns-then-has-clause-refused g c =
    let pair : Pair = next_pair (record { text = c.args.word.now; line = c.args.tokens.now.line }) (tokens_at c.args.tokens.now) in
    let keyword : keyword_of c.args.word.now ≡ Some c.in-Some.keyword = sym c.keyword_of.ensures ∙ c.in-Some.is in
    rw (c.fault-then-has.ensures, c.line-line.ensures) (refuses_repeated g.T.Cell.read_of pair c.in-Some.keyword c.args.values.now keyword (sym c.has.ensures ∙ c.if-has.true))

pub returns-in_default-next-clause-refused : goal.returns-in_default-next-clause-refused
returns-in_default-next-clause-refused g c =
    let pair : Pair = next_pair (record { text = c.args.word.now; line = c.args.tokens.now.line }) (tokens_at c.args.tokens.now) in
    let keyword : keyword_of c.args.word.now ≡ Some c.in-Some.keyword = sym c.keyword_of.ensures ∙ c.in-Some.is in
    let missing : pair.value ≡ None = rw (c.in_default-next.ensures {u = tt}).none refl in
    rw (c.fault-in_default-next.ensures, c.line-line.ensures) (refuses_missing g.T.Cell.read_of pair c.in-Some.keyword c.args.values.now keyword (sym c.has.ensures ∙ c.if-has.false) missing)

pub returns-in-Ok-clause-ok : goal.returns-in-Ok-clause-ok
returns-in-Ok-clause-ok g c =
    let pair : Pair = next_pair (record { text = c.args.word.now; line = c.args.tokens.now.line }) (tokens_at c.args.tokens.now) in
    let keyword : keyword_of c.args.word.now ≡ Some c.in-Some.keyword = sym c.keyword_of.ensures ∙ c.in-Some.is in
    let token : Token = record { text = c.in-Some-next.value.now; line = c.next.new.self.line } in
    let value : pair.value ≡ Some token = rw (c.in-Some-next.ensures {u = tt}).token refl in
    takes_pair g.T.Cell.read_of pair c.in-Some.keyword c.args.values.now c.take.new.self token keyword (sym c.has.ensures ∙ c.if-has.false) value (sym (c.in-Ok.ensures {u = tt}).wrong) (c.in-Ok.ensures {u = tt}).ok (c.in-Ok.ensures {u = tt}).positive

pub returns-in-Err-clause-refused : goal.returns-in-Err-clause-refused
returns-in-Err-clause-refused g c =
    let pair : Pair = next_pair (record { text = c.args.word.now; line = c.args.tokens.now.line }) (tokens_at c.args.tokens.now) in
    let keyword : keyword_of c.args.word.now ≡ Some c.in-Some.keyword = sym c.keyword_of.ensures ∙ c.in-Some.is in
    let token : Token = record { text = c.in-Some-next.value.now; line = c.next.new.self.line } in
    let value : pair.value ≡ Some token = rw (c.in-Some-next.ensures {u = tt}).token refl in
    rw (c.fault-in-Err.ensures, c.line.ensures) (refuses_value g.T.Cell.read_of pair c.in-Some.keyword c.args.values.now token c.in-Err.kind keyword (sym c.has.ensures ∙ c.if-has.false) value (sym (c.in-Err.ensures {u = tt}).wrong))
