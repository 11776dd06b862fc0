use Rattle.std.proofs.Common.{◌≡◌, ◌∙◌, ap, refl}
use Rattle.std.specs.Prelude.{Some, map}
use Rattle.csv.specs.Writing.{row_text, text_written}
use Rattle.ogr_csv.specs.Inner.Written.{IsWriting, IsWritingUnless}
use Rattle.ogr_csv.proofs.RowLemmas.{line_same, quotes_as_needed, row_added}
use Rattle.ogr_csv.proofs.rows.RowsText.add.Goals as goal

pub returns-clause-ok : goal.returns-clause-ok
returns-clause-ok c =
    let old = c.self.inside.writer in
    let is : IsWriting old = rw c.if-self.false at c.self.invariant in
    let fields = map (λ field. field.now) c.args.fields.now in
    let appended = c.in-Ok.ensures.bytes is.between is.clean (quotes_as_needed old is.setup) in
    row_added c.self.inside.has_failed (text_written (λ text. Some text.items) old) (text_written (λ text. Some text.items) c.write_fields.new.self)
    c.args.self.now _ _ c.if-self.false refl c.self.view_is appended (ap (λ setup. row_text setup fields) is.setup ∙ line_same fields)
