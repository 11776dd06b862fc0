-- The text of a row, whatever the number of fields of other rows.
use Rattle.std.proofs.Common.{◌≡◌, ◌≢◌, ℕ, Bool, true, false, List, [], ◌∷◌, ◌++◌, Option, Some, None, refl, ap, sym, ◌∙◌, if◌then◌else◌}
use Rattle.std.specs.Prelude.{◌==◌, IsSome}
use Rattle.std.specs.Io.KnownBytes.{Appends}
use Rattle.std.proofs.lemmas.Bool.{false≢true}
use Rattle.csv.specs.declared.writer.QuoteStyle.TheVariants as style
use Rattle.csv.specs.declared.writer.Writer.{Writer}
use Rattle.csv.specs.declared.writer.WriterBuilder.{WriterBuilder}
use Rattle.csv.specs.Writing.{default_writer, escaped, fields_text, field_text, is_blank, needs_quotes, quoted, row_text, writer_setup}
use Rattle.ogr_csv.specs.Inner.Written.{flexible_writer, text_unless}
use Rattle.ogr_csv.specs.Rows.{line_of}

escaped_same : (field : List ℕ) → escaped flexible_writer field ≡ escaped default_writer field
unfolding escaped
escaped_same [] = refl
escaped_same (b ∷ rest) = ap (λ xs. if b == 34 then 34 ∷ b ∷ xs else b ∷ xs) (escaped_same rest)

field_same : (field : List ℕ) → field_text flexible_writer field ≡ field_text default_writer field
field_same field = ap (λ xs. if needs_quotes default_writer field then 34 ∷ (xs ++ 34 ∷ []) else field) (escaped_same field)

fields_same : (fields : List (List ℕ)) → fields_text flexible_writer fields ≡ fields_text default_writer fields
unfolding fields_text
fields_same [] = refl
fields_same (field ∷ rest) = rw (field_same field, fields_same rest) refl

pub line_same : (fields : List (List ℕ)) → row_text flexible_writer fields ≡ line_of fields
unfolding is_blank
line_same [] = refl
line_same (field ∷ []) = rw (field_same field, fields_same []) refl
line_same (field ∷ next ∷ rest) = rw (field_same field, fields_same (next ∷ rest)) refl

-- a row that is written stands behind the text
pub row_added : (failed : Bool) (old new : Option (List ℕ)) (before row line : List ℕ) → failed ≡ false → IsSome old → text_unless failed old ≡ before → Appends old new row → row ≡ line
    → text_unless failed new ≡ before ++ line
row_added true old new before row line sound known is appended same = absurd (false≢true (sym sound))
row_added false None new before row line sound known is appended same = absurd (false≢true known)
row_added false (Some xs) None before row line sound known is appended same = absurd appended
row_added false (Some xs) (Some ys) before row line sound known is appended same = appended ∙ ap (λ bytes. bytes ++ row) is ∙ ap (λ bytes. before ++ bytes) same

-- it quotes where it has to
pub quotes_as_needed : {W : Type 0} (writer : Writer W) → writer_setup writer ≡ flexible_writer → (writer_setup writer).style ≢ style.NonNumeric
quotes_as_needed writer setup numeric = cc (sym (ap (λ (b : WriterBuilder). b.style) setup) ∙ numeric)
