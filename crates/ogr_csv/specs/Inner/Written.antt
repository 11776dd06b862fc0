-- The text of rows that one writer has written.
use Rattle.std.specs.Prelude.{◌≡◌, ℕ, Bool, true, false, List, [], Option, Some, None}
use Rattle.csv.specs.Writing.{default_writer, fields_written, has_written, writer_setup}
use Rattle.csv.specs.declared.writer.Writer.{Writer}
use Rattle.csv.specs.declared.writer.WriterBuilder.{WriterBuilder}

-- the default writer, but for that rows may differ in their number of fields
abbrev pub flexible_writer : WriterBuilder
flexible_writer = record default_writer { flexible = true }

-- the bytes that were written; none after a failure
abbrev pub text_unless : Bool → Option (List ℕ) → List ℕ
text_unless true text = []
text_unless false None = []
text_unless false (Some text) = text

-- a writer that stands behind a row
pub record IsWriting {W : Type 0} (writer : Writer W) : Type 0 where
  pub setup : writer_setup writer ≡ flexible_writer
  pub between : fields_written writer ≡ 0
  pub clean : has_written writer ≡ false

abbrev pub IsWritingUnless : {W : Type 0} → Bool → Writer W → Type 0
IsWritingUnless true writer = Unit {0}
IsWritingUnless false writer = IsWriting writer
