use Rattle.std.proofs.Common.{◌≡◌, ◌<◌, ℕ, false}
use Rattle.csv.specs.Records.{field_at, fields_of}
use Rattle.ogr_csv.specs.Inner.Read.{is_named}
use Rattle.ogr_csv.proofs.columns.column_of.Given as goal

-- no column so far has the name
abbrev pub invariant-columns : goal.invariant-columns
invariant-columns l = (k : ℕ) → k < l.column → is_named l.name (field_at (fields_of l.header) k) ≡ false
