use Rattle.std.proofs.Common.{◌∙◌, arith, sym}
use Rattle.csv.specs.Records.{fields_of}
use Rattle.ogr_csv.proofs.ColumnLemmas.{column_found, column_missing}
use Rattle.ogr_csv.proofs.columns.column_of.Goals as goal

pub returns-then-is_named : goal.returns-then-is_named
returns-then-is_named c =
    sym (column_found c.args.name.now (fields_of c.args.header.now) c.columns.column (omega arith) c.columns.invariant (sym c.is_named.ensures ∙ c.if-is_named.true))

pub returns : goal.returns
returns c = sym (column_missing c.args.name.now (fields_of c.args.header.now) (λ k h. c.columns.invariant k (omega (arith, h))))
