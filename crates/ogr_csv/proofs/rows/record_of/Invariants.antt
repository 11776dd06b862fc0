use Rattle.std.proofs.Common.{◌≡◌, [], take}
use Rattle.std.specs.Prelude.{map}
use Rattle.csv.specs.Records.{fields_of, partial_of}
use Rattle.ogr_csv.proofs.rows.record_of.Given as goal

abbrev pub invariant-fields : goal.invariant-fields
invariant-fields l = record {
  fields : fields_of l.row ≡ map (λ field. field.items) (take l.field-index l.fields);
  none : partial_of l.row ≡ [];
}
