use Rattle.std.specs.Prelude.{Some}
use Rattle.csv.specs.Records.{fields_of}
use Rattle.ogr_csv.proofs.RecordLemmas.{takes_record}
use Rattle.ogr_csv.proofs.reader.read_record.Goals as goal

pub returns-clause-taken : goal.returns-clause-taken
returns-clause-taken c =
    takes_record (λ s. Some s.now) c.args.reader.now c.read_byte_record.new.self c.in-Ok.found (fields_of c.read_byte_record.new.row) c.requires
    (c.in-Ok.ensures.reads c.requires.plain c.requires.ready)
