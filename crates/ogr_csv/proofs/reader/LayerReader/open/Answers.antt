use Rattle.std.proofs.Common.{◌+◌, ◌<◌, ◌^◌, length, arith, refl, ◌∙◌, ap}
use Rattle.ogr_csv.proofs.RecordLemmas.{header_taken}
use Rattle.ogr_csv.proofs.reader.LayerReader.open.Goals as goal

pub invariant_of-result : goal.invariant_of-result
invariant_of-result c =
    let taken = rw c.in-Ok-true.field-0-test at c.in-Ok-true.ensures.taken in
    let reading = c.in-Ok-true.ensures.reading c.in-Ok-true.field-0-test in
    let short : length c.args.bytes.now + 1 < 2 ^ 64 = omega arith in
    let few = header_taken c.args.bytes.now _ _ _ _ c.from_reader-reader.ensures.state c.from_reader-reader.ensures.source taken in
    record { reading = reading; few = omega (arith, few, short) }
