use Rattle.std.proofs.Common.{arith, ◌≡◌, ◌∙◌, ap, Ok, to_z, of_z}
use Rattle.std.specs.Int.{w128}
use Rattle.std.proofs.lemmas.Int.{ints}
use Rattle.fixed_coord.proofs.CutLemmas.{pow10_pos}
use Rattle.fixed_coord.proofs.ReadLemmas.{scaled_is}
use Rattle.fixed_coord.proofs.read.scaled.Goals as goal

pub returns : goal.returns
returns c =
    let same : to_z w128 (of_z w128 c.signed-2.result) ≡ c.signed-2.result = omega (arith, ints) in
    ap Ok same
    ∙ scaled_is c.args.text.now _ c.args.places c.cut_at_point-cut.result.front c.tenth.result c.signed-2.result c.in-Some.ensures.value (pow10_pos _) c.cut_at_point-cut.ensures.in_front
    c.tenth.ensures c.signed-2.ensures
