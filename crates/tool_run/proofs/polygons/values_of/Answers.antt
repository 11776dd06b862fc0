use Rattle.std.proofs.Common.{◌∙◌, map, ap, arith}
use Rattle.std.proofs.lemmas.Grind.{common_steps}
use Rattle.std.proofs.lemmas.List.{take_all}
use Rattle.sieve_core.proofs.ValueLemmas.{first_inside, firsts_in}
use Rattle.tool_outcome.specs.Polygonize.{value_of}
use Rattle.tool_run.proofs.LayerLemmas.{map_more}
use Rattle.tool_run.proofs.polygons.values_of.Goals as goal

pub get-requires-clause-row : goal.get-requires-clause-row
get-requires-clause-row c =
    let labelled = c.requires.2 in
    let inside = first_inside c.args.regions.now c.components.k c.first-row.result (firsts_in c.requires.0 c.args.cells.now c.requires.1 c.args.regions.now labelled) labelled.numbers.second c.first-row.ensures in
    omega (arith, inside.0, labelled.numbers.nrows)

pub get-requires-clause-col : goal.get-requires-clause-col
get-requires-clause-col c =
    let labelled = c.requires.2 in
    let inside = first_inside c.args.regions.now c.components.k c.first-row.result (firsts_in c.requires.0 c.args.cells.now c.requires.1 c.args.regions.now labelled) labelled.numbers.second c.first-row.ensures in
    omega (arith, inside.1, labelled.numbers.ncols)

pub components-preserved : goal.components-preserved
components-preserved c =
    let more = map_more (value_of c.args.cells.now) c.args.regions.now.firsts c.components.k c.first-row.result c.first-row.ensures in
    record { values = grind (arith, common_steps, c.components.invariant.values, more) }

pub returns : goal.returns
returns c = record {
  values = c.components.invariant.values ∙ ap (map (value_of c.args.cells.now)) (take_all c.components.k c.args.regions.now.firsts (omega (arith, c.components-test.false, c.count-k-end.ensures)));
  few = omega (arith, c.count-k-end.ensures, c.count-k-end.type_inv);
}
