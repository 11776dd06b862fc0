use Rattle.std.proofs.Common.{◌≡◌, ◌∙◌, ◌∷◌, [], ℤ, Some, ap, arith}
use Rattle.std.specs.Prelude.{slice_get}
use Rattle.std.proofs.lemmas.Grind.{common_steps}
use Rattle.std.proofs.lemmas.Option.{gets}
use Rattle.fixed_coord.specs.Shortest.{shortest}
use Rattle.wkt_text.specs.Spelling.{wkt}
use Rattle.tool_outcome.specs.Polygonize.{shape_of}
use Rattle.tool_run.specs.Inner.Rows.{shapes_of}
use Rattle.tool_run.proofs.LayerLemmas.{zip_at}
use Rattle.tool_run.proofs.polygons.Layer.put_row.Goals as goal

pub returns-clause-row : goal.returns-clause-row
returns-clause-row c =
    let layer = c.args.self.now in
    let drawn = c.in_ok-put_shape.ensures.text in
    let value : ℤ = c.index.result.now in
    let at_value : slice_get layer.values.items c.args.k ≡ Some value = grind (arith, common_steps, gets) in
    let value_is : c.put_number.new.text.items ≡ shortest value 0 = grind (arith, common_steps) in
    record {
      component = (value, drawn.1.0);
      at = zip_at layer.values.items (shapes_of layer.parts layer.faces) c.args.k value drawn.1.0 at_value drawn.1.1;
      row = ap (λ t. t ∷ c.put_number.new.text.items ∷ []) (drawn.2 ∙ ap wkt drawn.1.2) ∙ ap (λ v. wkt (shape_of layer.frame drawn.1.0) ∷ v ∷ []) value_is;
    }
