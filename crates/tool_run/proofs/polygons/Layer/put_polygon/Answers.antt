use Rattle.std.proofs.Common.{◌≡◌, ◌∙◌, ◌++◌, ℕ, List, ap}
use Rattle.std.proofs.lemmas.Result.{on_ok_weaker}
use Rattle.std.specs.Prelude.{codes}
use Rattle.tool_outcome.specs.Polygonize.{paths_of}
use Rattle.wkt_text.specs.Spelling.{polygon_text}
use Rattle.tool_run.specs.Inner.Rows.{polygon_at}
use Rattle.tool_run.proofs.polygons.Layer.put_polygon.Goals as goal

pub returns-clause-text : goal.returns-clause-text
returns-clause-text c =
    let layer = c.args.self.now in
    let body : List ℕ = polygon_text (paths_of layer.frame (polygon_at layer.faces c.args.j)) in
    let kind : c.extend_from_slice.new.self.items ≡ codes "POLYGON " = c.in_ok-extend_from_slice.ensures.items ∙ ap (λ (text : List ℕ). text ++ codes "POLYGON ") c.clear.ensures.items in
    on_ok_weaker c.write_part.result (λ written. written ∙ ap (λ (text : List ℕ). text ++ body) kind) c.write_part.ensures.text
