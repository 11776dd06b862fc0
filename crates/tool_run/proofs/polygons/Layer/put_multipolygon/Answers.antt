use Rattle.std.proofs.Common.{◌≡◌, ◌∙◌, ◌<◌, ◌++◌, ℕ, List, length, map, ap, arith, sym}
use Rattle.std.specs.Prelude.{codes}
use Rattle.std.proofs.lemmas.Grind.{common_steps}
use Rattle.std.proofs.lemmas.List.{length-map}
use Rattle.std.proofs.lemmas.Result.{on_ok_weaker}
use Rattle.wkt_text.specs.declared.geometry.Pt.{Pt}
use Rattle.wkt_text.specs.Spelling.{list_text, polygon_text}
use Rattle.tool_outcome.specs.Polygonize.{paths_of}
use Rattle.tool_run.specs.Inner.Rows.{polygon_at}
use Rattle.tool_run.proofs.ShapeTextLemmas.{body_some}
use Rattle.tool_run.proofs.polygons.Layer.put_multipolygon.Goals as goal

pub returns-clause-text : goal.returns-clause-text
returns-clause-text c =
    let layer = c.args.self.now in
    let parts = c.args.parts.now in
    let make : ℕ → List (List Pt) = λ j. paths_of layer.frame (polygon_at layer.faces j) in
    let some : 0 < length parts = grind (arith, common_steps, c.if-is_empty.false, c.is_empty.ensures) in
    let kind : c.extend_from_slice.new.self.items ≡ codes "MULTIPOLYGON " = c.in_ok-extend_from_slice.ensures.items ∙ ap (λ (text : List ℕ). text ++ codes "MULTIPOLYGON ") c.clear.ensures.items in
    let body = body_some polygon_text (map make parts) (omega (arith, length-map parts make, some)) in
    on_ok_weaker c.write_parts.result
    (λ written. written ∙ ap (λ (text : List ℕ). text ++ list_text polygon_text (map make parts)) kind ∙ ap (λ (text : List ℕ). codes "MULTIPOLYGON " ++ text) (sym body))
    c.write_parts.ensures.text
