use Rattle.std.proofs.Common.{◌∙◌, ℕ, List, map, refl, arith}
use Rattle.std.proofs.lemmas.List.{length-map}
use Rattle.wkt_text.proofs.WriteLemmas.{none_written}
use Rattle.wkt_text.specs.declared.geometry.Pt.{Pt}
use Rattle.wkt_text.specs.Spelling.{polygon_text}
use Rattle.tool_outcome.specs.Polygonize.{paths_of}
use Rattle.tool_run.specs.Inner.Rows.{polygon_at}
use Rattle.tool_run.proofs.LayerLemmas.{some_at}
use Rattle.tool_run.proofs.ShapeTextLemmas.{all_made, made_written}
use Rattle.tool_run.proofs.polygons.Layer.write_parts.Goals as goal

pub parts-init : goal.parts-init
parts-init c =
    let layer = c.args.self.now in
    let make : ℕ → List (List Pt) = λ j. paths_of layer.frame (polygon_at layer.faces j) in
    record {
      frame = refl;
      written = none_written polygon_text (map make c.args.parts.now) c.args.out.now.items (omega (arith, length-map c.args.parts.now make, c.requires.some));
    }

pub write_part-requires-clause-frame : goal.write_part-requires-clause-frame
write_part-requires-clause-frame c = c.parts.invariant.frame ∙ c.requires.frame

pub parts-preserved : goal.parts-preserved
parts-preserved c =
    let layer = c.args.self.now in
    let make : ℕ → List (List Pt) = λ j. paths_of layer.frame (polygon_at layer.faces j) in
    let at = some_at c.args.parts.now c.parts.part-index 0 c.parts-test.true in
    record {
      frame = c.write_part.ensures.frame ∙ c.parts.invariant.frame;
      written = made_written polygon_text make c.args.parts.now c.parts.part-index _ c.args.out.now.items c.parts.out.items c.push.new.self.items c.write_part.new.out.items c.parts.mark at c.parts.invariant.written c.in_ok-push.ensures.items c.in_ok-write_part.ensures.text;
    }

pub returns-clause-text : goal.returns-clause-text
returns-clause-text c =
    let layer = c.args.self.now in
    let make : ℕ → List (List Pt) = λ j. paths_of layer.frame (polygon_at layer.faces j) in
    all_made polygon_text make c.args.parts.now c.parts.part-index c.args.out.now.items c.parts.out.items c.push-2.new.self.items c.parts.mark c.parts-test.false c.parts.invariant.written c.in_ok-push-2.ensures.items
