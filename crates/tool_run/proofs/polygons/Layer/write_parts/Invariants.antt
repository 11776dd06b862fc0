use Rattle.std.proofs.Common.{◌≡◌, drop, map}
use Rattle.tool_outcome.specs.Polygonize.{paths_of}
use Rattle.wkt_text.specs.Inner.Spelled.{IsWriting}
use Rattle.wkt_text.specs.Spelling.{polygon_text}
use Rattle.tool_run.specs.Inner.Rows.{polygon_at}
use Rattle.tool_run.proofs.polygons.Layer.write_parts.Given as goal

-- the parts that are left
abbrev pub invariant-parts : goal.invariant-parts
invariant-parts l = record {
  frame : l.texts.frame ≡ l.fn.texts.frame;
  written : IsWriting polygon_text (map (λ j. paths_of l.self.frame (polygon_at l.self.faces j)) l.parts) l.fn.out.items l.out.items l.mark
      (map (λ j. paths_of l.self.frame (polygon_at l.self.faces j)) (drop l.part-index l.parts));
}
