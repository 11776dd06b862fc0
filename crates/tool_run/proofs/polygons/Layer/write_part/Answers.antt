use Rattle.std.proofs.Common.{◌∙◌, ◌≤◌, ◌++◌, List, All, length, map, ap, arith, subst, sym}
use Rattle.std.proofs.lemmas.Result.{on_ok_weaker}
use Rattle.geo_transform.specs.declared.frame.Frame.{Frame}
use Rattle.ring_faces.specs.Faces.{IsCornerOf}
use Rattle.ring_faces.specs.Ring.{Ring}
use Rattle.tool_outcome.specs.Polygonize.{path_of}
use Rattle.wkt_text.specs.Spelling.{polygon_text}
use Rattle.tool_run.proofs.LayerLemmas.{fit_at, rings_at}
use Rattle.tool_run.proofs.polygons.Layer.write_part.Goals as goal

pub write_polygon-requires-clause-some : goal.write_polygon-requires-clause-some
write_polygon-requires-clause-some c =
    let layer = c.args.self.now in
    let is = rings_at layer.faces c.args.j c.rings.result c.requires.j c.rings.ensures in
    omega (arith, ap length is)

pub write_polygon-requires-clause-long : goal.write_polygon-requires-clause-long
write_polygon-requires-clause-long c =
    let layer = c.args.self.now in
    let is = rings_at layer.faces c.args.j c.rings.result c.requires.j c.rings.ensures in
    subst (All (λ ring. 4 ≤ length ring)) (sym is) (fit_at layer.frame layer.faces c.args.j c.requires.fit c.requires.j).long

pub write_polygon-requires-clause-corners : goal.write_polygon-requires-clause-corners
write_polygon-requires-clause-corners c =
    let layer = c.args.self.now in
    let is = rings_at layer.faces c.args.j c.rings.result c.requires.j c.rings.ensures in
    let fit = subst (All (All (IsCornerOf layer.frame.nrows layer.frame.ncols))) (sym is) (fit_at layer.frame layer.faces c.args.j c.requires.fit c.requires.j).corners in
    subst (λ (f : Frame). All (All (IsCornerOf f.nrows f.ncols)) c.rings.result) (sym c.requires.frame) fit

pub returns-clause-text : goal.returns-clause-text
returns-clause-text c =
    let layer = c.args.self.now in
    let is = rings_at layer.faces c.args.j c.rings.result c.requires.j c.rings.ensures in
    let before = c.args.out.now.items in
    let same =
    ap (λ (f : Frame). before ++ polygon_text (map (path_of f) c.rings.result)) c.requires.frame
    ∙ ap (λ (rings : List Ring). before ++ polygon_text (map (path_of layer.frame) rings)) is in
    on_ok_weaker c.write_polygon.result (λ written. written ∙ same) c.write_polygon.ensures.text
