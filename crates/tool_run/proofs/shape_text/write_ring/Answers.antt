use Rattle.std.proofs.Common.{◌≡◌, ◌∷◌, ◌++◌, ◌∙◌, [], All, map, refl, subst, sym}
use Rattle.std.proofs.lemmas.List.Elements.{All-head, All-tail}
use Rattle.edge_trace.specs.Edge.{Corner}
use Rattle.ring_faces.specs.Faces.{IsCornerOf}
use Rattle.ring_faces.specs.Ring.{Ring}
use Rattle.tool_outcome.specs.Polygonize.{path_of, point_of}
use Rattle.wkt_text.specs.Inner.Spelled.{IsWriting}
use Rattle.wkt_text.specs.Spelling.{point_text}
use Rattle.tool_run.proofs.ShapeTextLemmas.{corner_within, corner_written, first_written, ring_written}
use Rattle.tool_run.proofs.shape_text.write_ring.Goals as goal

pub write-requires : goal.write-requires
write-requires c =
    let frame = c.args.texts.now.frame in
    let parts : c.args.ring ≡ (c.unwrap-first.result.row, c.unwrap-first.result.col) ∷ c.next.new.self = rw c.unwrap-first.ensures at c.next.ensures.steps in
    All-head (IsCornerOf frame.nrows frame.ncols) _ c.next.new.self (subst (All (IsCornerOf frame.nrows frame.ncols)) parts c.requires.corners)

pub corners-init : goal.corners-init
corners-init c =
    let frame = c.args.texts.now.frame in
    let first : Corner = (c.unwrap-first.result.row, c.unwrap-first.result.col) in
    let rest = c.next.new.self in
    let parts : c.args.ring ≡ first ∷ rest = rw c.unwrap-first.ensures at c.next.ensures.steps in
    let all : c.into_iter-corner-iterator.result ≡ rest = c.into_iter-corner-iterator.ensures.into_iter_gives in
    let fit = subst (All (IsCornerOf frame.nrows frame.ncols)) parts c.requires.corners in
    record {
      frame = c.write.ensures.frame;
      written = subst (λ (left : Ring). IsWriting point_text (path_of frame c.args.ring) c.args.out.now.items c.write.new.out.items 44 (map (point_of frame) (left ++ first ∷ []))) (sym all)
          (first_written frame frame c.args.ring rest first c.args.out.now.items c.push.new.self.items c.write.new.out.items refl parts c.in_ok-push.ensures.items c.in_ok-write.ensures.text);
      first = All-head (IsCornerOf frame.nrows frame.ncols) first rest fit;
      fit = subst (All (IsCornerOf frame.nrows frame.ncols)) (sym all) (All-tail (IsCornerOf frame.nrows frame.ncols) first rest fit);
      can = tt;
      finite = tt;
    }

pub write-requires-in-corners : goal.write-requires-in-corners
write-requires-in-corners c =
    let frame = c.args.texts.now.frame in
    let fit = All-head (IsCornerOf frame.nrows frame.ncols) _ c.next-in-corners.new.self (rw c.in-Some.ensures.steps at c.corners.invariant.fit) in
    corner_within frame c.corners.texts.frame _ c.corners.invariant.frame fit

pub corners-preserved : goal.corners-preserved
corners-preserved c =
    let frame = c.args.texts.now.frame in
    let first : Corner = (c.unwrap-first.result.row, c.unwrap-first.result.col) in
    let corner : Corner = (c.in-Some.corner.row, c.in-Some.corner.col) in
    let rest = c.next-in-corners.new.self in
    record {
      frame = c.write-in-corners.ensures.frame ∙ c.corners.invariant.frame;
      written = corner_written frame c.corners.texts.frame c.args.ring c.corners.corner-iterator rest first corner c.args.out.now.items c.corners.out.items c.push-in-corners.new.self.items c.write-in-corners.new.out.items c.corners.invariant.frame c.in-Some.ensures.steps c.corners.invariant.written c.in_ok-push-2.ensures.items c.in_ok-write-2.ensures.text;
      first = c.corners.invariant.first;
      fit = All-tail (IsCornerOf frame.nrows frame.ncols) corner rest (rw c.in-Some.ensures.steps at c.corners.invariant.fit);
      can = tt;
      finite = tt;
    }

pub write-requires-2 : goal.write-requires-2
write-requires-2 c = corner_within c.args.texts.now.frame c.corners.texts.frame _ c.corners.invariant.frame c.corners.invariant.first

pub returns-clause-text : goal.returns-clause-text
returns-clause-text c = ring_written c.args.texts.now.frame c.corners.texts.frame c.args.ring c.corners.corner-iterator (c.unwrap-first.result.row, c.unwrap-first.result.col) c.args.out.now.items c.corners.out.items c.push-2.new.self.items c.write-2.new.out.items c.push-3.new.self.items c.corners.invariant.frame c.in-None.ensures.steps.0 c.corners.invariant.written c.in_ok-push-3.ensures.items c.in_ok-write-3.ensures.text c.in_ok-push-4.ensures.items
