use Rattle.std.proofs.Common.{◌≡◌, ◌∙◌, ◌≤◌, ◌<◌, ◌++◌, List, All, length, map, refl, ap, sym, subst, arith, rules}
use Rattle.std.proofs.lemmas.List.{length-map}
use Rattle.std.proofs.lemmas.List.Elements.{All-head, All-tail}
use Rattle.geo_transform.specs.declared.frame.Frame.{Frame}
use Rattle.ring_faces.specs.Faces.{IsCornerOf}
use Rattle.ring_faces.specs.Ring.{Ring}
use Rattle.tool_outcome.specs.Polygonize.{path_of}
use Rattle.wkt_text.proofs.WriteLemmas.{all_written, member_written, none_written}
use Rattle.wkt_text.specs.Inner.Spelled.{IsWriting}
use Rattle.wkt_text.specs.Spelling.{path_text}
use Rattle.tool_run.proofs.shape_text.write_polygon.Goals as goal

pub rings-init : goal.rings-init
rings-init c =
    let frame = c.args.texts.now.frame in
    let out = c.args.out.now.items in
    let rings = c.args.rings in
    let some : 0 < length (map (path_of frame) rings) = omega (arith, length-map rings (path_of frame), c.requires.some) in
    let all : c.into_iter-ring-iterator.result ≡ rings = search rules in
    record {
      frame = refl;
      written = subst (λ (left : List Ring). IsWriting path_text (map (path_of frame) rings) out out 40 (map (path_of frame) left)) (sym all) (none_written path_text (map (path_of frame) rings) out some);
      long = subst (All (λ ring. 4 ≤ length ring)) (sym all) c.requires.long;
      fit = subst (All (All (IsCornerOf frame.nrows frame.ncols))) (sym all) c.requires.corners;
      can = tt;
      finite = tt;
    }

pub write_ring-requires-clause-some : goal.write_ring-requires-clause-some
write_ring-requires-clause-some c =
    let long = All-head (λ ring. 4 ≤ length ring) c.in-Some.ring c.next.new.self (rw c.in-Some.ensures.steps at c.rings.invariant.long) in
    omega (arith, long)

pub write_ring-requires-clause-corners : goal.write_ring-requires-clause-corners
write_ring-requires-clause-corners c =
    let frame = c.args.texts.now.frame in
    let ring = c.in-Some.ring in
    let fit = All-head (All (IsCornerOf frame.nrows frame.ncols)) ring c.next.new.self (rw c.in-Some.ensures.steps at c.rings.invariant.fit) in
    subst (λ (f : Frame). All (IsCornerOf f.nrows f.ncols) ring) (sym c.rings.invariant.frame) fit

pub rings-preserved : goal.rings-preserved
rings-preserved c =
    let frame = c.args.texts.now.frame in
    let ring = c.in-Some.ring in
    let next = ap (map (path_of frame)) c.in-Some.ensures.steps in
    let written = c.in_ok-write_ring.ensures.text ∙ ap (λ (f : Frame). c.push.new.self.items ++ path_text (path_of f ring)) c.rings.invariant.frame in
    record {
      frame = c.write_ring.ensures.frame ∙ c.rings.invariant.frame;
      written = member_written (path_of frame ring) (map (path_of frame) c.next.new.self) c.push.new.self.items c.write_ring.new.out.items c.rings.invariant.written next c.in_ok-push.ensures.items written;
      long = All-tail (λ ring. 4 ≤ length ring) ring c.next.new.self (rw c.in-Some.ensures.steps at c.rings.invariant.long);
      fit = All-tail (All (IsCornerOf frame.nrows frame.ncols)) ring c.next.new.self (rw c.in-Some.ensures.steps at c.rings.invariant.fit);
      can = tt;
      finite = tt;
    }

pub returns-clause-text : goal.returns-clause-text
returns-clause-text c = all_written c.push-2.new.self.items c.rings.invariant.written (ap (map (path_of c.args.texts.now.frame)) c.in-None.ensures.steps.0) c.in_ok-push-2.ensures.items
