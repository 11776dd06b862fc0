use Rattle.std.proofs.Common.{◌≡◌, ◌≤◌, All, length, map}
use Rattle.ring_faces.specs.Faces.{IsCornerOf}
use Rattle.tool_outcome.specs.Polygonize.{path_of}
use Rattle.wkt_text.specs.Inner.Spelled.{IsWriting}
use Rattle.wkt_text.specs.Spelling.{path_text}
use Rattle.tool_run.proofs.shape_text.write_polygon.Given as goal

-- the rings that are left
abbrev pub invariant-rings : goal.invariant-rings
invariant-rings l = record {
  frame : l.texts.frame ≡ l.fn.texts.frame;
  written : IsWriting path_text (map (path_of l.fn.texts.frame) l.fn.rings) l.fn.out.items l.out.items l.mark
      (map (path_of l.fn.texts.frame) l.ring-iterator);
  long : All (λ ring. 4 ≤ length ring) l.ring-iterator;
  fit : All (All (IsCornerOf l.fn.texts.frame.nrows l.fn.texts.frame.ncols)) l.ring-iterator;
  can : (goal.iterator-rings).can_next l.ring-iterator;
  finite : (goal.iterator-rings).is_finite l.ring-iterator;
}
