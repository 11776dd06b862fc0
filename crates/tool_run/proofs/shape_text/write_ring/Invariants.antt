use Rattle.std.proofs.Common.{◌≡◌, ◌++◌, ◌∷◌, [], All, map}
use Rattle.ring_faces.specs.Faces.{IsCornerOf}
use Rattle.tool_outcome.specs.Polygonize.{path_of, point_of}
use Rattle.wkt_text.specs.Inner.Spelled.{IsWriting}
use Rattle.wkt_text.specs.Spelling.{point_text}
use Rattle.tool_run.proofs.shape_text.write_ring.Given as goal

-- the points that are left: those of the corners to come, and the first again
abbrev pub invariant-corners : goal.invariant-corners
invariant-corners l = record {
  frame : l.texts.frame ≡ l.fn.texts.frame;
  written : IsWriting point_text (path_of l.fn.texts.frame l.fn.ring) l.fn.out.items l.out.items 44
      (map (point_of l.fn.texts.frame) (l.corner-iterator ++ (l.first.row, l.first.col) ∷ []));
  first : IsCornerOf l.fn.texts.frame.nrows l.fn.texts.frame.ncols (l.first.row, l.first.col);
  fit : All (IsCornerOf l.fn.texts.frame.nrows l.fn.texts.frame.ncols) l.corner-iterator;
  can : (goal.iterator-corners).can_next l.corner-iterator;
  finite : (goal.iterator-corners).is_finite l.corner-iterator;
}
